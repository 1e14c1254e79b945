use Rattle.std.proofs.Common.{◌≡◌, ◌++◌, ℕ, List, [], ◌∷◌, length, refl, sym, ◌∙◌, ap, subst, length-append, arith}
use Rattle.aso_catalog.specs.Record.{IsAbove, last_leaves}
use Rattle.aso_catalog.specs.declared.record.LeafCell.{LeafCell}
use Rattle.aso_catalog.proofs.Fields.{Found, bad_weaker, found_none, found_more, found_all, no_next, not_above, empty_of}
use Rattle.aso_catalog.proofs.reading.cells_at.Goals as goal

pub loop-init : goal.loop-init
loop-init c = record {
  count = ap length c.new-found.ensures.items;
  so_far = subst (λ (l : List LeafCell). Found c.args.dimensions l c.args.bytes.now c.args.bytes.now) (sym c.new-found.ensures.items) (found_none c.args.dimensions c.args.bytes.now);
}

pub returns-in-Err-clause-bad : goal.returns-in-Err-clause-bad
returns-in-Err-clause-bad c =
    let so_far = c.loop.invariant in
    bad_weaker c.in-Err.fault _ _ c.in-Err.ensures.bad (λ none all same spelled. no_next c.args.dimensions c.loop.found.items c.args.bytes.now c.loop.rest.now so_far.so_far (λ cell front behind is above. none cell front behind is) all (omega (arith, so_far.count)) spelled)

pub returns-then-not-is_above-clause-bad : goal.returns-then-not-is_above-clause-bad
returns-then-not-is_above-clause-bad c =
    let cell = c.in-Ok.found.0 in
    let is = c.in-Ok.ensures.found in
    let so_far = c.loop.invariant in
    let low : IsAbove (last_leaves c.loop.found.items) cell.leaves → ⊥ = λ above.
    let at_cells = subst (λ (l : List LeafCell). IsAbove (last_leaves l) cell.leaves) (sym c.deref.ensures.value) above in
    let at_leaves = subst (λ (l : List ℕ). IsAbove (last_leaves c.deref.result.now) l) (sym c.items.ensures) at_cells in
    let yes = c.is_above.ensures.1 at_leaves in
    let no = c.if-not-is_above.true in
    cc (yes, no) in
    (refl, λ all same spelled. not_above c.args.dimensions c.loop.found.items cell is.0 c.args.bytes.now c.loop.rest.now c.in-Ok.found.1.now so_far.so_far is.1 low is.2 all (omega (arith, so_far.count)) spelled)

pub loop-preserved : goal.loop-preserved
loop-preserved c =
    let cell = c.in-Ok.found.0 in
    let is = c.in-Ok.ensures.found in
    let so_far = c.loop.invariant in
    let found = c.loop.found.items in
    let pushed : c.push.new.self.items ≡ found ++ cell ∷ [] = c.in_ok-push.ensures.items in
    let yes = c.is_above.ensures.0 c.if-not-is_above.false in
    let at_cells = subst (λ (l : List ℕ). IsAbove (last_leaves c.deref.result.now) l) c.items.ensures yes in
    let above = subst (λ (l : List LeafCell). IsAbove (last_leaves l) cell.leaves) c.deref.ensures.value at_cells in
    record {
      count = ap length pushed ∙ omega (arith, length-append found (cell ∷ []), so_far.count);
      so_far = subst (λ (l : List LeafCell). Found c.args.dimensions l c.args.bytes.now c.in-Ok.found.1.now) (sym pushed)
          (found_more c.args.dimensions found cell is.0 c.args.bytes.now c.loop.rest.now c.in-Ok.found.1.now so_far.so_far is.1 above is.2);
    }

pub returns-then-is_empty-clause-found : goal.returns-then-is_empty-clause-found
returns-then-is_empty-clause-found c =
    let so_far = c.loop.invariant in
    (omega (arith, so_far.count), found_all c.args.dimensions c.loop.found.items c.args.bytes.now c.loop.rest.now so_far.so_far (empty_of c.loop.rest.now c.if-is_empty.ensures))
