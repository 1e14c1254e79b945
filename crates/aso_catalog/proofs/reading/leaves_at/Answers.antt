use Rattle.std.proofs.Common.{◌≡◌, ◌++◌, ◌<◌, ℕ, List, [], ◌∷◌, length, refl, sym, ◌∙◌, ap, subst, length-append, arith, rules}
use Rattle.aso_catalog.specs.Record.{AreSmall, leaves_text}
use Rattle.aso_catalog.proofs.Fields.{leaves_more, small-push, length-leaves_text}
use Rattle.aso_catalog.proofs.reading.leaves_at.Goals as goal

pub returns-in_default-clause-bad : goal.returns-in_default-clause-bad
returns-in_default-clause-bad c =
    let xs = c.loop.leaves.items in
    let rest = c.loop.rest.now in
    let whole : length c.args.bytes.now ≡ length (leaves_text xs ++ rest) = ap length c.loop.invariant.found in
    let few : length rest < 4 = c.in_default.ensures.none in
    (refl, omega (arith, length-append (leaves_text xs) rest, length-leaves_text xs, c.loop.invariant.count))

pub loop-preserved : goal.loop-preserved
loop-preserved c =
    let xs = c.loop.leaves.items in
    let leaf = c.in-Some.leaf in
    let pushed : c.push.new.self.items ≡ xs ++ leaf ∷ [] = c.in_ok-push.ensures.items in
    record {
      count = ap length pushed ∙ omega (arith, length-append xs (leaf ∷ []), c.loop.invariant.count);
      small = subst AreSmall (sym pushed) (small-push xs leaf c.loop.invariant.small (search rules));
      found = leaves_more xs c.args.bytes.now c.loop.rest.now c.in-Some.behind.now leaf c.loop.invariant.found c.in-Some.ensures.found ∙ ap (λ (l : List ℕ). leaves_text l ++ c.in-Some.behind.now) (sym pushed);
    }
