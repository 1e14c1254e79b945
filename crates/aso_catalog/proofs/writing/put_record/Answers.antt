use Rattle.std.proofs.Common.{◌≡◌, ◌++◌, ◌^◌, ◌<◌, ℕ, List, [], ◌∷◌, None, length, refl, ◌∙◌, ap, subst, rules}
use Rattle.std.specs.Int.{to_be_bytes, w32, w64}
use Rattle.aso_bytes.specs.Spelling.{Appends}
use Rattle.aso_catalog.specs.declared.record.LeafCell.{LeafCell}
use Rattle.aso_catalog.specs.Record.{AreCells, IsRecord, magic}
use Rattle.aso_catalog.proofs.Fields.{eight, on_ok, on_err}
use Rattle.aso_catalog.proofs.writing.put_record.Goals as goal

pub returns-clause-ok : goal.returns-clause-ok
returns-clause-ok c =
    let r = c.args.r.now in
    let old = c.args.out.now.items in
    let end = c.put_u32-2.new.out.items in
    let new = c.put_cells.new.out.items in
    let cells_is = c.items-4.ensures in
    let below : r.layout < 2 ^ 64 = search rules in
    let size_is = ap (λ (l : List ℕ). to_be_bytes w32 (length l)) c.items.ensures in
    let count_is = ap (λ (l : List LeafCell). to_be_bytes w32 (length l)) c.items-3.ensures in
    on_ok c.put_cells.result (Appends (AreCells r.dimensions None c.items-4.result.now) end new) (Appends (λ bytes. IsRecord r bytes) old new) c.put_cells.ensures.ok
    (λ p. (
      _,
      record {
        cells = p.0;
        head = record { below = below; older = c.requires.older; short = c.requires.short; least = c.requires.least; most = c.requires.most; few = c.requires.few; joined = refl };
        spelled = subst (λ (l : List LeafCell). AreCells r.dimensions None l p.0) cells_is p.1;
      },
      eight old magic (to_be_bytes w64 r.layout) (to_be_bytes w64 r.commit) (to_be_bytes w32 (length r.outline)) r.outline (r.dimensions ∷ []) (to_be_bytes w32 (length r.cells)) p.0 _ _ _ _ _ _ _ _
          c.in_ok-extend_from_slice.ensures.items c.in_ok-put_u64.ensures.ok c.in_ok-put_u64-2.ensures.ok (c.in_ok-put_u32.ensures.ok ∙ ap (λ (l : List ℕ). c.put_u64-2.new.out.items ++ l) size_is)
          (c.in_ok-extend_from_slice-2.ensures.items ∙ ap (λ (l : List ℕ). c.put_u32.new.out.items ++ l) c.items-2.ensures) c.in_ok-push.ensures.items
          (c.in_ok-put_u32-2.ensures.ok ∙ ap (λ (l : List ℕ). c.push.new.self.items ++ l) count_is) p.2,
    ))

pub returns-clause-err : goal.returns-clause-err
returns-clause-err c =
    let r = c.args.r.now in
    let old = c.args.out.now.items in
    let end = c.put_u32-2.new.out.items in
    let new = c.put_cells.new.out.items in
    let size_is = ap (λ (l : List ℕ). to_be_bytes w32 (length l)) c.items.ensures in
    let count_is = ap (λ (l : List LeafCell). to_be_bytes w32 (length l)) c.items-3.ensures in
    on_err c.put_cells.result ((more : List ℕ) × (new ≡ end ++ more)) ((more : List ℕ) × (new ≡ old ++ more)) c.put_cells.ensures.err
    (λ p. (
      _,
      eight old magic (to_be_bytes w64 r.layout) (to_be_bytes w64 r.commit) (to_be_bytes w32 (length r.outline)) r.outline (r.dimensions ∷ []) (to_be_bytes w32 (length r.cells)) p.0 _ _ _ _ _ _ _ _
          c.in_ok-extend_from_slice.ensures.items c.in_ok-put_u64.ensures.ok c.in_ok-put_u64-2.ensures.ok (c.in_ok-put_u32.ensures.ok ∙ ap (λ (l : List ℕ). c.put_u64-2.new.out.items ++ l) size_is)
          (c.in_ok-extend_from_slice-2.ensures.items ∙ ap (λ (l : List ℕ). c.put_u32.new.out.items ++ l) c.items-2.ensures) c.in_ok-push.ensures.items
          (c.in_ok-put_u32-2.ensures.ok ∙ ap (λ (l : List ℕ). c.push.new.self.items ++ l) count_is) p.1,
    ))
