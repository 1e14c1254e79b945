use Rattle.std.specs.List.{range_with_len}
use Rattle.std.proofs.Common.{◌∙◌, ◌++◌, ◌∷◌, [], ℕ, List, Option, map, sym, ap, arith}
use Rattle.std.proofs.lemmas.List.FromFn.{map-range_with_len_more}
use Rattle.aso_region.specs.Kept.{tables_in}
use Rattle.aso_region.proofs.tables.tables_of.Goals as goal

pub loop-dim-preserved : goal.loop-dim-preserved
loop-dim-preserved c =
    let f : ℕ → List (List (Option ℕ)) = tables_in c.args.outline.now c.args.rows.now in
    c.in_ok-push.ensures.items
    ∙ (ap (λ (xs : List (List (List (Option ℕ)))). xs ++ c.in_ok-tables.tables ∷ []) c.loop-dim.invariant
    ∙ (ap (λ (x : List (List (Option ℕ))). map f (range_with_len 0 c.loop-dim.dim) ++ x ∷ []) c.in_ok-tables.ensures
    ∙ sym (map-range_with_len_more f 0 c.loop-dim.dim c.loop-dim.dim (omega arith))))
