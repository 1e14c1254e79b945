use Rattle.std.specs.List.{range_with_len}
use Rattle.std.proofs.Common.{◌∙◌, ◌++◌, ◌∷◌, [], ℕ, List, Option, map, sym, ap, arith}
use Rattle.std.proofs.lemmas.List.FromFn.{map-range_with_len_more}
use Rattle.aso_region.specs.Kept.{table_of}
use Rattle.aso_region.proofs.tables.tables_in.Goals as goal

pub loop-hier-preserved : goal.loop-hier-preserved
loop-hier-preserved c =
    let f : ℕ → List (Option ℕ) = table_of c.args.outline.now c.args.rows.now c.args.dim in
    c.in_ok-push.ensures.items
    ∙ (ap (λ (xs : List (List (Option ℕ))). xs ++ c.in_ok-table.table ∷ []) c.loop-hier.invariant
    ∙ (ap (λ (x : List (Option ℕ)). map f (range_with_len 0 c.loop-hier.hier) ++ x ∷ []) c.in_ok-table.ensures
    ∙ sym (map-range_with_len_more f 0 c.loop-hier.hier c.loop-hier.hier (omega arith))))
