use Rattle.std.specs.List.{range_with_len}
use Rattle.std.proofs.Common.{◌∙◌, ◌++◌, ◌∷◌, [], ℕ, List, Option, map, sym, ap, arith}
use Rattle.std.proofs.lemmas.List.FromFn.{map-range_with_len_more}
use Rattle.aso_outline.specs.Classes.{class_at}
use Rattle.aso_region.proofs.tables.classes_of.Goals as goal

pub loop-leaf-preserved : goal.loop-leaf-preserved
loop-leaf-preserved c =
    let f : ℕ → Option ℕ = class_at c.args.outline.now c.args.dim c.args.hier 1 in
    c.in_ok-push.ensures.items
    ∙ (ap (λ (xs : List (Option ℕ)). xs ++ c.class_of-class.result ∷ []) c.loop-leaf.invariant
    ∙ (ap (λ (x : Option ℕ). map f (range_with_len 0 c.loop-leaf.leaf) ++ x ∷ []) c.class_of-class.ensures.value
    ∙ sym (map-range_with_len_more f 0 c.loop-leaf.leaf c.loop-leaf.leaf (omega arith))))
