use Rattle.std.proofs.Common.{◌≡◌, ◌∙◌, ◌++◌, ◌∷◌, [], List, Option, ℕ, ap, sym, map, rules}
use Rattle.std.specs.List.{range_with_len}
use Rattle.aso_tree.proofs.Paths.{map_push}
use Rattle.aso_outline.specs.Leaves.{ordinal_in}
use Rattle.aso_outline.proofs.build.ordinals.Goals as goal

pub loop-place-preserved : goal.loop-place-preserved
loop-place-preserved c =
    let f : ℕ → Option ℕ = ordinal_in c.args.members.now in
    let pushed : c.push.new.self.items ≡ c.loop-place.ordinals.items ++ c.ordinal_step-ordinal.result.0 ∷ [] = search rules in
    record {
      found = pushed ∙ (ap (λ (xs : List (Option ℕ)). xs ++ c.ordinal_step-ordinal.result.0 ∷ []) c.loop-place.invariant.found ∙ (ap (λ (x : Option ℕ). map f (range_with_len 0 c.loop-place.place) ++ x ∷ []) c.ordinal_step-ordinal.ensures.ordinal ∙ sym (map_push f c.loop-place.place)));
      before = c.ordinal_step-ordinal.ensures.next;
      few = c.ordinal_step-ordinal.ensures.few;
    }
