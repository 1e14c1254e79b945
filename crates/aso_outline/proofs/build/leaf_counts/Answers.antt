use Rattle.std.proofs.Common.{◌≡◌, ◌∙◌, ◌++◌, ◌∷◌, ◌+◌, [], List, ℕ, ap, arith, length, sym, map, rules}
use Rattle.std.specs.List.{range_with_len}
use Rattle.std.proofs.lemmas.Grind.{common_steps}
use Rattle.aso_tree.proofs.Paths.{map_push}
use Rattle.aso_outline.specs.Leaves.{leaves_before}
use Rattle.aso_outline.proofs.build.leaf_counts.Goals as goal

pub loop-place-preserved : goal.loop-place-preserved
loop-place-preserved c =
    let f : ℕ → ℕ = leaves_before c.args.members.now in
    let pushed : c.push.new.self.items ≡ c.loop-place.counts.items ++ c.loop-place.count ∷ [] = search rules in
    record {
      counts = pushed ∙ (ap (λ (xs : List ℕ). xs ++ c.loop-place.count ∷ []) c.loop-place.invariant.counts ∙ (ap (λ (x : ℕ). map f (range_with_len 0 c.loop-place.place) ++ x ∷ []) c.loop-place.invariant.before ∙ sym (map_push f c.loop-place.place)));
      before = c.ordinal_step-ordinal.ensures.next;
      few = c.ordinal_step-ordinal.ensures.few;
    }

pub returns : goal.returns
returns c =
    let f : ℕ → ℕ = leaves_before c.args.members.now in
    let all : c.loop-place.place ≡ length c.args.members.now = omega (arith, c.loop-place-test.false, c.loop-place.auto.place-end, c.requires.short) in
    let made : c.loop-place.counts.items ++ c.loop-place.count ∷ [] ≡ map f (range_with_len 0 (length c.args.members.now + 1)) =
    ap (λ (xs : List ℕ). xs ++ c.loop-place.count ∷ []) c.loop-place.invariant.counts
    ∙ (ap (λ (x : ℕ). map f (range_with_len 0 c.loop-place.place) ++ x ∷ []) c.loop-place.invariant.before
    ∙ (sym (map_push f c.loop-place.place) ∙ ap (λ (n : ℕ). map f (range_with_len 0 (n + 1))) all)) in
    grind (arith, common_steps, made)
