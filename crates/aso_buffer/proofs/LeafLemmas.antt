-- Lists of data leaves write keys at the layout of view 0.
use Rattle.std.proofs.Common.{◌≡◌, ◌∙◌, ◌+◌, ◌<◌, ◌++◌, ◌∷◌, [], ℕ, zero, suc, List, length, get_or, refl, sym, ap, subst, arith}
use Rattle.std.specs.Prelude.{ℤ, All, slice_index}
use Rattle.std.proofs.lemmas.List.Elements.{All-append, All-weaker}
use Rattle.aso_outline.specs.declared.draft.Draft.{Draft}
use Rattle.aso_outline.specs.Classes.{classes_at, leaf_count}
use Rattle.aso_keys.specs.declared.axis.Axis.{Axis}
use Rattle.aso_keys.specs.Axes.{AreClasses}
use Rattle.aso_keys.specs.Layouts.{AreAxes, IsLayout}
use Rattle.aso_keys.specs.Views.{Choice, IsBase, choice_at}
use Rattle.aso_load.specs.Leaves.{AreLeaves, StandAtLeaves}
use Rattle.aso_buffer.specs.Buffers.{HaveKeys}

level_0 : (xs : List Choice) (d : ℕ) → IsBase xs → (choice_at xs d).1 ≡ 0
level_0 [] zero base = refl
level_0 [] (suc d) base = refl
level_0 (x ∷ xs) zero base = base.0
level_0 (x ∷ xs) (suc d) base = level_0 xs d base.1

are_classes : (o : Draft) (xs : List Choice) (axes : List Axis) (d : ℕ) (leaves : List ℕ) → IsBase xs → AreAxes o xs d axes → length leaves ≡ length axes
    → ((k : ℕ) → k < length axes → slice_index leaves k < leaf_count o (d + k)) → AreClasses axes leaves
are_classes o xs [] d [] base are long each = tt
are_classes o xs [] d (l ∷ leaves) base are long each = absurd (omega (arith, long))
are_classes o xs (a ∷ axes) d [] base are long each = absurd (omega (arith, long))
are_classes o xs (a ∷ axes) d (l ∷ leaves) base are long each =
    let count : a.count ≡ leaf_count o d = are.0.count ∙ ap (classes_at o d (choice_at xs d).0) (level_0 xs d base) in
    let here : d + 0 ≡ d = omega arith in
    let low : l < leaf_count o d = subst (λ (e : ℕ). l < leaf_count o e) here (each 0 (omega arith)) in (
      omega (arith, count, low),
      are_classes o xs axes (d + 1) leaves base are.1 (omega (arith, long)) (λ k lt.
          let there : d + suc k ≡ d + 1 + k = omega arith in
          subst (λ (e : ℕ). slice_index leaves k < leaf_count o e) there (each (suc k) (omega (arith, lt)))),
    )

pub have_keys : (o : Draft) (xs : List Choice) (axes : List Axis) (records : List (List ℕ × ℤ)) → IsBase xs → IsLayout o xs axes → StandAtLeaves o records → HaveKeys axes records
have_keys o xs axes records base layout stand =
    All-weaker (λ (r : List ℕ × ℤ). AreLeaves o r.0) (λ (r : List ℕ × ℤ). AreClasses axes r.0)
    (λ r leaves. are_classes o xs axes 0 r.0 base layout.parts (leaves.long ∙ sym layout.long) (λ k lt.
    let long = layout.long in
    let same : k ≡ 0 + k = omega arith in
    subst (λ (e : ℕ). slice_index r.0 k < leaf_count o e) same (leaves.each k (omega (arith, lt, long)))))
    records stand

pub all_stand : (o : Draft) (xs ys : List (List ℕ × ℤ)) → StandAtLeaves o xs → StandAtLeaves o ys → StandAtLeaves o (xs ++ ys)
all_stand o xs ys a b = All-append (λ (r : List ℕ × ℤ). AreLeaves o r.0) xs ys a b
