-- Each class of a view's layout is that of a data leaf, so a coarser view's keys take no more bits.
use Rattle.std.proofs.Common.{◌≡◌, ℕ, zero, suc, ◌+◌, ◌-◌, ◌^◌, ◌<◌, ◌≤◌, Bool, true, false, cond, inl, inr, List, [], ◌∷◌, length, refl, sym, ◌∙◌, ap, subst, arith, true≢false}
use Rattle.std.specs.Prelude.{None, Some, nat_lt}
use Rattle.std.specs.List.{filter, range_with_len, sum_by}
use Rattle.std.proofs.lemmas.Bool.{lt-ltb, ltb-true}
use Rattle.std.proofs.lemmas.List.Sums.{sum-map, sum_by-cons}
use Rattle.aso_tree.proofs.ClassCounts.{coarser_by}
use Rattle.aso_outline.specs.declared.draft.Draft.{Draft}
use Rattle.aso_outline.specs.declared.seat.Seat.TheVariants.{Inner}
use Rattle.aso_outline.specs.ClassLeaves.{HasLeaf}
use Rattle.aso_outline.specs.Classes.{class_at, classes_at, leaf_count}
use Rattle.aso_outline.specs.Members.{dim_at, parents_of, tree}
use Rattle.aso_outline.specs.Parents.{one_parent_each}
use Rattle.aso_outline.specs.Rules.{broken, bits_for, key_bits}
use Rattle.aso_outline.proofs.Kept.{has_trees}
use Rattle.aso_outline.proofs.PlacedLeaves.{class_has_leaf, classes_few}
use Rattle.aso_keys.specs.declared.axis.Axis.{Axis}
use Rattle.aso_keys.specs.Axes.{ArePlaced, IsAxis, both, bits_of, class_of, classes_of}
use Rattle.aso_keys.specs.Leaves.{HaveLeaves}
use Rattle.aso_keys.specs.Layouts.{AreAxes, IsAxisOf, IsLayout}
use Rattle.aso_keys.specs.Views.{Choice, choice_at, IsChoice, IsCoarserChoice, IsCoarserView, IsView}
use Rattle.aso_keys.proofs.CoarserLemmas.{coarser_at, of_table}
use Rattle.aso_keys.proofs.WidthLemmas.{few_bits, width_counted}

-- ---- bits of counts

passing_more : (p q : ℕ → Bool) → ((k : ℕ) → p k ≡ true → q k ≡ true) → (xs : List ℕ) → length (filter p xs) ≤ length (filter q xs)
passing_more p q more [] = omega arith
passing_more p q more (x ∷ xs) = by_tests (p x) (q x) (more x) (passing_more p q more xs)
  where
    by_tests : (a b : Bool) → (a ≡ true → b ≡ true) → length (filter p xs) ≤ length (filter q xs) → length (cond a (x ∷ filter p xs) (filter p xs)) ≤ length (cond b (x ∷ filter q xs) (filter q xs))
    by_tests true true h rest = omega (arith, rest)
    by_tests true false h rest = absurd (true≢false (sym (h refl)))
    by_tests false true h rest = omega (arith, rest)
    by_tests false false h rest = omega (arith, rest)

fewer_bits : (m n : ℕ) → m ≤ n → bits_for m ≤ bits_for n
fewer_bits m n le =
    passing_more (λ (b : ℕ). nat_lt (2 ^ b) m) (λ (b : ℕ). nat_lt (2 ^ b) n)
    (λ b h. let low : 2 ^ b < m = ltb-true (2 ^ b) m h in lt-ltb (2 ^ b) n (omega (arith, low, le))) (range_with_len 0 32)

-- ---- a leaf of each class

module _ (o : Draft) (kept : broken o ≡ None) where
  choice_leaf : (d class : ℕ) (x : Choice) → d < length o.dims → IsChoice o d x → class < classes_at o d x.0 x.1 → HasLeaf o d x.0 x.1 class
  choice_leaf d class x low is below = elim is [
    | inl base ↦
        let here : class < classes_at o d x.0 0 = subst (λ (level : ℕ). class < classes_at o d x.0 level) base.1 below in
        subst (λ (level : ℕ). HasLeaf o d x.0 level class) (sym base.1) (class, here, refl)
    | inr stored ↦ class_has_leaf o kept d low x.0 x.1 class stored.0 stored.1 below
  ]

  axis_leaf : (d c : ℕ) (x : Choice) (a : Axis) → d < length o.dims → IsChoice o d x → IsAxisOf o d x a → c < a.count → (l : ℕ) × (class_of a l ≡ Some c)
  axis_leaf d c x a low is of below =
      let count = of.count in
      let found = choice_leaf d c x low is (omega (arith, count, below)) in
      (found.0, of_table (class_at o d x.0 x.1) (leaf_count o d) found.0 a.classes of.classes found.1 ∙ found.2)

  some_leaves : (xs : List Choice) (d : ℕ) (axes : List Axis) → ((k : ℕ) → k < length o.dims → IsChoice o k (choice_at xs k)) → d + length axes ≤ length o.dims → AreAxes o xs d axes → HaveLeaves axes
  some_leaves xs d [] view long are [] fit = ([], refl)
  some_leaves xs d [] view long are (c ∷ cs) fit = absurd fit
  some_leaves xs d (a ∷ axes) view long are [] fit = absurd fit
  some_leaves xs d (a ∷ axes) view long are (c ∷ cs) fit =
      let low : d < length o.dims = omega (arith, long) in
      let here = axis_leaf d c (choice_at xs d) a low (view d low) are.0 fit.0 in
      let rest = some_leaves xs (d + 1) axes view (omega (arith, long)) are.1 cs fit.1 in
      (here.0 ∷ rest.0, ap (λ y. both y (classes_of axes rest.0)) here.1 ∙ ap (λ ys. both (Some c) ys) rest.1)

  pub layout_leaves : (xs : List Choice) (axes : List Axis) → IsView o xs → IsLayout o xs axes → HaveLeaves axes
  layout_leaves xs axes view is = let long = is.long in some_leaves xs 0 axes view.choice (omega (arith, long)) is.parts

  -- ---- counts

  choice_few : (d : ℕ) (x : Choice) (h : ℕ) → d < length o.dims → IsChoice o d x → classes_at o d x.0 x.1 ≤ classes_at o d h 0
  choice_few d x h low is = classes_few o d x.0 x.1 (λ class below. choice_leaf d class x low is below)

  higher_few : (d h fine coarse : ℕ) → fine ≤ coarse → classes_at o d h (suc coarse) ≤ classes_at o d h (suc fine)
  higher_few d h fine coarse le =
      let t = tree (dim_at o d) h in
      let trees = has_trees o kept in
      let short = trees.short (Inner d h 0) in
      coarser_by (parents_of t) (trees.tree (Inner d h 0)) (omega (arith, short, one_parent_each t)) (coarse - fine) (suc fine) (suc coarse) (omega (arith, le))

  both_levels : (d h coarse fine : ℕ) → fine ≤ coarse → (fine ≡ 0 → classes_at o d h coarse ≤ classes_at o d h 0) → classes_at o d h coarse ≤ classes_at o d h fine
  both_levels d h coarse zero le few = few refl
  both_levels d h zero (suc fine) le few = absurd (omega (arith, le))
  both_levels d h (suc coarse) (suc fine) le few = higher_few d h fine coarse (omega (arith, le))

  coarser_few : (d : ℕ) (w v : Choice) → d < length o.dims → IsChoice o d w → IsCoarserChoice w v → classes_at o d w.0 w.1 ≤ classes_at o d v.0 v.1
  coarser_few d w v low is up = elim up [
    | inl base ↦ subst (λ (level : ℕ). classes_at o d w.0 w.1 ≤ classes_at o d v.0 level) (sym base) (choice_few d w v.0 low is)
    | inr same ↦
        subst (λ (h : ℕ). classes_at o d w.0 w.1 ≤ classes_at o d h v.1) same.0
        (both_levels d w.0 w.1 v.1 same.1 (λ _. choice_few d w w.0 low is))
  ]

  -- ---- bits

  narrower : (d : ℕ) (w v : Choice) (b a : Axis) → d < length o.dims → IsChoice o d w → IsCoarserChoice w v → IsAxisOf o d w b → IsAxisOf o d v a → IsAxis b → IsAxis a → b.width ≤ a.width
  narrower d w v b a low is up of_b of_a axis_b axis_a =
      let few = coarser_few d w v low is up in
      let count_b = of_b.count in
      let count_a = of_a.count in
      let writes = axis_a.width.writes in
      axis_b.width.least a.width (omega (arith, few, count_b, count_a, writes))

  narrower_axes : (ws vs : List Choice) (d : ℕ) (bs axes : List Axis) → ((k : ℕ) → k < length o.dims → IsChoice o k (choice_at ws k)) → IsCoarserView ws vs → d + length axes ≤ length o.dims → length o.dims ≤ length vs
      → length bs ≡ length axes → AreAxes o ws d bs → AreAxes o vs d axes → ArePlaced bs → ArePlaced axes → bits_of bs ≤ bits_of axes
  narrower_axes ws vs d [] axes view up long all same of_b of_a placed_b placed_a = omega arith
  narrower_axes ws vs d (b ∷ bs) [] view up long all same of_b of_a placed_b placed_a = absurd (omega (arith, same))
  narrower_axes ws vs d (b ∷ bs) (a ∷ axes) view up long all same of_b of_a placed_b placed_a =
      let low : d < length o.dims = omega (arith, long) in
      let here = narrower d (choice_at ws d) (choice_at vs d) b a low (view d low) (coarser_at ws vs d up (omega (arith, low, all))) of_b.0 of_a.0 placed_b.0 placed_a.0 in
      let rest = narrower_axes ws vs (d + 1) bs axes view up (omega (arith, long)) all (omega (arith, same)) of_b.1 of_a.1 placed_b.2 placed_a.2 in
      omega (arith, here, rest)

  -- the keys of a coarser view take no more bits
  pub narrower_layout : (ws vs : List Choice) (bs axes : List Axis) → IsView o ws → IsView o vs → IsCoarserView ws vs → IsLayout o ws bs → IsLayout o vs axes → ArePlaced bs → ArePlaced axes → bits_of bs ≤ bits_of axes
  narrower_layout ws vs bs axes coarse fine up of_b of_a placed_b placed_a =
      let x = of_b.long in
      let y = of_a.long in
      let z = fine.long in
      narrower_axes ws vs 0 bs axes coarse.choice up (omega (arith, y)) (omega (arith, z)) (omega (arith, x, y)) of_b.parts of_a.parts placed_b placed_a

  bits_few : (xs : List Choice) (d : ℕ) (axes : List Axis) → ((k : ℕ) → k < length o.dims → IsChoice o k (choice_at xs k)) → d + length axes ≤ length o.dims → ArePlaced axes → AreAxes o xs d axes
      → bits_of axes ≤ sum_by (λ k. bits_for (leaf_count o k)) (range_with_len d (length axes))
  bits_few xs d [] view long placed are = omega arith
  bits_few xs d (a ∷ axes) view long placed are =
      let low : d < length o.dims = omega (arith, long) in
      let few = choice_few d (choice_at xs d) 0 low (view d low) in
      let count = are.0.count in
      let here : bits_for a.count ≡ a.width = width_counted a.count a.width placed.0.width placed.0.narrow in
      let most : bits_for a.count ≤ bits_for (leaf_count o d) = fewer_bits a.count (leaf_count o d) (omega (arith, few, count)) in
      let rest = bits_few xs (d + 1) axes view (omega (arith, long)) placed.2 are.1 in
      let all = sum_by-cons (λ k. bits_for (leaf_count o k)) d (range_with_len (d + 1) (length axes)) in
      omega (arith, here, most, rest, all)

  -- keys have at most 128 bits
  pub layout_bits : (xs : List Choice) (axes : List Axis) → IsView o xs → ArePlaced axes → IsLayout o xs axes → bits_of axes ≤ 128
  unfolding key_bits
  layout_bits xs axes view placed is =
      let long = is.long in
      let s = bits_few xs 0 axes view.choice (omega (arith, long)) placed is.parts in
      let e : sum_by (λ k. bits_for (leaf_count o k)) (range_with_len 0 (length axes)) ≡ key_bits o =
      ap (λ (n : ℕ). sum_by (λ k. bits_for (leaf_count o k)) (range_with_len 0 n)) long ∙ sym (sum-map (λ k. bits_for (leaf_count o k)) (range_with_len 0 (length o.dims))) in
      let f = few_bits o kept in
      omega (arith, s, e, f)
