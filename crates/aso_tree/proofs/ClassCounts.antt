-- A coarser level has no more classes than a finer one: below each of its classes stands one of the finer level.
use Rattle.std.specs.Prelude.{slice_index}
use Rattle.std.specs.List.{filter, range_with_len}
use Rattle.std.proofs.Common.{◌≡◌, ◌∙◌, ℕ, zero, suc, ◌+◌, ◌-◌, ◌<◌, ◌≤◌, ◌^◌, ◌⊎◌, ⊎_elim, inl, inr, Bool, true, false, not, eqb, List, length, refl, sym, ap, arith, subst, true≢false}
use Rattle.std.proofs.lemmas.Bool.{eqb-true}
use Rattle.aso_tree.specs.Trees.{class_count, classes, height, is_leaf, places_of, IsTree}
use Rattle.aso_tree.specs.Levels.{classes_before, is_class}
use Rattle.aso_tree.proofs.Children.{parent_before}
use Rattle.aso_tree.proofs.ClassRanges.{before_le, before_lt, before_same, step_one}
use Rattle.aso_tree.proofs.Classes.{class_top, le_or_lt, no_class_below, no_class_high}
use Rattle.aso_tree.proofs.Ends.{childless, either, leaf_by_next}
use Rattle.aso_tree.proofs.Heights.{height_above, leaf_height}

module _ (parents : List ℕ) (tree : IsTree parents) (short : length parents < 2 ^ 32) (level : ℕ) where
  abbrev fine : ℕ → ℕ
  fine n = classes_before parents level n

  abbrev coarse : ℕ → ℕ
  coarse n = classes_before parents (suc level) n

  -- up to a place there are as many, or one lacks, and then the node before is one too high for the finer level
  abbrev Counts : ℕ → Type 0
  Counts n = (coarse n ≤ fine n) ⊎ ((k : ℕ) × (n ≡ suc k) × (coarse n ≤ fine n + 1) × (height parents k ≡ suc level))

  fine_step : (n : ℕ) → fine n ≤ fine (n + 1)
  fine_step n = before_le (is_class parents level) n (n + 1) (omega arith)

  fine_more : (n : ℕ) → is_class parents level n ≡ true → fine n < fine (n + 1)
  fine_more n is = before_lt (is_class parents level) n (n + 1) (omega arith) is

  coarse_most : (n : ℕ) → coarse (n + 1) ≤ coarse n + 1
  coarse_most n = step_one (is_class parents (suc level)) n

  coarse_same : (n : ℕ) → is_class parents (suc level) n ≡ false → coarse (n + 1) ≡ coarse n
  coarse_same n none = before_same (is_class parents (suc level)) n (n + 1) (omega arith) (λ k lo hi. ap (is_class parents (suc level)) (omega (arith, lo, hi)) ∙ none)

  -- a node that is higher than a leaf is followed by a child
  child_next : (k : ℕ) → k < length parents → 1 ≤ height parents k → (suc k < length parents) × (slice_index parents (suc k) ≡ k)
  child_next k low high =
      ⊎_elim
      (λ (past : length parents ≤ suc k). absurd (no_leaf (childless parents tree k (suc k) (omega arith) low (λ within _. omega (arith, past, within)))))
      (λ (within : suc k < length parents). ⊎_elim
      (λ (child : eqb (slice_index parents (suc k)) k ≡ true). (within, eqb-true (slice_index parents (suc k)) k child))
      (λ (other : eqb (slice_index parents (suc k)) k ≡ false). absurd (no_leaf (leaf_by_next parents tree k (suc k) (omega arith) within ∙ ap not other)))
      (either (eqb (slice_index parents (suc k)) k)))
      (le_or_lt (length parents) (suc k))
    where
      no_leaf : is_leaf parents k ≡ true → ⊥
      no_leaf leaf = let zero_high : height parents k ≡ 0 = leaf_height parents tree k low leaf in omega (arith, zero_high, high)

  parent_high : (n : ℕ) → n < length parents → is_class parents (suc level) n ≡ true → height parents n ≤ suc level → slice_index parents n < n → level < height parents (slice_index parents n)
  parent_high n low is fits below =
      ⊎_elim
      (λ (fits_too : height parents (slice_index parents n) ≤ suc level). absurd (true≢false (sym is ∙ no_class_below parents (suc level) n low fits below fits_too)))
      (λ (high : suc level < height parents (slice_index parents n)). omega (arith, high))
      (le_or_lt (height parents (slice_index parents n)) (suc level))

  three : (h l : ℕ) → (h ≤ l) ⊎ ((h ≡ suc l) ⊎ (suc l < h))
  three h l = grind arith

  step : (n : ℕ) → n < length parents → Counts n → Counts (n + 1)
  step n low (inr (k, e, le, high)) =
      let next = child_next k (omega (arith, e, low)) (omega (arith, high)) in
      let parent : slice_index parents n ≡ k = ap (slice_index parents) e ∙ next.1 in
      let below : slice_index parents n < n = omega (arith, parent, e) in
      let up : height parents n < height parents (slice_index parents n) = height_above parents n (slice_index parents n) refl below low in
      let at_parent : height parents (slice_index parents n) ≡ suc level = ap (height parents) parent ∙ high in
      let more = fine_more n (class_top parents level n low (omega (arith, up, at_parent)) (λ _. omega (arith, at_parent))) in
      let same = coarse_same n (no_class_below parents (suc level) n low (omega (arith, up, at_parent)) below (omega (arith, at_parent))) in
      inl (omega (arith, le, more, same))
  step n low (inl le) =
      ⊎_elim
      (λ (fits : height parents n ≤ level). ⊎_elim
      (λ (is : is_class parents (suc level) n ≡ true).
      let more = fine_more n (class_top parents level n low fits (λ below. parent_high n low is (omega (arith, fits)) below)) in
      let most = coarse_most n in
      inl (omega (arith, le, more, most)))
      (λ (none : is_class parents (suc level) n ≡ false). let same = coarse_same n none in let rest = fine_step n in inl (omega (arith, le, same, rest)))
      (either (is_class parents (suc level) n)))
      (λ (above : (height parents n ≡ suc level) ⊎ (suc level < height parents n)). ⊎_elim
      (λ (one : height parents n ≡ suc level). let most = coarse_most n in let rest = fine_step n in inr (n, omega arith, omega (arith, le, most, rest), one))
      (λ (high : suc level < height parents n). let same = coarse_same n (no_class_high parents (suc level) n low high) in let rest = fine_step n in inl (omega (arith, le, same, rest)))
      above)
      (three (height parents n) level)

  counts : (n : ℕ) → n ≤ length parents → Counts n
  counts zero low = inl (omega arith)
  counts (suc n) low = let next : n + 1 ≡ suc n = omega arith in subst Counts next (step n (omega (arith, low)) (counts n (omega (arith, low))))

  pub coarser : class_count parents (suc level) ≤ class_count parents level
  unfolding classes
  coarser =
      ⊎_elim
      (λ (le : coarse (length parents) ≤ fine (length parents)). le)
      (λ (lacks : (k : ℕ) × (length parents ≡ suc k) × (coarse (length parents) ≤ fine (length parents) + 1) × (height parents k ≡ suc level)).
      absurd (let next = child_next lacks.0 (omega (arith, lacks.1)) (omega (arith, lacks.3)) in omega (arith, next.0, lacks.1)))
      (counts (length parents) (omega arith))

-- so has every coarser one
pub coarser_by : (parents : List ℕ) → IsTree parents → length parents < 2 ^ 32 → (d fine coarse : ℕ) → coarse ≡ fine + d → class_count parents coarse ≤ class_count parents fine
coarser_by parents tree short zero fine coarse is = let same : class_count parents coarse ≡ class_count parents fine = ap (class_count parents) (omega (arith, is)) in omega (arith, same)
coarser_by parents tree short (suc d) fine coarse is =
    let rest : class_count parents (fine + d) ≤ class_count parents fine = coarser_by parents tree short d fine (fine + d) refl in
    let last : class_count parents (suc (fine + d)) ≤ class_count parents (fine + d) = coarser parents tree short (fine + d) in
    let same : class_count parents coarse ≡ class_count parents (suc (fine + d)) = ap (class_count parents) (omega (arith, is)) in
    omega (arith, rest, last, same)
