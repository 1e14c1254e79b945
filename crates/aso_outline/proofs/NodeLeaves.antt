-- Each class of a level has a leaf, and what is given by fewer isn't more.
use Rattle.std.specs.Prelude.{slice_index, nat_lt, unwrap_or}
use Rattle.std.specs.Option.{option_map}
use Rattle.std.specs.List.{filter, range_with_len}
use Rattle.std.proofs.Common.{◌≡◌, ◌∙◌, ℕ, zero, suc, ◌+◌, ◌-◌, ◌<◌, ◌≤◌, ⊎_elim, eqb, Bool, true, false, List, length, get_or, Option, Some, None, refl, sym, ap, arith, true≢false}
use Rattle.std.proofs.lemmas.Bool.{cases_eq, eqb-true, lt-ltb, ltb-true}
use Rattle.std.proofs.lemmas.List.Quantifiers.{position-Some}
use Rattle.aso_tree.specs.Trees.{class_count, class_of, classes, height, is_leaf, IsTree}
use Rattle.aso_tree.specs.Levels.{is_class}
use Rattle.aso_tree.proofs.Classes.{class_by_parent, class_of_below, class_of_top, le_or_lt, no_class_high, place_among}
use Rattle.aso_tree.proofs.Ends.{childless, either}
use Rattle.aso_tree.proofs.Heights.{height_up}
use Rattle.aso_outline.proofs.ClassLemmas.{passes_there}
use Rattle.aso_outline.proofs.Gains.{count, count_most, gains}
use Rattle.aso_outline.proofs.LeafRows.{count_there}
use Rattle.aso_outline.proofs.TableLemmas.{passes_within}

-- ---- the place of one that passes among those that pass

pub place_of_passing : (p : ℕ → Bool) (n i : ℕ) → i < n → p i ≡ true → (k : ℕ) × (k < length (filter p (range_with_len 0 n))) × (get_or (filter p (range_with_len 0 n)) k 0 ≡ i)
place_of_passing p n i low pass =
    let k : ℕ = length (filter p (range_with_len 0 i)) in
    let found = position-Some (λ (c : ℕ). eqb i c) (filter p (range_with_len 0 n)) k 0 (place_among p n i low pass) in
    (k, found.0, sym (eqb-true i (get_or (filter p (range_with_len 0 n)) k 0) found.1))

-- ---- numbers that others are given

abbrev below_value : ℕ → Option ℕ → Bool
below_value c x = unwrap_or (option_map (λ (v : ℕ). nat_lt v c) x) false

below_more : (c : ℕ) (x : Option ℕ) → below_value c x ≡ true → below_value (suc c) x ≡ true
below_more c None h = h
below_more c (Some v) h = let low : v < c = ltb-true v c h in lt-ltb v (suc c) (omega (arith, low))

not_below : (c : ℕ) (x : Option ℕ) → x ≡ Some c → below_value c x ≡ true → ⊥
not_below c x is h = let low : c < c = ltb-true c c (sym (ap (below_value c) is) ∙ h) in omega (arith, low)

here_below : (c : ℕ) (x : Option ℕ) → x ≡ Some c → below_value (suc c) x ≡ true
here_below c x is = ap (below_value (suc c)) is ∙ lt-ltb c (suc c) (omega arith)

module _ (f : ℕ → Option ℕ) (n : ℕ) where
  covered : (c : ℕ) → ((k : ℕ) → k < c → (l : ℕ) × (l < n) × (f l ≡ Some k)) → c ≤ count (λ l. below_value c (f l)) n
  covered zero each = omega arith
  covered (suc c) each =
      let before : c ≤ count (λ l. below_value c (f l)) n = covered c (λ k low. each k (omega (arith, low))) in
      let last = each c (omega arith) in
      ⊎_elim
      (λ (same : (k : ℕ) → k < n → below_value (suc c) (f k) ≡ below_value c (f k)). absurd (not_below c (f last.0) last.2 (sym (same last.0 last.1) ∙ here_below c (f last.0) last.2)))
      (λ (more : count (λ l. below_value c (f l)) n < count (λ l. below_value (suc c) (f l)) n). omega (arith, before, more))
      (gains (λ l. below_value c (f l)) (λ l. below_value (suc c) (f l)) (λ l h. below_more c (f l) h) n)

  -- as many numbers from 0 on as are given by those below an end are no more than these
  pub no_more : (c : ℕ) → ((k : ℕ) → k < c → (l : ℕ) × (l < n) × (f l ≡ Some k)) → c ≤ n
  no_more c each =
      let some : c ≤ count (λ l. below_value c (f l)) n = covered c each in
      let most : count (λ l. below_value c (f l)) n ≤ n = count_most (λ l. below_value c (f l)) n in
      omega (arith, some, most)

-- ---- the leaf of a class

module _ (parents : List ℕ) (tree : IsTree parents) (level : ℕ) where
  first_below : (i : ℕ) → i < length parents → is_leaf parents i ≡ false → (i + 1 < length parents) × (slice_index parents (i + 1) ≡ i)
  first_below i within inner =
      ⊎_elim
      (λ (end : length parents ≤ i + 1). absurd (true≢false (sym (childless parents tree i (i + 1) refl within (λ low _. omega (arith, end, low))) ∙ inner)))
      (λ (low : i + 1 < length parents). ⊎_elim
      (λ (same : slice_index parents (i + 1) ≡ i). (low, same))
      (λ (other : slice_index parents (i + 1) ≡ i → ⊥). absurd (true≢false (sym (childless parents tree i (i + 1) refl within (λ _ is. other is)) ∙ inner)))
      (cases_eq (slice_index parents (i + 1)) i))
      (le_or_lt (length parents) (i + 1))

  -- going down to first children
  leaf_below : (more i class : ℕ) → i + more ≡ length parents → i < length parents → height parents i ≤ level → class_of parents level i ≡ Some class
      → (l : ℕ) × (l < length parents) × (is_leaf parents l ≡ true) × (class_of parents level l ≡ Some class)
  leaf_below zero i class sum within low is = absurd (omega (arith, sum, within))
  leaf_below (suc more) i class sum within low is =
      ⊎_elim
      (λ (leaf : is_leaf parents i ≡ true). (i, within, leaf, is))
      (λ (inner : is_leaf parents i ≡ false).
      let child = first_below i within inner in
      let before : slice_index parents (i + 1) < i + 1 = omega (arith, child.1) in
      let up : height parents (i + 1) ≤ height parents (slice_index parents (i + 1)) = height_up parents (i + 1) (slice_index parents (i + 1)) refl before child.0 in
      let same : height parents (slice_index parents (i + 1)) ≡ height parents i = ap (height parents) child.1 in
      leaf_below more (i + 1) class (omega (arith, sum)) child.0 (omega (arith, up, same, low))
      (class_of_below parents level (i + 1) (omega (arith, up, same, low)) before (omega (arith, same, low)) ∙ (ap (class_of parents level) child.1 ∙ is)))
      (either (is_leaf parents i))

  module _ (class : ℕ) (low : class < class_count parents level) where
    abbrev node : ℕ
    node = get_or (filter (is_class parents level) (range_with_len 0 (length parents))) class 0

    within_all : class < length (filter (is_class parents level) (range_with_len 0 (length parents)))
    unfolding classes
    within_all = low

    there : node < length parents
    there = let less : node < 0 + length parents = passes_within (is_class parents level) (length parents) 0 class 0 within_all in omega (arith, less)

    passes : is_class parents level node ≡ true
    passes = passes_there (is_class parents level) (length parents) 0 class 0 within_all

    number : length (filter (is_class parents level) (range_with_len 0 node)) ≡ class
    number = count_there (is_class parents level) (length parents) 0 class node 0 within_all (omega arith)

    fits : height parents node ≤ level
    fits =
        ⊎_elim
        (λ (le : height parents node ≤ level). le)
        (λ (high : level < height parents node). absurd (true≢false (sym passes ∙ no_class_high parents level node there high)))
        (le_or_lt (height parents node) level)

    above : slice_index parents node < node → level < height parents (slice_index parents node)
    above below = ltb-true _ _ (sym (class_by_parent parents level node there fits below) ∙ passes)

    -- each class of a level has a leaf
    pub leaf_of_class : (l : ℕ) × (l < length parents) × (is_leaf parents l ≡ true) × (class_of parents level l ≡ Some class)
    leaf_of_class =
        leaf_below (length parents - node) node class (omega (arith, there)) there fits
        (class_of_top parents level node there fits above ∙ ap (λ (k : ℕ). Some k) number)
