-- The first child follows its parent, and the next child follows what lies below the one before.
use Rattle.std.specs.Prelude.{slice_index, nat_lt}
use Rattle.std.proofs.Common.{◌≡◌, ◌∙◌, ℕ, zero, suc, ◌+◌, ◌-◌, ◌<◌, ◌≤◌, ◌^◌, ◌&&◌, Bool, true, false, eqb, List, length, Some, None, refl, sym, ap, arith, ⊎_elim, ◌⊎◌, inl, inr, true≢false, eq-eqb}
use Rattle.std.proofs.lemmas.Bool.{ne_eqb, eqb-true, lt-ltb, le-ltb}
use Rattle.aso_tree.specs.Trees.{is_under, first_child, next_child, IsTree}
use Rattle.aso_tree.proofs.Preorder.{under_self, under_up, under_cases, under_le, under_stops, stands_of, opposite}
use Rattle.aso_tree.proofs.Ends.{EndsAt, next_is_child}
use Rattle.aso_tree.proofs.Firsts.{first_is, none_is, first_in_range, none_in_range}

module _ (parents : List ℕ) (tree : IsTree parents) (short : length parents < 2 ^ 32) where
  -- a node other than the first stands after its parent
  pub parent_before : (k : ℕ) → suc k < length parents → slice_index parents (suc k) < suc k
  parent_before k low =
      let le : slice_index parents (suc k) ≤ k = under_le k parents (slice_index parents (suc k)) k (omega arith) (stands_of _ _ (tree (suc k) low)) in omega (arith, le)

  -- the first has none
  pub root_has_none : 0 < length parents → slice_index parents 0 ≡ 2 ^ 32 - 1
  root_has_none low = eqb-true _ _ (stands_of _ _ (tree 0 low))

  -- the parent of a node isn't at or after it
  pub not_parent : (k i : ℕ) → k < length parents → k ≤ i → i < length parents → slice_index parents k ≡ i → ⊥
  not_parent zero i low le within same = omega (arith, root_has_none low, same, within, short)
  not_parent (suc k) i low le within same = omega (arith, parent_before k low, same, le)

  above_child : (i k : ℕ) → slice_index parents k ≡ i → i < k → is_under parents i k ≡ true
  above_child i k same low = under_up parents i k (omega (arith, same, low)) (rw same (under_self parents i))

  -- where the next node is no child, none is
  pub no_first_child : (i next : ℕ) → next ≡ i + 1 → i < length parents → (next < length parents → slice_index parents next ≡ i → ⊥) → first_child parents i ≡ None
  no_first_child i next is within none =
      none_is (λ p. eqb p i) parents 0 (λ k low. ne_eqb _ _ (λ (same : slice_index parents k ≡ i). child_at k low same (le_or_lt k i)))
    where
      le_or_lt : (a b : ℕ) → (a ≤ b) ⊎ (b < a)
      le_or_lt a b = grind arith

      child_at : (k : ℕ) → k < length parents → slice_index parents k ≡ i → (k ≤ i) ⊎ (i < k) → ⊥
      child_at k low same (inl le) = not_parent k i low le within same
      child_at k low same (inr after) =
          let out : is_under parents i next ≡ false = opposite _ (λ h. none (omega (arith, is, after, low)) (next_is_child parents tree i next is h)) in
          true≢false (sym (above_child i k same after) ∙ under_stops parents tree i next (omega (arith, is)) out (k - next) k (omega (arith, is, after)) low)

  pub is_first_child : (i next : ℕ) → next ≡ i + 1 → next < length parents → slice_index parents next ≡ i → first_child parents i ≡ Some next
  is_first_child i next is low child =
      first_is (λ p. eqb p i) parents next 0 low (λ k less. ne_eqb _ _ (λ (same : slice_index parents k ≡ i). not_parent k i (omega (arith, less, low)) (omega (arith, less, is)) (omega (arith, is, low)) same)) (eq-eqb _ _ child)

  -- two nodes above one are one above the other
  one_above_other : (n a b k : ℕ) → k ≤ n → a ≤ b → is_under parents a k ≡ true → is_under parents b k ≡ true → is_under parents a b ≡ true
  one_above_other zero a b k hn le ha hb =
      ⊎_elim
      (λ (same : k ≡ b). ap (is_under parents a) (sym same) ∙ ha)
      (λ (up : (slice_index parents k < k) × (is_under parents b (slice_index parents k) ≡ true)). absurd (omega (arith, hn, up.0)))
      (under_cases parents b k hb)
  one_above_other (suc n) a b k hn le ha hb =
      ⊎_elim
      (λ (same : k ≡ b). ap (is_under parents a) (sym same) ∙ ha)
      (λ (up_b : (slice_index parents k < k) × (is_under parents b (slice_index parents k) ≡ true)).
      ⊎_elim
      (λ (same : k ≡ a). let low : b ≤ slice_index parents k = under_le (slice_index parents k) parents b (slice_index parents k) (omega arith) up_b.1 in absurd (omega (arith, low, same, le, up_b.0)))
      (λ (up_a : (slice_index parents k < k) × (is_under parents a (slice_index parents k) ≡ true)). one_above_other n a b (slice_index parents k) (omega (arith, hn, up_b.0)) le up_a.1 up_b.1)
      (under_cases parents a k ha))
      (under_cases parents b k hb)

  le_or_lt : (a b : ℕ) → (a ≤ b) ⊎ (b < a)
  le_or_lt a b = grind arith

  comes_next : ℕ → ℕ → Bool
  comes_next i j = nat_lt i j && eqb (slice_index parents j) (slice_index parents i)

  not_yet : (i k : ℕ) → k ≤ i → comes_next i k ≡ false
  unfolding comes_next
  not_yet i k le = rw (le-ltb _ _ le) refl

  other_parent : (i k : ℕ) → (slice_index parents k ≡ slice_index parents i → ⊥) → comes_next i k ≡ false
  unfolding comes_next
  other_parent i k differs = rw (ne_eqb _ _ differs) (and_false (nat_lt i k))
    where
      and_false : (b : Bool) → (b && false) ≡ false
      and_false true = refl
      and_false false = refl

  module _ (i : ℕ) (rises : slice_index parents i < i) (end : ℕ) (e : EndsAt parents tree i end) where
    below_not_next : (k : ℕ) → i < k → k < end → comes_next i k ≡ false
    below_not_next k lo hi = other_parent i k (λ same.
        ⊎_elim
        (λ (self : k ≡ i). omega (arith, self, lo))
        (λ (up : (slice_index parents k < k) × (is_under parents i (slice_index parents k) ≡ true)).
        let low : i ≤ slice_index parents k = under_le (slice_index parents k) parents i (slice_index parents k) (omega arith) up.1 in omega (arith, low, same, rises))
        (under_cases parents i k (e.below k (omega (arith, lo)) hi)))

    before_end : (k : ℕ) → k < end → comes_next i k ≡ false
    before_end k hi = ⊎_elim (λ (le : k ≤ i). not_yet i k le) (λ (after : i < k). below_not_next k after hi) (le_or_lt k i)

    pub is_next_child : end < length parents → slice_index parents end ≡ slice_index parents i → next_child parents i ≡ Some end
    unfolding comes_next
    is_next_child low same =
        let at : comes_next i end ≡ true = rw (lt-ltb _ _ e.low, eq-eqb _ _ same) refl in
        first_in_range (comes_next i) (length parents) end low before_end at

    -- the one at the end lies below no other child of the parent
    out_of_parent : (last : ℕ) → end ≡ suc last → end < length parents → (slice_index parents end ≡ slice_index parents i → ⊥) → is_under parents (slice_index parents i) end ≡ false
    out_of_parent last is low differs = opposite _ (λ h.
        ⊎_elim
        (λ (same : end ≡ slice_index parents i). omega (arith, same, rises, e.low))
        (λ (up : (slice_index parents end < end) × (is_under parents (slice_index parents i) (slice_index parents end) ≡ true)).
        let above : slice_index parents i ≤ slice_index parents end = under_le (slice_index parents end) parents (slice_index parents i) (slice_index parents end) (omega arith) up.1 in
        let on_path : is_under parents (slice_index parents end) last ≡ true = ap (λ k. is_under parents (slice_index parents k) last) is ∙ stands_of _ _ (tree (suc last) (omega (arith, is, low))) in
        let last_below : is_under parents i last ≡ true = e.below last (omega (arith, is, e.low)) (omega (arith, is)) in
        ⊎_elim
        (λ (le : i ≤ slice_index parents end).
        let inside : is_under parents i (slice_index parents end) ≡ true = one_above_other last i (slice_index parents end) last (omega arith) le last_below on_path in
        true≢false (sym (under_up parents i end up.0 inside) ∙ e.stop low))
        (λ (lt : slice_index parents end < i).
        let inside : is_under parents (slice_index parents end) i ≡ true = one_above_other last (slice_index parents end) i last (omega arith) (omega (arith, lt)) on_path last_below in
        ⊎_elim
        (λ (same : i ≡ slice_index parents end). omega (arith, same, lt))
        (λ (up_i : (slice_index parents i < i) × (is_under parents (slice_index parents end) (slice_index parents i) ≡ true)).
        let le : slice_index parents end ≤ slice_index parents i = under_le (slice_index parents i) parents (slice_index parents end) (slice_index parents i) (omega arith) up_i.1 in
        differs (omega (arith, le, above)))
        (under_cases parents (slice_index parents end) i inside))
        (le_or_lt i (slice_index parents end)))
        (under_cases parents (slice_index parents i) end h))

    past_end : (differs : end < length parents → slice_index parents end ≡ slice_index parents i → ⊥) (k : ℕ) → end ≤ k → k < length parents → comes_next i k ≡ false
    past_end differs k lo hi = other_parent i k (λ same.
        let low : end < length parents = omega (arith, lo, hi) in
        let out : is_under parents (slice_index parents i) end ≡ false = out_of_parent (end - 1) (omega (arith, e.low)) low (differs low) in
        let k_out : is_under parents (slice_index parents i) k ≡ false = under_stops parents tree (slice_index parents i) end (omega (arith, rises, e.low)) out (k - end) k (omega (arith, lo)) hi in
        true≢false (sym (above_child (slice_index parents i) k same (omega (arith, rises, e.low, lo))) ∙ k_out))

    pub no_next_child : (end < length parents → slice_index parents end ≡ slice_index parents i → ⊥) → next_child parents i ≡ None
    unfolding comes_next
    no_next_child differs =
        none_in_range (comes_next i) (length parents) (λ k low. ⊎_elim (λ (le : end ≤ k). past_end differs k le low) (λ (lt : k < end). before_end k lt) (le_or_lt end k))

  -- the root has no next child
  pub root_is_last : 0 < length parents → next_child parents 0 ≡ None
  unfolding comes_next
  root_is_last some = none_in_range (comes_next 0) (length parents) (each some)
    where
      each : 0 < length parents → (k : ℕ) → k < length parents → comes_next 0 k ≡ false
      each some zero low = not_yet 0 0 (omega arith)
      each some (suc k) low = other_parent 0 (suc k) (λ same. omega (arith, parent_before k low, same, root_has_none some, short, low))

  -- a node other than the first has its parent before it
  pub rises : (i : ℕ) → 0 < i → i < length parents → slice_index parents i < i
  rises zero some low = absurd (omega (arith, some))
  rises (suc i) some low = parent_before i low
