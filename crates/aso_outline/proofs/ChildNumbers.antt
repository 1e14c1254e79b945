-- The children of a member are members.
use Rattle.std.specs.Prelude.{slice_get, slice_index, if◌then◌else◌, unwrap_or, ◌==◌}
use Rattle.std.specs.List.{filter, range_with_len}
use Rattle.std.proofs.Common.{◌≡◌, ◌∙◌, ℕ, zero, suc, ◌+◌, ◌-◌, ◌<◌, ◌≤◌, ◌^◌, get_or, Bool, true, false, List, ◌∷◌, map, length, Option, Some, None, refl, ap, arith}
use Rattle.aso_tree.specs.Trees.{places_of}
use Rattle.std.proofs.lemmas.Option.{none-some, same_Some, slice_get-get_or, slice_get_within}
use Rattle.aso_outline.specs.declared.draft.Draft.{Draft}
use Rattle.aso_outline.specs.declared.seat.Seat.{Seat}
use Rattle.aso_outline.specs.declared.seat.Seat.TheVariants.{Whole, Inner, Carried}
use Rattle.aso_outline.specs.declared.draft.DraftMember.{DraftMember}
use Rattle.aso_outline.specs.Members.{attr_tree, dim_at, parents_of, seats, tree, tree_of}
use Rattle.aso_outline.specs.Numbers.{IsSeat, seat_of}
use Rattle.aso_outline.specs.Parents.{one_parent_each}
use Rattle.aso_outline.specs.Ranks.{children, is_child_place, number_in}
use Rattle.aso_outline.specs.Tables.{before_attr, before_hier}
use Rattle.aso_outline.proofs.Numbered.{numbered}
use Rattle.aso_outline.proofs.NumberLemmas.{number_carried, number_inner}
use Rattle.aso_outline.proofs.Placed.{placed}

module _ (f : ℕ → ℕ) (t : ℕ → Bool) where
  -- an element comes from a place
  from_place : (n a k c : ℕ) → slice_get (map f (filter t (range_with_len a n))) k ≡ Some c → (j : ℕ) × (j < a + n) × (f j ≡ c)
  from_place zero a k c is = absurd (none-some c is)
  from_place (suc n) a k c is = by_test (λ i e. from_place n (a + 1) i c e) (t a) k is
    where
      later : ((i : ℕ) → slice_get (map f (filter t (range_with_len (a + 1) n))) i ≡ Some c → (j : ℕ) × (j < a + 1 + n) × (f j ≡ c))
          → (i : ℕ) → slice_get (map f (filter t (range_with_len (a + 1) n))) i ≡ Some c → (j : ℕ) × (j < a + suc n) × (f j ≡ c)
      later rest i e =
          let h = rest i e in
          (h.0, omega (arith, h.1), h.2)

      by_test : ((i : ℕ) → slice_get (map f (filter t (range_with_len (a + 1) n))) i ≡ Some c → (j : ℕ) × (j < a + 1 + n) × (f j ≡ c))
          → (b : Bool) (i : ℕ) → slice_get (map f (if b then a ∷ filter t (range_with_len (a + 1) n) else filter t (range_with_len (a + 1) n))) i ≡ Some c → (j : ℕ) × (j < a + suc n) × (f j ≡ c)
      by_test rest true zero e = (a, omega arith, same_Some (f a) c e)
      by_test rest true (suc i) e = later rest i e
      by_test rest false i e = later rest i e

module _ (o : Draft) (n : ℕ) where
  by_seat : (s : Seat) → IsSeat o s → slice_get (seats o) n ≡ Some s → (j : ℕ) → j < length (tree_of o s) → number_in n s j < length (seats o)
  by_seat (Whole d) there is j low = absurd (omega (arith, low))
  by_seat (Inner d h i) there is j low =
      slice_get_within (seats o) (n - i + j) (Inner d h j) (number_inner o d h j (n - i + j) there.0 there.1 low (omega (arith, numbered o n (Inner d h i) is)))
  by_seat (Carried a i) there is j low =
      slice_get_within (seats o) (n - i + j) (Carried a j) (number_carried o a j (n - i + j) there.0 low (omega (arith, numbered o n (Carried a i) is)))

  pub child_there : (s : Seat) → slice_get (seats o) n ≡ Some s → (k c : ℕ) → slice_get (children o n s) k ≡ Some c → c < length (seats o)
  child_there s is k c at =
      let h = from_place (number_in n s) (is_child_place o s) (length (tree_of o s)) 0 k c at in
      omega (arith, by_seat s (placed o n s is) is h.0 (omega (arith, h.1)), h.2)

  -- what a number stands for
  pub seat_there : n < length (seats o) → slice_get (seats o) n ≡ Some (seat_of o n)
  seat_there low = by_found (slice_get (seats o) n) (get_or (seats o) n (Whole 0)) (slice_get-get_or (seats o) n (Whole 0) low)
    where
      by_found : (found : Option Seat) (s : Seat) → found ≡ Some s → found ≡ Some (unwrap_or found (Whole 0))
      by_found (Some t) s is = refl
      by_found None s is = absurd (none-some s is)

-- the children by their places, from the number of the first member of their tree on
module _ (ms : List DraftMember) (forest : List ℕ) (is : forest ≡ parents_of ms) where
  abbrev numbers_from : ℕ → ℕ → List ℕ → List ℕ
  numbers_from first i ps = map (λ j. first + j) (filter (λ j. slice_index ps j == i) (range_with_len 0 (length ps)))

  same_numbers : (first from i : ℕ) → first ≡ from → numbers_from first i forest ≡ map (λ j. from + j) (filter (λ j. slice_index (parents_of ms) j == i) (range_with_len 0 (length ms)))
  same_numbers first from i same =
      ap (λ (n : ℕ). numbers_from n i forest) same
      ∙ (ap (numbers_from from i) is ∙ ap (λ (n : ℕ). map (λ j. from + j) (filter (λ j. slice_index (parents_of ms) j == i) (range_with_len 0 n))) (one_parent_each ms))

module _ (o : Draft) (m first : ℕ) (forest : List ℕ) where
  pub inner_children : (d h i : ℕ) → slice_get (seats o) m ≡ Some (Inner d h i) → first ≡ before_hier o d h → forest ≡ parents_of (tree (dim_at o d) h)
      → map (λ j. first + j) (filter (λ j. slice_index forest j == i) (places_of forest)) ≡ children o m (Inner d h i)
  inner_children d h i at from is = same_numbers (tree (dim_at o d) h) forest is first (m - i) i (omega (arith, from, numbered o m (Inner d h i) at))

  pub carried_children : (a i : ℕ) → slice_get (seats o) m ≡ Some (Carried a i) → first ≡ before_attr o a → forest ≡ parents_of (attr_tree o a)
      → map (λ j. first + j) (filter (λ j. slice_index forest j == i) (places_of forest)) ≡ children o m (Carried a i)
  carried_children a i at from is = same_numbers (attr_tree o a) forest is first (m - i) i (omega (arith, from, numbered o m (Carried a i) at))

  pub inner_fits : (d h i : ℕ) → IsSeat o (Inner d h i) → length (seats o) ≤ 1048576 → first ≡ before_hier o d h → forest ≡ parents_of (tree (dim_at o d) h) → first + length forest ≤ 2 ^ 32
  inner_fits d h i there few from is =
      let ms : List DraftMember = tree (dim_at o d) h in
      let last : before_hier o d h + (length ms - 1) < length (seats o) =
      slice_get_within (seats o) (before_hier o d h + (length ms - 1)) (Inner d h (length ms - 1)) (number_inner o d h (length ms - 1) (before_hier o d h + (length ms - 1)) there.0 there.1 (omega (arith, there.2)) refl) in
      omega (arith, last, few, from, ap length is, one_parent_each ms, there.2)

  pub carried_fits : (a i : ℕ) → IsSeat o (Carried a i) → length (seats o) ≤ 1048576 → first ≡ before_attr o a → forest ≡ parents_of (attr_tree o a) → first + length forest ≤ 2 ^ 32
  carried_fits a i there few from is =
      let ms : List DraftMember = attr_tree o a in
      let last : before_attr o a + (length ms - 1) < length (seats o) =
      slice_get_within (seats o) (before_attr o a + (length ms - 1)) (Carried a (length ms - 1)) (number_carried o a (length ms - 1) (before_attr o a + (length ms - 1)) there.0 (omega (arith, there.1)) refl) in
      omega (arith, last, few, from, ap length is, one_parent_each ms, there.1)
