-- Ranks, one turn more.
use Rattle.std.specs.Prelude.{max, slice_get, unwrap_or, if◌then◌else◌}
use Rattle.std.specs.Option.{option_map, option_and_then}
use Rattle.std.specs.List.{list_any, range_with_len}
use Rattle.std.proofs.Common.{◌≡◌, ◌∙◌, ℕ, zero, suc, ◌+◌, ◌-◌, ◌<◌, ◌≤◌, ◌||◌, ⊎_elim, eqb, Bool, false, List, [], ◌∷◌, length, map, get_or, drop, replicate, Option, Some, None, refl, sym, ap, arith}
use Rattle.std.proofs.Math.Seq.{drop-cons}
use Rattle.std.proofs.lemmas.Option.{none-some, same_Some, slice_get_cases}
use Rattle.aso_tree.specs.Trees.{places_of}
use Rattle.aso_outline.specs.declared.draft.Draft.{Draft}
use Rattle.aso_outline.specs.declared.row.Standing.{Standing}
use Rattle.aso_outline.specs.declared.row.Standing.TheVariants.{Stored, Label, Computed}
use Rattle.aso_outline.specs.declared.seat.Seat.{Seat}
use Rattle.aso_outline.specs.Graph.{reach_in}
use Rattle.aso_outline.specs.Members.{is_computed, seats}
use Rattle.aso_outline.specs.Ranks.{greatest_rank, needs, needs_at, needs_itself, rank_from, rank_within, reaches, standing_at, standing_of}
use Rattle.aso_outline.proofs.Turns.{any_same, in_turn, map_same, same_tables, stays}

-- ---- the greatest rank

pub zero_max : (g : Option ℕ) → option_map (max 0) g ≡ g
zero_max None = refl
zero_max (Some b) = ap (λ (k : ℕ). Some k) (omega arith)

max_twice : (a r : ℕ) (g : Option ℕ) → option_map (max (max a r)) g ≡ option_map (max a) (option_map (max r) g)
max_twice a r None = refl
max_twice a r (Some b) = ap (λ (k : ℕ). Some k) (omega arith)

module _ (f : ℕ → Option ℕ) (ks : List ℕ) (i : ℕ) (low : i < length ks) (most : ℕ) where
  abbrev from : ℕ → Option ℕ
  from j = greatest_rank (map f (drop j ks))

  first : from i ≡ option_and_then (λ a. option_map (max a) (from (i + 1))) (f (get_or ks i 0))
  first =
      let next : suc i ≡ i + 1 = omega arith in
      ap (λ (xs : List ℕ). greatest_rank (map f xs)) (drop-cons ks i 0 low ∙ ap (λ (n : ℕ). get_or ks i 0 ∷ drop n ks) next)

  pub most_more : (r : ℕ) → f (get_or ks i 0) ≡ Some r → option_map (max (max most r)) (from (i + 1)) ≡ option_map (max most) (from i)
  most_more r is =
      max_twice most r (from (i + 1))
      ∙ ap (λ (g : Option ℕ). option_map (max most) g) (sym (first ∙ ap (λ (x : Option ℕ). option_and_then (λ a. option_map (max a) (from (i + 1))) x) is))

  pub most_none : f (get_or ks i 0) ≡ None → option_map (max most) (from i) ≡ None
  most_none is = ap (λ (g : Option ℕ). option_map (max most) g) (first ∙ ap (λ (x : Option ℕ). option_and_then (λ a. option_map (max a) (from (i + 1))) x) is)

pub most_end : (f : ℕ → Option ℕ) (ks : List ℕ) (i most : ℕ) → drop i ks ≡ [] → option_map (max most) (greatest_rank (map f (drop i ks))) ≡ Some most
most_end f ks i most end = ap (λ (xs : List ℕ). option_map (max most) (greatest_rank (map f xs))) end ∙ ap (λ (k : ℕ). Some k) (omega arith)

-- ---- a rank is at most the turns

pair_le : (t : ℕ) (a g : Option ℕ) → ((r : ℕ) → a ≡ Some r → r ≤ t) → ((r : ℕ) → g ≡ Some r → r ≤ t) → (r : ℕ) → option_and_then (λ x. option_map (max x) g) a ≡ Some r → r ≤ t
pair_le t None g ha hg r e = absurd (none-some r e)
pair_le t (Some a) None ha hg r e = absurd (none-some r e)
pair_le t (Some a) (Some b) ha hg r e =
    let la : a ≤ t = ha a refl in
    let lb : b ≤ t = hg b refl in
    let is : max a b ≡ r = same_Some (max a b) r e in omega (arith, la, lb, is)

greatest_le : (t : ℕ) (f : ℕ → Option ℕ) → ((k r : ℕ) → f k ≡ Some r → r ≤ t) → (ks : List ℕ) (r : ℕ) → greatest_rank (map f ks) ≡ Some r → r ≤ t
greatest_le t f each [] r e = let is : 0 ≡ r = same_Some 0 r e in omega (arith, is)
greatest_le t f each (k ∷ ks) r e = pair_le t (f k) (greatest_rank (map f ks)) (each k) (greatest_le t f each ks) r e

from_le : (st : Standing) (below : Option ℕ) (t : ℕ) → ((r : ℕ) → below ≡ Some r → r ≤ t) → (r : ℕ) → rank_from st below ≡ Some r → r ≤ t + 1
from_le Stored below t h r e = let is : 0 ≡ r = same_Some 0 r e in omega (arith, is)
from_le Label below t h r e = let le : r ≤ t = h r e in omega (arith, le)
from_le Computed None t h r e = absurd (none-some r e)
from_le Computed (Some b) t h r e =
    let le : b ≤ t = h b refl in
    let is : b + 1 ≡ r = same_Some (b + 1) r e in omega (arith, le, is)

none_le : (st : Standing) (r : ℕ) → rank_from st None ≡ Some r → r ≤ 0
none_le Stored r e = let is : 0 ≡ r = same_Some 0 r e in omega (arith, is)
none_le Label r e = absurd (none-some r e)
none_le Computed r e = absurd (none-some r e)

module _ (o : Draft) where
  pub rank_le : (t k r : ℕ) → rank_within t o k ≡ Some r → r ≤ t
  rank_le zero k r e = none_le (standing_of o k) r e
  rank_le (suc t) k r e =
      let le : r ≤ t + 1 = from_le (standing_of o k) (greatest_rank (map (rank_within t o) (needs o k))) t (greatest_le t (rank_within t o) (rank_le t) (needs o k)) r e in
      omega (arith, le)

  -- ---- past the last member

  no_seat : (k : ℕ) → length (seats o) ≤ k → slice_get (seats o) k ≡ None
  no_seat k past =
      ⊎_elim
      (λ (here : (x : Seat) × (k < length (seats o)) × (slice_get (seats o) k ≡ Some x) × (get_or (seats o) k x ≡ x)). absurd (omega (arith, here.1, past)))
      (λ (none : (length (seats o) ≤ k) × (slice_get (seats o) k ≡ None)). none.1)
      (slice_get_cases (seats o) k).1

  stored_past : (k : ℕ) → length (seats o) ≤ k → standing_of o k ≡ Stored
  stored_past k past = ap (λ (s : Option Seat). unwrap_or (option_map (standing_at o) s) Stored) (no_seat k past)

  pub rank_past : (t k : ℕ) → length (seats o) ≤ k → rank_within t o k ≡ Some 0
  rank_past zero k past = ap (λ st. rank_from st None) (stored_past k past)
  rank_past (suc t) k past = ap (λ st. rank_from st (greatest_rank (map (rank_within t o) (needs o k)))) (stored_past k past)

  pub rank_next : (a b : ℕ) → ((k : ℕ) → rank_within a o k ≡ rank_within b o k) → (k : ℕ) → rank_within (suc a) o k ≡ rank_within (suc b) o k
  rank_next a b same k = ap (λ (rs : List (Option ℕ)). rank_from (standing_of o k) (greatest_rank rs)) (map_same (rank_within a o) (rank_within b o) same (needs o k))

  -- ---- circles

  pub needs_past : (k : ℕ) → length (seats o) ≤ k → needs o k ≡ []
  needs_past k past = ap (λ (s : Option Seat). unwrap_or (option_map (λ (s : Seat). if is_computed o s then needs_at o k s else []) s) []) (no_seat k past)

  pub reach_past : (t goal k : ℕ) → length (seats o) ≤ k → reaches t o goal k ≡ false
  reach_past zero goal k past = refl
  reach_past (suc t) goal k past = ap (list_any (λ (j : ℕ). eqb j goal || reaches t o goal j)) (needs_past k past)

  pub reach_all : (t goal : ℕ) (reach : List Bool) → reach ≡ map (reaches t o goal) (places_of (seats o)) → (k : ℕ) → reach_in reach k ≡ reaches t o goal k
  reach_all t goal reach is = in_turn (reaches t o goal) (length (seats o)) false (reach_past t goal) reach is

  pub next_reached : (t goal k : ℕ) (reach : List Bool) (ks : List ℕ) → reach ≡ map (reaches t o goal) (places_of (seats o)) → ks ≡ needs o k
      → list_any (λ (j : ℕ). eqb j goal || reach_in reach j) ks ≡ reaches (suc t) o goal k
  next_reached t goal k reach ks is needed =
      any_same (λ (j : ℕ). eqb j goal || reach_in reach j) (λ (j : ℕ). eqb j goal || reaches t o goal j) (λ j. ap (λ (b : Bool). eqb j goal || b) (reach_all t goal reach is j)) ks
      ∙ ap (list_any (λ (j : ℕ). eqb j goal || reaches t o goal j)) needed

  pub reach_next : (goal a b : ℕ) → ((k : ℕ) → reaches a o goal k ≡ reaches b o goal k) → (k : ℕ) → reaches (suc a) o goal k ≡ reaches (suc b) o goal k
  reach_next goal a b same k =
      any_same (λ (j : ℕ). eqb j goal || reaches a o goal j) (λ (j : ℕ). eqb j goal || reaches b o goal j) (λ j. ap (λ (x : Bool). eqb j goal || x) (same j)) (needs o k)

  -- where a turn reaches no more, all that is reached is found
  pub reach_stays : (t goal : ℕ) (reach next : List Bool) → t ≤ length (seats o) → reach ≡ map (reaches t o goal) (places_of (seats o)) → next ≡ map (reaches (suc t) o goal) (places_of (seats o))
      → ((k : ℕ) → k < length (seats o) → get_or next k false ≡ get_or reach k false) → reach ≡ map (reaches (length (seats o)) o goal) (places_of (seats o))
  reach_stays t goal reach next low is is_next same =
      is ∙ map_same (reaches t o goal) (reaches (length (seats o)) o goal) (λ k. sym (stays (λ n k. reaches n o goal k) (reach_next goal) t still (length (seats o) - t) (length (seats o)) k (omega (arith, low)))) (places_of (seats o))
    where
      still : (k : ℕ) → reaches (suc t) o goal k ≡ reaches t o goal k
      still = same_tables (reaches (suc t) o goal) (reaches t o goal) (length (seats o)) false false (reach_past (suc t) goal) (reach_past t goal) next reach is_next is same

  pub itself : (n : ℕ) (reach : List Bool) → reach ≡ map (reaches (length (seats o)) o n) (places_of (seats o)) → reach_in reach n ≡ needs_itself o n
  unfolding needs_itself
  itself n reach is = reach_all (length (seats o)) n reach is n

  none_reached_from : (goal n a : ℕ) → replicate n false ≡ map (reaches 0 o goal) (range_with_len a n)
  none_reached_from goal zero a = refl
  none_reached_from goal (suc n) a = ap (λ (xs : List Bool). false ∷ xs) (none_reached_from goal n (a + 1))

  pub none_reached : (goal n : ℕ) → n ≡ length (seats o) → replicate n false ≡ map (reaches 0 o goal) (places_of (seats o))
  none_reached goal n all = none_reached_from goal n 0 ∙ ap (λ (k : ℕ). map (reaches 0 o goal) (range_with_len 0 k)) all
