-- Where no member's rank needs itself, each member has a rank: what a member reaches shrinks from a member to one that it needs.
use Rattle.std.specs.Prelude.{max, is_some, slice_index_or, unwrap_or, nat_lt}
use Rattle.std.specs.Option.{option_map, option_and_then}
use Rattle.std.specs.List.{Contains, list_any, position}
use Rattle.std.proofs.Common.{◌≡◌, ◌∙◌, ℕ, zero, suc, ◌+◌, ◌<◌, ◌≤◌, ◌||◌, ◌⊎◌, ⊎_elim, inl, inr, eqb, Bool, true, false, List, [], ◌∷◌, length, map, Option, Some, None, refl, sym, ap, arith, true≢false, eq-eqb}
use Rattle.std.proofs.lemmas.Bool.{eqb-true, ltb-false}
use Rattle.std.proofs.lemmas.Option.{none-some, same_Some}
use Rattle.aso_tree.specs.Trees.{places_of}
use Rattle.aso_tree.proofs.Positions.{none_of_range, some_if_any}
use Rattle.aso_outline.specs.declared.draft.Draft.{Draft}
use Rattle.aso_outline.specs.declared.row.Standing.{Standing}
use Rattle.aso_outline.specs.declared.row.Standing.TheVariants.{Stored, Label, Computed}
use Rattle.aso_outline.specs.Kept.{HasRanks}
use Rattle.aso_outline.specs.Members.{seats}
use Rattle.aso_outline.specs.Ranks.{at_number, greatest_rank, needs, needs_itself, rank, rank_from, rank_of, reaches, standing_of}
use Rattle.aso_outline.specs.Rules.{breaks_formulas, breaks_rank, broken, has_wrong_atom, least_formula, rules}
use Rattle.aso_outline.proofs.Gains.{count, gained, gains}
use Rattle.aso_outline.proofs.KnownRanks.{rank_beyond, rank_follows}
use Rattle.aso_outline.proofs.RankTurns.{reach_next, reach_past}
use Rattle.aso_outline.proofs.Rooted.{each_kept}
use Rattle.aso_outline.proofs.Turns.{below_or_past}

-- ---- members that are needed

abbrev pub has : List ℕ → ℕ → Bool
has ks m = list_any (λ (k : ℕ). eqb k m) ks

pub right_true : (a b : Bool) → b ≡ true → (a || b) ≡ true
right_true true b e = refl
right_true false b e = e

left_true : (a b : Bool) → a ≡ true → (a || b) ≡ true
left_true true b e = refl
left_true false b e = absurd (true≢false (sym e))

or_split : (a b : Bool) → (a || b) ≡ true → (a ≡ true) ⊎ (b ≡ true)
or_split true b e = inl refl
or_split false b e = inr e

pub any_there : (p : ℕ → Bool) (ks : List ℕ) (m : ℕ) → has ks m ≡ true → p m ≡ true → list_any p ks ≡ true
any_there p [] m there here = there
any_there p (k ∷ ks) m there here =
    ⊎_elim
    (λ (same : eqb k m ≡ true). left_true (p k) (list_any p ks) (ap p (eqb-true k m same) ∙ here))
    (λ (rest : has ks m ≡ true). right_true (p k) (list_any p ks) (any_there p ks m rest here))
    (or_split (eqb k m) (has ks m) there)

any_keeps : (p q : ℕ → Bool) → ((k : ℕ) → p k ≡ true → q k ≡ true) → (ks : List ℕ) → list_any p ks ≡ true → list_any q ks ≡ true
any_keeps p q keeps [] e = e
any_keeps p q keeps (k ∷ ks) e =
    ⊎_elim
    (λ (here : p k ≡ true). left_true (q k) (list_any q ks) (keeps k here))
    (λ (rest : list_any p ks ≡ true). right_true (q k) (list_any q ks) (any_keeps p q keeps ks rest))
    (or_split (p k) (list_any p ks) e)

rest_lacks : (a : ℕ) (g : Option ℕ) → option_map (max a) g ≡ None → g ≡ None
rest_lacks a None e = refl
rest_lacks a (Some b) e = absurd (none-some _ (sym e))

-- where the greatest lacks, one does
lacking : (f : ℕ → Option ℕ) (ks : List ℕ) → greatest_rank (map f ks) ≡ None → (m : ℕ) × (has ks m ≡ true) × (f m ≡ None)
lacking f [] e = absurd (none-some 0 (sym e))
lacking f (k ∷ ks) e = by_first (λ h. lacking f ks h) (f k) refl e
  where
    by_first : (greatest_rank (map f ks) ≡ None → (m : ℕ) × (has ks m ≡ true) × (f m ≡ None)) → (x : Option ℕ) → f k ≡ x → option_and_then (λ a. option_map (max a) (greatest_rank (map f ks))) x ≡ None → (m : ℕ) × (has (k ∷ ks) m ≡ true) × (f m ≡ None)
    by_first rest None is h = (k, left_true (eqb k k) (has ks k) (eq-eqb k k refl), is)
    by_first rest (Some a) is h =
        let found = rest (rest_lacks a (greatest_rank (map f ks)) h) in
        (found.0, right_true (eqb k found.0) (has ks found.0) found.1, found.2)

-- the greatest is at least each
bounded : (f : ℕ → Option ℕ) (ks : List ℕ) (b : ℕ) → greatest_rank (map f ks) ≡ Some b → (m : ℕ) → has ks m ≡ true → (s : ℕ) × (f m ≡ Some s) × (s ≤ b)
bounded f [] b e m there = absurd (true≢false (sym there))
bounded f (k ∷ ks) b e m there = by_first (λ d h later. bounded f ks d h m later) (f k) refl (greatest_rank (map f ks)) refl e
  where
    by_first : ((d : ℕ) → greatest_rank (map f ks) ≡ Some d → has ks m ≡ true → (s : ℕ) × (f m ≡ Some s) × (s ≤ d)) → (x : Option ℕ) → f k ≡ x → (g : Option ℕ) → greatest_rank (map f ks) ≡ g → option_and_then (λ a. option_map (max a) g) x ≡ Some b → (s : ℕ) × (f m ≡ Some s) × (s ≤ b)
    by_first more None is g rest h = absurd (none-some b h)
    by_first more (Some a) is None rest h = absurd (none-some b h)
    by_first more (Some a) is (Some d) rest h =
        let most : max a d ≡ b = same_Some (max a d) b h in
        ⊎_elim
        (λ (same : eqb k m ≡ true). (a, ap f (sym (eqb-true k m same)) ∙ is, omega (arith, most)))
        (λ (later : has ks m ≡ true). let found = more d rest later in (found.0, found.1, omega (arith, most, found.2)))
        (or_split (eqb k m) (has ks m) there)

pub has_from : (ks : List ℕ) (m : ℕ) → Contains ks m → has ks m ≡ true
has_from [] m at = absurd (omega (arith, at.1))
has_from (k ∷ ks) m at = by_place (λ rest. has_from ks m rest) at.0 at.1 at.2
  where
    by_place : (Contains ks m → has ks m ≡ true) → (i : ℕ) → i < length (k ∷ ks) → slice_index_or (k ∷ ks) i m ≡ m → has (k ∷ ks) m ≡ true
    by_place more zero low is = left_true (eqb k m) (has ks m) (eq-eqb k m is)
    by_place more (suc i) low is = right_true (eqb k m) (has ks m) (more (i, omega (arith, low), is))

not_stored : (st : Standing) (below : Option ℕ) → rank_from st below ≡ None → below ≡ None
not_stored Stored below e = absurd (none-some 0 (sym e))
not_stored Label below e = e
not_stored Computed None e = refl
not_stored Computed (Some b) e = absurd (none-some (b + 1) (sym e))

module _ (o : Draft) where
  reach_keeps : (t goal k : ℕ) → reaches t o goal k ≡ true → reaches (suc t) o goal k ≡ true
  reach_keeps zero goal k e = absurd (true≢false (sym e))
  reach_keeps (suc t) goal k e =
      any_keeps (λ (j : ℕ). eqb j goal || reaches t o goal j) (λ (j : ℕ). eqb j goal || reaches (suc t) o goal j)
      (λ j h. ⊎_elim (λ (same : eqb j goal ≡ true). left_true (eqb j goal) (reaches (suc t) o goal j) same)
      (λ (further : reaches t o goal j ≡ true). right_true (eqb j goal) (reaches (suc t) o goal j) (reach_keeps t goal j further))
      (or_split (eqb j goal) (reaches t o goal j) h)) (needs o k) e

  -- what is reached in some turns is reached in as many as there are members
  pub reached : (t goal k : ℕ) → reaches t o goal k ≡ true → reaches (length (seats o)) o goal k ≡ true
  reached t goal k e =
      gained (λ (b : Bool). b) false (λ b h. h) (λ t k. reaches t o goal k) (length (seats o)) (reach_next o goal)
      (λ t k h. reach_keeps t goal k h ∙ sym h) (λ t k past. reach_past o (suc t) goal k past ∙ sym (reach_past o t goal k past)) t k e ∙ e

  abbrev reach : ℕ → ℕ → Bool
  reach n g = reaches (length (seats o)) o g n

  module _ (n m : ℕ) (need : has (needs o n) m ≡ true) where
    step_to : reach n m ≡ true
    step_to = reached 1 m n (any_there (λ (j : ℕ). eqb j m || reaches 0 o m j) (needs o n) m need (left_true (eqb m m) (reaches 0 o m m) (eq-eqb m m refl)))

    step_past : (g : ℕ) → reach m g ≡ true → reach n g ≡ true
    step_past g h = reached (suc (length (seats o))) g n (any_there (λ (j : ℕ). eqb j g || reach j g) (needs o n) m need (right_true (eqb m g) (reach m g) h))

  module _ (free : (k : ℕ) → k < length (seats o) → rank o k ≡ None → needs_itself o k ≡ false) where
    fewer : (n m : ℕ) → has (needs o n) m ≡ true → m < length (seats o) → rank o m ≡ None → count (reach m) (length (seats o)) < count (reach n) (length (seats o))
    unfolding needs_itself
    fewer n m need low lacks =
        ⊎_elim
        (λ (same : (k : ℕ) → k < length (seats o) → reach n k ≡ reach m k). absurd (true≢false (sym (step_to n m need) ∙ (same m low ∙ free m low lacks))))
        (λ (less : count (reach m) (length (seats o)) < count (reach n) (length (seats o))). less)
        (gains (reach m) (reach n) (step_past n m need) (length (seats o)))

    never_lacks : (c n : ℕ) → count (reach n) (length (seats o)) < c → rank o n ≡ None → ⊥
    never_lacks zero n low e = absurd (omega (arith, low))
    never_lacks (suc c) n low e =
        let found = lacking (rank o) (needs o n) (not_stored (standing_of o n) (greatest_rank (map (rank o) (needs o n))) (sym (rank_follows o n) ∙ e)) in
        ⊎_elim
        (λ (within : found.0 < length (seats o)). let less : count (reach found.0) (length (seats o)) < count (reach n) (length (seats o)) = fewer n found.0 found.1 within found.2 in never_lacks c found.0 (omega (arith, less, low)) found.2)
        (λ (past : length (seats o) ≤ found.0). none-some 0 (sym found.2 ∙ rank_beyond o found.0 past))
        (below_or_past found.0 (length (seats o)))

    pub ranked : (n : ℕ) → rank o n ≡ Some (rank_of o n)
    ranked n = by_value (rank o n) refl
      where
        by_value : (x : Option ℕ) → rank o n ≡ x → rank o n ≡ Some (rank_of o n)
        by_value None e = absurd (never_lacks (suc (count (reach n) (length (seats o)))) n (omega arith) e)
        by_value (Some r) e = e ∙ ap (λ (x : Option ℕ). Some (unwrap_or x 0)) (sym e)

-- ---- an outline that keeps the rules

or_right : (a b : Bool) → (a || b) ≡ false → b ≡ false
or_right true b h = absurd (true≢false h)
or_right false b h = h

module _ (o : Draft) (kept : broken o ≡ None) where
  kept_formulas : position (breaks_formulas o) (places_of (seats o)) ≡ None
  unfolding broken
  kept_formulas = each_kept rules o kept 10 (11, least_formula) refl

  kept_rank : (n : ℕ) → n < length (seats o) → breaks_rank o n ≡ false
  kept_rank n low =
      or_right (at_number (has_wrong_atom o) o n) (breaks_rank o n)
      (none_of_range (breaks_formulas o) (length (seats o)) 0 n (sym (some_if_any (breaks_formulas o) (places_of (seats o))) ∙ ap is_some kept_formulas) (omega arith) (omega (arith, low)))

  by_rank : (n : ℕ) (x : Option ℕ) (r : ℕ) → x ≡ Some r → unwrap_or (option_map (nat_lt 64) x) (needs_itself o n) ≡ false → r ≤ 64
  by_rank n None r e h = absurd (none-some r e)
  by_rank n (Some s) r e h = let is : s ≡ r = same_Some s r e in let most : s ≤ 64 = ltb-false 64 s h in omega (arith, is, most)

  free : (n : ℕ) → n < length (seats o) → rank o n ≡ None → needs_itself o n ≡ false
  free n low lacks = ap (λ (x : Option ℕ). unwrap_or (option_map (nat_lt 64) x) (needs_itself o n)) (sym lacks) ∙ kept_rank n low

  known : (n : ℕ) → rank o n ≡ Some (rank_of o n)
  known n = ranked o free n

  follows : (n : ℕ) → rank_from (standing_of o n) (greatest_rank (map (rank o) (needs o n))) ≡ Some (rank_of o n)
  follows n = sym (rank_follows o n) ∙ known n

  -- the rank of what is needed, by how the rank follows
  by_standing : (st : Standing) (g : Option ℕ) (r : ℕ) → rank_from st g ≡ Some r → st ≡ Computed → (b : ℕ) × (g ≡ Some b) × (r ≡ b + 1)
  by_standing Stored g r e is = cc
  by_standing Label g r e is = cc
  by_standing Computed None r e is = absurd (none-some r e)
  by_standing Computed (Some b) r e is = (b, refl, sym (same_Some (b + 1) r e))

  by_label : (st : Standing) (g : Option ℕ) (r : ℕ) → rank_from st g ≡ Some r → st ≡ Label → g ≡ Some r
  by_label Stored g r e is = cc
  by_label Label g r e is = e
  by_label Computed g r e is = cc

  by_stored : (st : Standing) (g : Option ℕ) (r : ℕ) → rank_from st g ≡ Some r → st ≡ Stored → r ≡ 0
  by_stored Stored g r e is = sym (same_Some 0 r e)
  by_stored Label g r e is = cc
  by_stored Computed g r e is = cc

  pub kept_ranks : HasRanks o
  kept_ranks = record {
    known = known;
    bound = λ n low. by_rank n (rank o n) (rank_of o n) (known n) (kept_rank n low);
    stored = λ n is. by_stored (standing_of o n) (greatest_rank (map (rank o) (needs o n))) (rank_of o n) (follows n) is;
    label = λ n is. by_label (standing_of o n) (greatest_rank (map (rank o) (needs o n))) (rank_of o n) (follows n) is;
    falls = λ n k is there.
        let top = by_standing (standing_of o n) (greatest_rank (map (rank o) (needs o n))) (rank_of o n) (follows n) is in
        let found = bounded (rank o) (needs o n) top.0 top.1 k (has_from (needs o n) k there) in
        let same : rank_of o k ≡ found.0 = same_Some (rank_of o k) found.0 (sym (known k) ∙ found.1) in
        omega (arith, same, found.2, top.2);
  }
