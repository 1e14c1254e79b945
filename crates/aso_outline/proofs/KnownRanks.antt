-- Tables of ranks that are known, and what is known of all ranks.
use Rattle.std.specs.Prelude.{max, is_some, unwrap_or, IfSome}
use Rattle.std.specs.Option.{option_map, option_and_then}
use Rattle.std.proofs.Common.{◌≡◌, ◌≢◌, ◌∙◌, ℕ, zero, suc, ◌+◌, ◌<◌, ◌≤◌, ◌^◌, ◌⊎◌, ⊎_elim, inl, inr, true, false, List, [], ◌∷◌, length, map, set, replicate, length-set, get_or-set_other, get_or-set_same, Option, Some, None, refl, sym, ap, arith, true≢false}
use Rattle.std.proofs.lemmas.Bool.{cases_eq}
use Rattle.std.proofs.lemmas.List.{ext_get_or, get_or-replicate, length-replicate}
use Rattle.std.proofs.lemmas.List.FromFn.{get_or-map-range_with_len, length-map-range_with_len}
use Rattle.std.proofs.lemmas.Option.{none-some, unwrap_or-slice_get, slice_get_past}
use Rattle.aso_tree.specs.Trees.{places_of}
use Rattle.aso_tree.proofs.Ends.{either}
use Rattle.aso_outline.specs.declared.draft.Draft.{Draft}
use Rattle.aso_outline.specs.declared.row.Standing.{Standing}
use Rattle.aso_outline.specs.declared.row.Standing.TheVariants.{Stored, Label, Computed}
use Rattle.aso_outline.specs.Graph.{AreKnown, HasTurns, IsClosed, rank_after, rank_in}
use Rattle.aso_outline.specs.Members.{seats}
use Rattle.aso_outline.specs.Ranks.{greatest_rank, needs, rank, rank_from, rank_within, standing_of}
use Rattle.aso_outline.proofs.Gains.{ended, gained}
use Rattle.aso_outline.proofs.RankTurns.{rank_le, rank_next, rank_past}
use Rattle.aso_outline.proofs.Turns.{below_or_past}

-- ---- the greatest of ranks that come to be known

pair_keeps : (a b x y : Option ℕ) (r : ℕ) → ((s : ℕ) → a ≡ Some s → x ≡ Some s) → ((s : ℕ) → b ≡ Some s → y ≡ Some s) → option_and_then (λ k. option_map (max k) b) a ≡ Some r → option_and_then (λ k. option_map (max k) y) x ≡ Some r
pair_keeps None b x y r ha hb e = absurd (none-some r e)
pair_keeps (Some s) None x y r ha hb e = absurd (none-some r e)
pair_keeps (Some s) (Some u) x y r ha hb e = rw (ha s refl, hb u refl) e

pub greatest_keeps : (f g : ℕ → Option ℕ) → ((k r : ℕ) → f k ≡ Some r → g k ≡ Some r) → (ks : List ℕ) (r : ℕ) → greatest_rank (map f ks) ≡ Some r → greatest_rank (map g ks) ≡ Some r
greatest_keeps f g keeps [] r e = e
greatest_keeps f g keeps (k ∷ ks) r e = pair_keeps (f k) (greatest_rank (map f ks)) (g k) (greatest_rank (map g ks)) r (keeps k) (greatest_keeps f g keeps ks) e

pair_lacks : (a b x y : Option ℕ) → (a ≡ None → x ≡ None) → (b ≡ None → y ≡ None) → option_and_then (λ k. option_map (max k) b) a ≡ None → option_and_then (λ k. option_map (max k) y) x ≡ None
pair_lacks None b x y ha hb e = ap (λ (o : Option ℕ). option_and_then (λ k. option_map (max k) y) o) (ha refl)
pair_lacks (Some s) None None y ha hb e = refl
pair_lacks (Some s) None (Some t) y ha hb e = ap (option_map (max t)) (hb refl)
pair_lacks (Some s) (Some u) x y ha hb e = absurd (none-some _ (sym e))

greatest_lacks : (f g : ℕ → Option ℕ) → ((k : ℕ) → f k ≡ None → g k ≡ None) → (ks : List ℕ) → greatest_rank (map f ks) ≡ None → greatest_rank (map g ks) ≡ None
greatest_lacks f g lacks [] e = absurd (none-some _ (sym e))
greatest_lacks f g lacks (k ∷ ks) e = pair_lacks (f k) (greatest_rank (map f ks)) (g k) (greatest_rank (map g ks)) (lacks k) (greatest_lacks f g lacks ks) e

pub from_keeps : (st : Standing) (a b : Option ℕ) → ((r : ℕ) → a ≡ Some r → b ≡ Some r) → (r : ℕ) → rank_from st a ≡ Some r → rank_from st b ≡ Some r
from_keeps Stored a b keeps r e = e
from_keeps Label a b keeps r e = keeps r e
from_keeps Computed None b keeps r e = absurd (none-some r e)
from_keeps Computed (Some s) b keeps r e = ap (option_map (λ (x : ℕ). x + 1)) (keeps s refl) ∙ e

from_lacks : (st : Standing) (a b : Option ℕ) → (a ≡ None → b ≡ None) → rank_from st a ≡ None → rank_from st b ≡ None
from_lacks Stored a b lacks e = e
from_lacks Label a b lacks e = lacks e
from_lacks Computed None b lacks e = ap (option_map (λ (x : ℕ). x + 1)) (lacks refl)
from_lacks Computed (Some s) b lacks e = absurd (none-some _ (sym e))

is_none : (x : Option ℕ) → is_some x ≡ false → x ≡ None
is_none None e = refl
is_none (Some a) e = absurd (true≢false e)

value_of : (x : Option ℕ) → is_some x ≡ true → (r : ℕ) × (x ≡ Some r)
value_of None e = absurd (true≢false (sym e))
value_of (Some r) e = (r, refl)

some_there : (x : Option ℕ) (r : ℕ) → x ≡ Some r → is_some x ≡ true
some_there x r e = ap is_some e

below_or_at : (k i : ℕ) → k < i + 1 → (k < i) ⊎ (k ≡ i)
below_or_at k i low = grind (arith, low)

module _ (o : Draft) where
  pub rank_keeps : (t k r : ℕ) → rank_within t o k ≡ Some r → rank_within (suc t) o k ≡ Some r
  rank_keeps zero k r e = from_keeps (standing_of o k) None (greatest_rank (map (rank_within 0 o) (needs o k))) (λ r h. absurd (none-some r h)) r e
  rank_keeps (suc t) k r e =
      from_keeps (standing_of o k) (greatest_rank (map (rank_within t o) (needs o k))) (greatest_rank (map (rank_within (suc t) o) (needs o k)))
      (greatest_keeps (rank_within t o) (rank_within (suc t) o) (rank_keeps t) (needs o k)) r e

  keeps_there : (t k : ℕ) → is_some (rank_within t o k) ≡ true → rank_within (suc t) o k ≡ rank_within t o k
  keeps_there t k e = let found = value_of (rank_within t o k) e in rank_keeps t k found.0 found.1 ∙ sym found.1

  past_there : (t k : ℕ) → length (seats o) ≤ k → rank_within (suc t) o k ≡ rank_within t o k
  past_there t k past = rank_past o (suc t) k past ∙ sym (rank_past o t k past)

  -- a rank that is found at some turn is the rank
  pub rank_found : (t k r : ℕ) → rank_within t o k ≡ Some r → rank o k ≡ Some r
  unfolding rank
  rank_found t k r e = gained is_some None is_none (λ t k. rank_within t o k) (length (seats o)) (rank_next o) keeps_there past_there t k (some_there _ r e) ∙ e

  -- the rank follows from those that it needs
  pub rank_follows : (k : ℕ) → rank o k ≡ rank_from (standing_of o k) (greatest_rank (map (rank o) (needs o k)))
  unfolding rank
  rank_follows k = sym (ended is_some None is_none (λ t k. rank_within t o k) (length (seats o)) (rank_next o) keeps_there past_there (suc (length (seats o))) k (omega arith))

  pub rank_beyond : (k : ℕ) → length (seats o) ≤ k → rank o k ≡ Some 0
  unfolding rank
  rank_beyond k past = rank_past o (length (seats o)) k past

  pub rank_most : (k r : ℕ) → rank o k ≡ Some r → r ≤ length (seats o)
  unfolding rank
  rank_most k r e = rank_le o (length (seats o)) k r e

  -- ---- tables

  module _ (ranks : List (Option ℕ)) (known : AreKnown o ranks) where
    pub after_right : (k r : ℕ) → rank_after o ranks k ≡ Some r → rank o k ≡ Some r
    after_right k r e =
        rank_follows k ∙ from_keeps (standing_of o k) (greatest_rank (map (rank_in ranks) (needs o k))) (greatest_rank (map (rank o) (needs o k)))
        (greatest_keeps (rank_in ranks) (rank o) known.right (needs o k)) r e

    pub after_small : (k : ℕ) (x : Option ℕ) → x ≡ rank_after o ranks k → length (seats o) < 2 ^ 32 → IfSome x (λ r. r < 2 ^ 32)
    after_small k None is few = tt
    after_small k (Some r) is few = let most : r ≤ length (seats o) = rank_most k r (after_right k r (sym is)) in omega (arith, most, few)

    -- what a turn finds, by a table that has the turns before
    pub after_turn : (t k r : ℕ) → HasTurns o t ranks → rank_within t o k ≡ Some r → rank_after o ranks k ≡ Some r
    after_turn zero k r turns e = from_keeps (standing_of o k) None (greatest_rank (map (rank_in ranks) (needs o k))) (λ s h. absurd (none-some s h)) r e
    after_turn (suc t) k r turns e =
        from_keeps (standing_of o k) (greatest_rank (map (rank_within t o) (needs o k))) (greatest_rank (map (rank_in ranks) (needs o k)))
        (greatest_keeps (rank_within t o) (rank_in ranks) (λ j s h. turns t j s (omega arith) h) (needs o k)) r e

    -- an entry that is the rank
    pub in_past : (k : ℕ) → length (seats o) ≤ k → rank_in ranks k ≡ Some 0
    in_past k past = ap (λ (x : Option (Option ℕ)). unwrap_or x (Some 0)) (slice_get_past ranks k (omega (arith, known.long, past)))

    pub all_right : ((k : ℕ) → rank_in ranks k ≡ None → rank o k ≡ None) → ranks ≡ map (rank o) (places_of (seats o))
    all_right lacks =
        ext_get_or (Some 0) ranks (map (rank o) (places_of (seats o))) (known.long ∙ sym (length-map-range_with_len (rank o) 0 (length (seats o))))
        (λ i low. sym (unwrap_or-slice_get ranks i (Some 0)) ∙ (same i ∙ sym (get_or-map-range_with_len (rank o) 0 (length (seats o)) i i (Some 0) (omega (arith, low, known.long)) (omega arith))))
      where
        by_value : (i : ℕ) (x : Option ℕ) → rank_in ranks i ≡ x → rank_in ranks i ≡ rank o i
        by_value i None e = e ∙ sym (lacks i e)
        by_value i (Some r) e = e ∙ sym (known.right i r e)

        same : (i : ℕ) → rank_in ranks i ≡ rank o i
        same i = by_value i (rank_in ranks i) refl

    none_within : IsClosed o ranks → (t k : ℕ) → rank_in ranks k ≡ None → rank_within t o k ≡ None
    none_within closed zero k e = from_lacks (standing_of o k) (greatest_rank (map (rank_in ranks) (needs o k))) None (λ _. refl) (closed k e)
    none_within closed (suc t) k e =
        from_lacks (standing_of o k) (greatest_rank (map (rank_in ranks) (needs o k))) (greatest_rank (map (rank_within t o) (needs o k)))
        (greatest_lacks (rank_in ranks) (rank_within t o) (none_within closed t) (needs o k)) (closed k e)

    -- a table from which no further rank follows has all
    pub closed_right : IsClosed o ranks → ranks ≡ map (rank o) (places_of (seats o))
    unfolding rank
    closed_right closed = all_right (none_within closed (length (seats o)))

    -- so has one that has as many turns as there are members
    pub turns_right : (turns : ℕ) → length (seats o) < turns → HasTurns o turns ranks → ranks ≡ map (rank o) (places_of (seats o))
    unfolding rank
    turns_right turns end turn = all_right (λ k e. is_none (rank o k) (lacking k e (either (is_some (rank o k)))))
      where
        lacking : (k : ℕ) → rank_in ranks k ≡ None → (is_some (rank o k) ≡ true) ⊎ (is_some (rank o k) ≡ false) → is_some (rank o k) ≡ false
        lacking k e (inl there) = let found = value_of (rank o k) there in absurd (none-some found.0 (sym e ∙ turn (length (seats o)) k found.0 end found.1))
        lacking k e (inr none) = none

    -- ---- one entry more

    module _ (i : ℕ) (low : i < length ranks) (x : Option ℕ) where
      at_same : rank_in (set ranks i x) i ≡ x
      at_same = unwrap_or-slice_get (set ranks i x) i (Some 0) ∙ get_or-set_same ranks i x (Some 0) low

      at_other : (k : ℕ) → k ≢ i → rank_in (set ranks i x) k ≡ rank_in ranks k
      at_other k differs = unwrap_or-slice_get (set ranks i x) k (Some 0) ∙ (get_or-set_other ranks i k x (Some 0) differs ∙ sym (unwrap_or-slice_get ranks k (Some 0)))

      module _ (right : (r : ℕ) → x ≡ Some r → rank o i ≡ Some r) where
        at_right : (k r : ℕ) → (k ≡ i) ⊎ (k ≡ i → ⊥) → rank_in (set ranks i x) k ≡ Some r → rank o k ≡ Some r
        at_right k r (inl same) e = ap (rank o) same ∙ right r (sym at_same ∙ (ap (rank_in (set ranks i x)) (sym same) ∙ e))
        at_right k r (inr differs) e = known.right k r (sym (at_other k differs) ∙ e)

        pub set_known : AreKnown o (set ranks i x)
        set_known = record {
          long = length-set ranks i x ∙ known.long;
          right = λ k r e. at_right k r (cases_eq k i) e;
        }

        at_kept : is_some x ≡ true → (k r : ℕ) → (k ≡ i) ⊎ (k ≡ i → ⊥) → rank_in ranks k ≡ Some r → rank_in (set ranks i x) k ≡ Some r
        at_kept there k r (inl same) e =
            let found = value_of x there in
            ap (rank_in (set ranks i x)) same ∙ (at_same ∙ (found.1 ∙ (sym (right found.0 found.1) ∙ (ap (rank o) (sym same) ∙ known.right k r e))))
        at_kept there k r (inr differs) e = at_other k differs ∙ e

        pub set_keeps : is_some x ≡ true → (k r : ℕ) → rank_in ranks k ≡ Some r → rank_in (set ranks i x) k ≡ Some r
        set_keeps there k r e = at_kept there k r (cases_eq k i) e

      pub set_there : (r : ℕ) → x ≡ Some r → rank_in (set ranks i x) i ≡ Some r
      set_there r e = at_same ∙ e

  -- ---- turns

  pub next_kept : (t : ℕ) (old new : List (Option ℕ)) (i : ℕ) → ((k r : ℕ) → k < i → rank_within t o k ≡ Some r → rank_in old k ≡ Some r)
      → ((k r : ℕ) → rank_in old k ≡ Some r → rank_in new k ≡ Some r) → ((r : ℕ) → rank_within t o i ≡ Some r → rank_in new i ≡ Some r)
      → (k r : ℕ) → k < i + 1 → rank_within t o k ≡ Some r → rank_in new k ≡ Some r
  next_kept t old new i before kept here k r low e =
      ⊎_elim
      (λ (less : k < i). kept k r (before k r less e))
      (λ (same : k ≡ i). ap (rank_in new) same ∙ here r (sym (ap (rank_within t o) same) ∙ e))
      (below_or_at k i low)

  pub turn_ended : (t : ℕ) (ranks : List (Option ℕ)) → AreKnown o ranks → (i : ℕ) → length (seats o) ≤ i → HasTurns o t ranks → ((k r : ℕ) → k < i → rank_within t o k ≡ Some r → rank_in ranks k ≡ Some r) → HasTurns o (t + 1) ranks
  turn_ended t ranks known i end turns all u k r low e =
      ⊎_elim
      (λ (less : u < t). turns u k r less e)
      (λ (same : u ≡ t). here (sym (ap (λ (m : ℕ). rank_within m o k) same) ∙ e) (below_or_past k i))
      (below_or_at u t low)
    where
      here : rank_within t o k ≡ Some r → (k < i) ⊎ (i ≤ k) → rank_in ranks k ≡ Some r
      here h (inl less) = all k r less h
      here h (inr past) = in_past ranks known k (omega (arith, end, past)) ∙ (sym (rank_past o t k (omega (arith, end, past))) ∙ h)

  -- ---- closed tables

  pub closed_on : (ranks : List (Option ℕ)) → AreKnown o ranks → (i : ℕ) → length (seats o) ≤ i → ((k : ℕ) → k < i → rank_in ranks k ≡ None → rank_after o ranks k ≡ None) → IsClosed o ranks
  closed_on ranks known i end all k e =
      ⊎_elim
      (λ (low : k < i). all k low e)
      (λ (past : i ≤ k). absurd (none-some 0 (sym e ∙ in_past ranks known k (omega (arith, end, past)))))
      (below_or_past k i)

abbrev pub none_yet : Option ℕ
none_yet = None

-- no rank is known at first
pub unknown_right : (o : Draft) (m : ℕ) → m ≡ length (seats o) → AreKnown o (replicate m none_yet)
unknown_right o m all = record {
  long = length-replicate m none_yet ∙ all;
  right = λ k r e. by_place k r e (below_or_past k m);
}
  where
    by_place : (k r : ℕ) → rank_in (replicate m none_yet) k ≡ Some r → (k < m) ⊎ (m ≤ k) → rank o k ≡ Some r
    by_place k r e (inl low) = absurd (none-some r (sym (unwrap_or-slice_get (replicate m none_yet) k (Some 0) ∙ get_or-replicate m k none_yet (Some 0) low) ∙ e))
    by_place k r e (inr past) =
        rank_beyond o k (omega (arith, all, past))
        ∙ (sym (ap (λ (x : Option (Option ℕ)). unwrap_or x (Some 0)) (slice_get_past (replicate m none_yet) k (omega (arith, length-replicate m none_yet, past)))) ∙ e)
