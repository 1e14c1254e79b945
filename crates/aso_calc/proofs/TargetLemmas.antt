-- What a member stands for: its dimension and its rank, and that it isn't label only.
use Rattle.std.proofs.Common.{◌≡◌, ◌∙◌, ℕ, zero, suc, ◌+◌, ◌-◌, ◌<◌, ◌≤◌, ◌&&◌, ◌||◌, Bool, true, false, not, eqb, List, [], ◌∷◌, drop, length, map, max, Option, Some, None, refl, sym, ap, subst, arith, true≢false}
use Rattle.std.specs.Prelude.{slice_get, unwrap_or, nat_lt, if◌then◌else◌, is_none, is_some}
use Rattle.std.specs.Option.{option_map, option_and_then}
use Rattle.std.proofs.lemmas.Bool.{eqb-true, lt-ltb}
use Rattle.std.proofs.lemmas.Option.{none-some, same_Some, slice_get_within}
use Rattle.aso_outline.specs.declared.draft.Draft.{Draft}
use Rattle.aso_outline.specs.declared.draft.DraftMember.{DraftMember}
use Rattle.aso_outline.specs.declared.row.Standing.{Standing}
use Rattle.aso_outline.specs.declared.row.Standing.TheVariants.{Stored, Label, Computed}
use Rattle.aso_outline.specs.declared.seat.Seat.{Seat}
use Rattle.aso_outline.specs.declared.seat.Seat.TheVariants.{Whole, Inner, Carried}
use Rattle.aso_outline.specs.Kept.{HasRanks, HasRoots}
use Rattle.aso_outline.specs.Members.{Name, dim_at, dim_of, find, has, is_childless, is_computed, is_data_leaf, is_dynamic, member_is, past_labels, place_of, resolve, seats, tree, whole_seats}
use Rattle.aso_outline.specs.Numbers.{IsSeat, seat_of}
use Rattle.aso_outline.specs.Ranks.{atoms_at, children, formula_of, greatest_rank, own_operands, is_label, is_of_dim, named, needs, needs_at, number_in, rank, rank_of, standing_at, standing_of}
use Rattle.aso_outline.specs.Rules.{breaks_labels, breaks_sharing, broken, is_alternate, is_bare, is_leaf_name, is_shared, is_shared_before, is_well_shared, name_at}
use Rattle.aso_outline.specs.Small.{HasTrees}
use Rattle.aso_outline.specs.Tables.{before_dim, before_hier}
use Rattle.aso_outline.specs.Targets.{number_of, target_of}
use Rattle.aso_outline.proofs.Acyclic.{kept_ranks}
use Rattle.aso_outline.proofs.AtSeats.{none_at}
use Rattle.aso_outline.proofs.ByName.{named_by_number}
use Rattle.aso_outline.proofs.Kept.{has_trees}
use Rattle.aso_outline.proofs.Numbered.{numbered}
use Rattle.aso_outline.proofs.NumberLemmas.{before_first_hier, number_inner}
use Rattle.aso_outline.proofs.Placed.{placed}
use Rattle.aso_outline.proofs.Rooted.{kept_labels, kept_sharing, kept_trees, resolved_there}
use Rattle.aso_outline.proofs.Smalls.{and_left, and_right}

abbrev is_label_at : List DraftMember → ℕ → Bool
is_label_at ms k = member_is (λ m. m.label_only) ms k

get_drop : {X : Type 0} (xs : List X) (i k j : ℕ) → j ≡ i + k → slice_get (drop i xs) k ≡ slice_get xs j
get_drop xs zero k j e = ap (slice_get xs) (omega (arith, e))
get_drop [] (suc i) k j e = refl
get_drop (x ∷ xs) (suc i) k zero e = absurd (omega (arith, e))
get_drop (x ∷ xs) (suc i) k (suc j) e = get_drop xs i k j (omega (arith, e))

abbrev mark_of : Option DraftMember → Bool
mark_of x = unwrap_or (option_map (λ (m : DraftMember). m.label_only) x) false

-- the search past labels stops at a member that isn't one
label_stop : (ms xs : List DraftMember) (i : ℕ) → ((k j : ℕ) → j ≡ i + k → slice_get ms j ≡ slice_get xs k) → is_label_at ms (past_labels xs i) ≡ false
label_stop ms [] i same = ap mark_of (same 0 i (omega arith))
label_stop ms (m ∷ xs) i same = by_label (label_stop ms xs (suc i) (λ k j e. same (suc k) j (omega (arith, e)))) m.label_only refl
  where
    by_label : is_label_at ms (past_labels xs (suc i)) ≡ false → (b : Bool) → m.label_only ≡ b → is_label_at ms (if b then past_labels xs (suc i) else i) ≡ false
    by_label rest true is = rest
    by_label rest false is = ap mark_of (same 0 i (omega arith)) ∙ is

stays_at : (xs : List DraftMember) (j : ℕ) → mark_of (slice_get xs 0) ≡ false → past_labels xs j ≡ j
stays_at [] j plain = refl
stays_at (m ∷ xs) j plain = ap (λ (b : Bool). if b then past_labels xs (suc j) else j) plain

not_both : (a b : Bool) → a ≡ true → (a && not b) ≡ false → b ≡ true
not_both true true at is = refl
not_both true false at is = absurd (true≢false is)
not_both false b at is = absurd (true≢false (sym at))

no_label : (a b c : Bool) → b ≡ true → (a && not (not b && c)) ≡ false → a ≡ false
no_label true true c at is = absurd (true≢false is)
no_label true false c at is = absurd (true≢false (sym at))
no_label false b c at is = refl

-- what it stands for has a formula or, in a dynamic hierarchy, children
abbrev computed_as : Draft → Seat → Bool
computed_as o s = has (λ m. is_some m.formula) o s || (is_dynamic o s && not (is_childless o s))

-- what a computed member needs that isn't label only
abbrev pub plain_needs : Draft → ℕ → Seat → List ℕ
plain_needs o n s = if is_some (formula_of o s) then own_operands o (dim_of s) (atoms_at o s) else children o n s

-- what a member stands for
pub record Stands (o : Draft) (d n t : ℕ) : Type 0 where
  pub seat : Seat
  pub at : slice_get (seats o) t ≡ Some seat
  pub dim : is_of_dim d seat ≡ true
  pub rank : rank_of o t ≤ rank_of o n
  pub plain : is_computed o seat ≡ true → is_label o seat ≡ false

pub standing_there : (o : Draft) (n : ℕ) (s : Seat) → slice_get (seats o) n ≡ Some s → standing_of o n ≡ standing_at o s
standing_there o n s at = ap (λ (x : Option Seat). unwrap_or (option_map (standing_at o) x) Stored) at

pub standing_plain : (o : Draft) (s : Seat) → is_computed o s ≡ true → is_label o s ≡ false → standing_at o s ≡ Computed
standing_plain o s computed plain =
    ap (λ (b : Bool). if b then (if is_label o s then Label else Computed) else Stored) computed ∙ ap (λ (b : Bool). if b then Label else Computed) plain

standing_label : (o : Draft) (s : Seat) → is_computed o s ≡ true → is_label o s ≡ true → standing_at o s ≡ Label
standing_label o s computed label =
    ap (λ (b : Bool). if b then (if is_label o s then Label else Computed) else Stored) computed ∙ ap (λ (b : Bool). if b then Label else Computed) label

standing_stored : (o : Draft) (s : Seat) → is_computed o s ≡ false → standing_at o s ≡ Stored
standing_stored o s stored = ap (λ (b : Bool). if b then (if is_label o s then Label else Computed) else Stored) stored

pub seat_is : (o : Draft) (n : ℕ) (s : Seat) → slice_get (seats o) n ≡ Some s → seat_of o n ≡ s
seat_is o n s at = ap (λ (x : Option Seat). unwrap_or x (Whole 0)) at

module _ (o : Draft) (kept : broken o ≡ None) where
  trees : HasTrees o
  trees = has_trees o kept

  roots : HasRoots o
  roots = kept_trees o kept

  pub ranks : HasRanks o
  ranks = kept_ranks o kept

  pub stored_rank : (n : ℕ) (s : Seat) → slice_get (seats o) n ≡ Some s → is_computed o s ≡ false → rank_of o n ≡ 0
  stored_rank n s at stored = ranks.stored n (standing_there o n s at ∙ standing_stored o s stored)

  -- a member that isn't label only stands for itself
  itself : (s : Seat) → is_label o s ≡ false → resolve o s ≡ s
  itself (Whole d) plain = absurd (true≢false plain)
  itself (Inner d h i) plain = ap (Inner d h) (stays_at (drop i (tree (dim_at o d) h)) i (ap mark_of (get_drop (tree (dim_at o d) h) i 0 i (omega arith)) ∙ plain))
  itself (Carried a i) plain = refl

  -- a data leaf
  leaf_stands : (d n t : ℕ) (x : Seat) → slice_get (seats o) t ≡ Some x → is_of_dim d x ≡ true → is_data_leaf o x ≡ true → Stands o d n t
  leaf_stands d n t (Whole e) at dim leaf = absurd (true≢false (sym leaf))
  leaf_stands d n t (Carried a i) at dim leaf = absurd (true≢false (sym leaf))
  leaf_stands d n t (Inner e (suc h) i) at dim leaf = absurd (true≢false (sym leaf))
  leaf_stands d n t (Inner e zero i) at dim leaf =
      let x : Seat = Inner e 0 i in
      let childless : is_childless o x ≡ true = and_left (is_childless o x) _ leaf in
      let there : IsSeat o x = placed o t x at in
      let plain : is_label o x ≡ false = no_label (has (λ m. m.label_only) o x) (is_childless o x) _ childless (none_at o (breaks_labels o) (kept_labels o kept) x there.2) in
      let stored : is_computed o x ≡ false = ap (computed_as o) (itself x plain) ∙ no_formula (has (λ m. is_none m.formula) o x) (and_right (is_childless o x) _ leaf) childless in
      record { seat = x; at = at; dim = dim; rank = omega (arith, stored_rank t x at stored); plain = λ _. plain }
    where
      either_way : (m : Option DraftMember) → unwrap_or (option_map (λ (y : DraftMember). is_none y.formula) m) false ≡ true → unwrap_or (option_map (λ (y : DraftMember). is_some y.formula) m) false ≡ false
      either_way None is = refl
      either_way (Some y) is = by_formula y.formula is
        where
          by_formula : {Y : Type 0} (f : Option Y) → is_none f ≡ true → is_some f ≡ false
          by_formula None is = refl
          by_formula (Some z) is = absurd (true≢false (sym is))

      and_false : (b : Bool) → (b && false) ≡ false
      and_false true = refl
      and_false false = refl

      no_formula : (b : Bool) → has (λ m. is_none m.formula) o (Inner e 0 i) ≡ true → is_childless o (Inner e 0 i) ≡ true → computed_as o (Inner e 0 i) ≡ false
      no_formula b none childless =
          ap (λ (c : Bool). c || (is_dynamic o (Inner e 0 i) && not (is_childless o (Inner e 0 i)))) (either_way (slice_get (tree (dim_at o e) 0) i) none)
          ∙ (ap (λ (c : Bool). is_dynamic o (Inner e 0 i) && not c) childless ∙ and_false (is_dynamic o (Inner e 0 i)))

  -- what a label-only member needs is what it stands for
  in_number : (n : ℕ) (s : Seat) → slice_get (seats o) n ≡ Some s → number_in n s (place_of (resolve o s)) ≡ number_of o (resolve o s)
  in_number n (Whole e) at =
      let several : nat_lt 1 (length (dim_at o e).hiers) ≡ true = lt-ltb 1 (length (dim_at o e).hiers) (placed o n (Whole e) at).1 in
      let one : length (whole_seats (dim_at o e) e) ≡ 1 = ap (λ (b : Bool). length (if b then Whole e ∷ [] else [])) several in
      omega (arith, numbered o n (Whole e) at, before_first_hier o e, one)
  in_number n (Inner e h i) at = omega (arith, numbered o n (Inner e h i) at)
  in_number n (Carried a i) at = omega (arith, numbered o n (Carried a i) at)

  module _ (d n : ℕ) (s : Seat) (at : slice_get (seats o) n ≡ Some s) (e h j : ℕ) (is : resolve o s ≡ Inner e h j) (dim : is_of_dim d (Inner e h j) ≡ true) (plain : is_label o (Inner e h j) ≡ false) where
    abbrev r : Seat
    r = Inner e h j

    there : IsSeat o r
    there = subst (IsSeat o) is (resolved_there o trees roots (kept_labels o kept) s (placed o n s at))

    at_target : slice_get (seats o) (number_of o r) ≡ Some r
    at_target = number_inner o e h j (before_hier o e h + j) there.0 there.1 there.2 refl

    same_kind : is_computed o r ≡ is_computed o s
    same_kind = ap (computed_as o) (itself r plain ∙ sym is)

    needs_it : is_computed o s ≡ true → is_label o s ≡ true → needs o n ≡ number_of o r ∷ []
    needs_it computed label =
        ap (λ (x : Option Seat). unwrap_or (option_map (λ s. if is_computed o s then needs_at o n s else []) x) []) at
        ∙ (ap (λ (b : Bool). if b then needs_at o n s else []) computed
        ∙ (ap (λ (b : Bool). if b then number_in n s (place_of (resolve o s)) ∷ [] else plain_needs o n s) label
        ∙ ap (λ (k : ℕ). k ∷ []) (in_number n s at ∙ ap (number_of o) is)))

    one_rank : (x : Option ℕ) (a b : ℕ) → x ≡ Some a → greatest_rank (x ∷ []) ≡ Some b → b ≡ a
    one_rank (Some c) a b have e = let same : c ≡ a = same_Some c a have in let most : max c 0 ≡ b = same_Some (max c 0) b e in omega (arith, same, most)
    one_rank None a b have e = absurd (none-some a have)

    rank_low : (l c : Bool) → is_label o s ≡ l → is_computed o s ≡ c → rank_of o (number_of o r) ≤ rank_of o n
    rank_low false c not_label kind =
        let same : n ≡ number_of o r = numbered o n s at ∙ ap (number_of o) (sym (itself s not_label) ∙ is) in
        omega (arith, ap (rank_of o) same)
    rank_low true false label stored = omega (arith, stored_rank (number_of o r) r at_target (same_kind ∙ stored))
    rank_low true true label computed =
        let needed : greatest_rank (rank o (number_of o r) ∷ []) ≡ Some (rank_of o n) =
        ap (λ (ks : List ℕ). greatest_rank (map (rank o) ks)) (sym (needs_it computed label)) ∙ ranks.label n (standing_there o n s at ∙ standing_label o s computed label) in
        omega (arith, one_rank (rank o (number_of o r)) (rank_of o (number_of o r)) (rank_of o n) (ranks.known (number_of o r)) needed)

    by_shared : (b : Bool) → is_shared o r ≡ b → Stands o d n (if b then unwrap_or (find o (name_at o r)) n else number_of o r)
    by_shared false own = record { seat = r; at = at_target; dim = dim; rank = rank_low (is_label o s) (is_computed o s) refl refl; plain = λ _. plain }
    by_shared true shared =
        let well : is_well_shared o r ≡ true = not_both (is_shared o r) (is_well_shared o r) shared (none_at o (breaks_sharing o) (kept_sharing o kept) r there.2) in
        let leaf : is_leaf_name o e (name_at o r) ≡ true = and_left (is_leaf_name o e (name_at o r)) _ (and_right (is_childless o r) _ (and_right (is_alternate r) _ well)) in
        by_found (find o (name_at o r)) refl leaf
      where
        by_seat : (t : ℕ) (x : Option Seat) → slice_get (seats o) t ≡ x → unwrap_or (option_map (λ t. is_of_dim e t && is_data_leaf o t) x) false ≡ true → Stands o d n t
        by_seat t None held leaf = absurd (true≢false (sym leaf))
        by_seat t (Some x) held leaf =
            leaf_stands d n t x held (ap (λ (k : ℕ). is_of_dim k x) (eqb-true d e dim) ∙ and_left (is_of_dim e x) _ leaf) (and_right (is_of_dim e x) _ leaf)

        by_found : (f : Option ℕ) → find o (name_at o r) ≡ f → is_leaf_name o e (name_at o r) ≡ true → Stands o d n (unwrap_or f n)
        by_found None none leaf =
            absurd (true≢false (sym leaf ∙ ap (λ (x : Option Seat). unwrap_or (option_map (λ t. is_of_dim e t && is_data_leaf o t) x) false) (named_by_number o (name_at o r) ∙ ap (option_and_then (λ (k : ℕ). slice_get (seats o) k)) none)))
        by_found (Some t) found leaf =
            by_seat t (slice_get (seats o) t) refl
            (ap (λ (x : Option Seat). unwrap_or (option_map (λ t. is_of_dim e t && is_data_leaf o t) x) false) (sym (named_by_number o (name_at o r) ∙ ap (option_and_then (λ (k : ℕ). slice_get (seats o) k)) found)) ∙ leaf)

    pub stands_inner : Stands o d n (if is_shared o (resolve o s) then unwrap_or (find o (name_at o (resolve o s))) n else number_of o (resolve o s))
    stands_inner =
        subst (λ (x : Seat). Stands o d n (if is_shared o x then unwrap_or (find o (name_at o x)) n else number_of o x)) (sym is) (by_shared (is_shared o r) refl)

  by_seat : (d n : ℕ) (s : Seat) → slice_get (seats o) n ≡ Some s → is_of_dim d s ≡ true → Stands o d n (if is_shared o (resolve o s) then unwrap_or (find o (name_at o (resolve o s))) n else number_of o (resolve o s))
  by_seat d n (Whole e) at dim =
      let ms = tree (dim_at o e) 0 in
      stands_inner d n (Whole e) at e 0 (past_labels ms 0) refl dim (label_stop ms ms 0 (λ k j q. ap (slice_get ms) (omega (arith, q))))
  by_seat d n (Inner e h i) at dim =
      let ms = tree (dim_at o e) h in
      stands_inner d n (Inner e h i) at e h (past_labels (drop i ms) i) refl dim (label_stop ms (drop i ms) i (λ k j q. sym (get_drop ms i k j q)))
  by_seat d n (Carried a i) at dim = absurd (true≢false (sym dim))

  -- what a member of a base dimension stands for
  pub target_stands : (d n : ℕ) (s : Seat) → slice_get (seats o) n ≡ Some s → is_of_dim d s ≡ true → Stands o d n (target_of o n)
  target_stands d n s at dim =
      subst (λ (x : Seat). Stands o d n (if is_shared o (resolve o x) then unwrap_or (find o (name_at o (resolve o x))) n else number_of o (resolve o x))) (sym (seat_is o n s at)) (by_seat d n s at dim)
