-- The operands of an unfolding belong, and their ranks have a smaller sum.
use Rattle.std.proofs.Common.{◌≡◌, ◌≢◌, ◌∙◌, ◌⊎◌, ⊎_elim, inl, inr, ℕ, zero, suc, ◌+◌, ◌-◌, ◌<◌, ◌≤◌, ◌&&◌, ◌||◌, Bool, true, false, not, eqb, List, [], ◌∷◌, ◌++◌, length, map, max, Option, Some, None, refl, sym, ap, subst, arith, true≢false}
use Rattle.std.specs.Prelude.{slice_get, slice_index, slice_index_or, unwrap_or, set, nat_lt, nat_le, ◌==◌, if◌then◌else◌, is_some, IfSome}
use Rattle.std.specs.Option.{option_map, option_and_then}
use Rattle.std.specs.List.{Contains, cons_option, filter, filter_map, flat_map, fold, last_or, list_all, range_with_len, sum}
use Rattle.std.proofs.lemmas.Bool.{cases_eq, eqb-true, eq-eqb, lt-ltb, ltb-true, ne_eqb, leb-true}
use Rattle.std.proofs.lemmas.Option.{none-some, same_Some, slice_get_within}
use Rattle.std.proofs.lemmas.List.FromFn.{get_or-map-range_with_len, length-map-range_with_len}
use Rattle.aso_tree.specs.Trees.{greatest, places_of}
use Rattle.aso_tree.proofs.Positions.{none_of_range, some_if_any}
use Rattle.aso_outline.specs.declared.draft.Draft.{Draft}
use Rattle.aso_outline.specs.declared.draft.Expr.{Expr}
use Rattle.aso_outline.specs.declared.draft.ExtraMember.{ExtraMember}
use Rattle.aso_outline.specs.declared.row.Standing.TheVariants.{Computed}
use Rattle.aso_outline.specs.declared.seat.Seat.{Seat}
use Rattle.aso_outline.specs.declared.seat.Seat.TheVariants.{Whole, Inner, Carried}
use Rattle.aso_outline.specs.Atoms.{Atom, atoms}
use Rattle.aso_outline.specs.Extend.{AreOwn, own_rank}
use Rattle.aso_outline.specs.Members.{Name, dim_of, find, is_computed, place_of, resolve, seats}
use Rattle.aso_outline.specs.Numbers.{seat_of}
use Rattle.aso_outline.specs.Ranks.{all_named, at_number, atoms_at, children, formula_of, is_label, is_of_dim, members_named, named, needs, needs_at, number_in, operands_in, own_operands, rank_of, standing_of}
use Rattle.aso_outline.specs.Rules.{are_of_different_dims, breaks_formulas, breaks_rank, broken, count_in, has_wrong_atom, is_atom, is_base, is_operand, is_well_named, least_formula, rules}
use Rattle.aso_outline.proofs.ByName.{named_by_number}
use Rattle.aso_outline.proofs.ChildNumbers.{child_there, seat_there}
use Rattle.aso_outline.proofs.FoundNames.{number_within}
use Rattle.aso_outline.proofs.Rooted.{each_kept}
use Rattle.aso_outline.proofs.Smalls.{and_left, and_right}
use Rattle.aso_calc.specs.Values.{Own, operand_at}
use Rattle.aso_calc.proofs.RestLemmas.{Each, each_flat, each_mapped, each_more}
use Rattle.aso_calc.proofs.TargetLemmas.{plain_needs, ranks, seat_is, standing_plain, standing_there, stored_rank}

-- ---- lists

each_of : (P : ℕ → Type 0) (xs : List ℕ) → ((k : ℕ) → Contains xs k → P k) → Each P xs
each_of P [] all = tt
each_of P (x ∷ xs) all = (all x (0, omega arith, refl), each_of P xs (λ k c. all k (suc c.0, omega (arith, c.1), c.2)))

pub each_filter : {X : Type 0} (P : X → Type 0) (t : X → Bool) (xs : List X) → Each P xs → Each (λ x. (t x ≡ true) × P x) (filter t xs)
each_filter {X = X} P t [] all = tt
each_filter {X = X} P t (x ∷ xs) all = by_test (each_filter P t xs all.1) (t x) refl
  where
    by_test : Each (λ (y : X). (t y ≡ true) × P y) (filter t xs) → (b : Bool) → t x ≡ b → Each (λ (y : X). (t y ≡ true) × P y) (if b then x ∷ filter t xs else filter t xs)
    by_test rest true is = ((is, all.0), rest)
    by_test rest false is = rest

each_both : {X : Type 0} (P Q : X → Type 0) (xs : List X) → Each P xs → Each Q xs → Each (λ x. P x × Q x) xs
each_both P Q [] p q = tt
each_both P Q (x ∷ xs) p q = ((p.0, q.0), each_both P Q xs p.1 q.1)

pub each_passes : {X : Type 0} (t : X → Bool) (xs : List X) → list_all t xs ≡ true → Each (λ x. t x ≡ true) xs
each_passes t [] all = tt
each_passes t (x ∷ xs) all = (and_left (t x) _ all, each_passes t xs (and_right (t x) _ all))

last_each : (P : ℕ → Type 0) (xs : List ℕ) (start : Option ℕ) → IfSome start P → Each P xs → IfSome (last_or start xs) P
last_each P [] start first all = first
last_each P (x ∷ xs) start first all = last_each P xs (Some x) all.0 all.1

last_some : (xs : List ℕ) (x : ℕ) → (k : ℕ) × (last_or (Some x) xs ≡ Some k)
last_some [] x = (x, refl)
last_some (y ∷ xs) x = last_some xs y

last_there : (xs : List ℕ) → 0 < length xs → (k : ℕ) × (last_or None xs ≡ Some k)
last_there [] some = absurd (omega (arith, some))
last_there (x ∷ xs) some = last_some xs x

fold_least : (xs : List ℕ) (b : ℕ) → b ≤ fold max b xs
fold_least [] b = omega arith
fold_least (x ∷ xs) b = let rest : max b x ≤ fold max (max b x) xs = fold_least xs (max b x) in omega (arith, rest)

each_below : (xs : List ℕ) (b : ℕ) → Each (λ x. x < fold max b xs + 1) xs
each_below [] b = tt
each_below (x ∷ xs) b =
    let here : max b x ≤ fold max (max b x) xs = fold_least xs (max b x) in
    (omega (arith, here), each_below xs (max b x))

-- sums from a number on
abbrev total : ℕ → List ℕ → ℕ
total a xs = fold (λ (b x : ℕ). b + x) a xs

module _ (f : ℕ → ℕ) where
  abbrev AreMost : List ℕ → List ℕ → Type 0
  AreMost xs ys = (e : ℕ) → e < length ys → f (slice_index xs e) ≤ f (slice_index ys e)

  total_most : (xs ys : List ℕ) (a b : ℕ) → a ≤ b → length xs ≡ length ys → AreMost xs ys → total a (map f xs) ≤ total b (map f ys)
  total_most [] [] a b low long each = low
  total_most [] (y ∷ ys) a b low long each = absurd (omega (arith, long))
  total_most (x ∷ xs) [] a b low long each = absurd (omega (arith, long))
  total_most (x ∷ xs) (y ∷ ys) a b low long each =
      let here : f x ≤ f y = each 0 (omega arith) in
      total_most xs ys (a + f x) (b + f y) (omega (arith, low, here)) (omega (arith, long)) (λ e within. each (suc e) (omega (arith, within)))

  total_below : (xs ys : List ℕ) (a b : ℕ) → a < b → length xs ≡ length ys → AreMost xs ys → total a (map f xs) < total b (map f ys)
  total_below [] [] a b low long each = low
  total_below [] (y ∷ ys) a b low long each = absurd (omega (arith, long))
  total_below (x ∷ xs) [] a b low long each = absurd (omega (arith, long))
  total_below (x ∷ xs) (y ∷ ys) a b low long each =
      let here : f x ≤ f y = each 0 (omega arith) in
      total_below xs ys (a + f x) (b + f y) (omega (arith, low, here)) (omega (arith, long)) (λ e within. each (suc e) (omega (arith, within)))

  total_less : (xs ys : List ℕ) (a b : ℕ) → a ≤ b → length xs ≡ length ys → AreMost xs ys → (d : ℕ) → d < length ys → f (slice_index xs d) < f (slice_index ys d) → total a (map f xs) < total b (map f ys)
  total_less [] [] a b low long each d within less = absurd (omega (arith, within))
  total_less [] (y ∷ ys) a b low long each d within less = absurd (omega (arith, long))
  total_less (x ∷ xs) [] a b low long each d within less = absurd (omega (arith, long))
  total_less (x ∷ xs) (y ∷ ys) a b low long each zero within less =
      total_below xs ys (a + f x) (b + f y) (omega (arith, low, less)) (omega (arith, long)) (λ e inside. each (suc e) (omega (arith, inside)))
  total_less (x ∷ xs) (y ∷ ys) a b low long each (suc d) within less =
      let here : f x ≤ f y = each 0 (omega arith) in
      total_less xs ys (a + f x) (b + f y) (omega (arith, low, here)) (omega (arith, long)) (λ e inside. each (suc e) (omega (arith, inside))) d (omega (arith, within)) less

  -- one element less, and none more
  pub sum_less : (xs ys : List ℕ) → length xs ≡ length ys → AreMost xs ys → (d : ℕ) → d < length ys → f (slice_index xs d) < f (slice_index ys d) → sum (map f xs) < sum (map f ys)
  sum_less xs ys long each d within less = total_less xs ys 0 0 (omega arith) long each d within less

  total_grows : (xs : List ℕ) (a : ℕ) → a ≤ total a (map f xs)
  total_grows [] a = omega arith
  total_grows (x ∷ xs) a = let rest : a + f x ≤ total (a + f x) (map f xs) = total_grows xs (a + f x) in omega (arith, rest)

  total_at : (xs : List ℕ) (a d : ℕ) → d < length xs → a + f (slice_index xs d) ≤ total a (map f xs)
  total_at [] a d low = absurd (omega (arith, low))
  total_at (x ∷ xs) a zero low = total_grows xs (a + f x)
  total_at (x ∷ xs) a (suc d) low = let rest : a + f x + f (slice_index xs d) ≤ total (a + f x) (map f xs) = total_at xs (a + f x) d (omega (arith, low)) in omega (arith, rest)

  -- an element is at most the sum
  pub sum_at : (xs : List ℕ) (d : ℕ) → d < length xs → f (slice_index xs d) ≤ sum (map f xs)
  sum_at xs d low = let h : 0 + f (slice_index xs d) ≤ total 0 (map f xs) = total_at xs 0 d low in omega (arith, h)

-- ---- the members that an atom names

module _ (o : Draft) where
  -- by their numbers
  numbers : (names : List Name) → map (seat_of o) (filter_map (find o) names) ≡ members_named o names
  numbers [] = refl
  numbers (name ∷ names) = by_number (numbers names) (find o name) refl
    where
      by_number : map (seat_of o) (filter_map (find o) names) ≡ members_named o names → (n : Option ℕ) → find o name ≡ n → map (seat_of o) (cons_option n (filter_map (find o) names)) ≡ cons_option (named o name) (members_named o names)
      by_number rest None at = rest ∙ ap (λ (s : Option Seat). cons_option s (members_named o names)) (sym (named_by_number o name ∙ ap (option_and_then (λ (k : ℕ). slice_get (seats o) k)) at))
      by_number rest (Some n) at =
          ap (λ (xs : List Seat). seat_of o n ∷ xs) rest
          ∙ ap (λ (s : Option Seat). cons_option s (members_named o names)) (sym (named_by_number o name ∙ (ap (option_and_then (λ (k : ℕ). slice_get (seats o) k)) at ∙ seat_there o n (number_within o name n at))))

  all_there : (names : List Name) → Each (λ k. k < length (seats o)) (filter_map (find o) names)
  all_there [] = tt
  all_there (name ∷ names) = by_number (all_there names) (find o name) refl
    where
      by_number : Each (λ k. k < length (seats o)) (filter_map (find o) names) → (n : Option ℕ) → find o name ≡ n → Each (λ k. k < length (seats o)) (cons_option n (filter_map (find o) names))
      by_number rest None at = rest
      by_number rest (Some n) at = (number_within o name n at, rest)

  at_is : (test : Seat → Bool) (k : ℕ) → k < length (seats o) → at_number test o k ≡ test (seat_of o k)
  at_is test k low = ap (λ (x : Option Seat). unwrap_or (option_map test x) false) (seat_there o k low)

  same_count : (test : Seat → Bool) (ks : List ℕ) → Each (λ k. k < length (seats o)) ks → length (filter (at_number test o) ks) ≡ length (filter test (map (seat_of o) ks))
  same_count test [] all = refl
  same_count test (k ∷ ks) all =
      ap (λ (b : Bool). length (if b then k ∷ filter (at_number test o) ks else filter (at_number test o) ks)) (at_is test k all.0)
      ∙ by_test (test (seat_of o k)) (same_count test ks all.1)
    where
      by_test : (b : Bool) → length (filter (at_number test o) ks) ≡ length (filter test (map (seat_of o) ks))
          → length (if b then k ∷ filter (at_number test o) ks else filter (at_number test o) ks) ≡ length (if b then seat_of o k ∷ filter test (map (seat_of o) ks) else filter test (map (seat_of o) ks))
      by_test true same = omega (arith, same)
      by_test false same = same

  -- a member of a dimension that an atom names there
  abbrev pub IsNamedIn : ℕ → ℕ → ℕ → Type 0
  IsNamedIn d e k = (k < length (seats o)) × (at_number (is_of_dim e) o k ≡ true) × (is_operand o d (seat_of o k) ≡ true)

  module _ (d : ℕ) (names : Atom) (right : is_atom o d names ≡ true) where
    abbrev ks : List ℕ
    ks = filter_map (find o) names

    well : is_well_named o d (members_named o names) ≡ true
    unfolding is_atom
    well = and_right (all_named o names) _ right

    pub own_there : 0 < length (operands_in o d names)
    own_there =
        let one : count_in d (members_named o names) ≡ 1 = eqb-true _ _ (and_left (count_in d (members_named o names) == 1) _ well) in
        omega (arith, same_count (is_of_dim d) ks (all_there names), ap (λ (ss : List Seat). length (filter (is_of_dim d) ss)) (numbers names), one)

    are_operands : Each (λ k. is_operand o d (seat_of o k) ≡ true) ks
    are_operands =
        each_mapped (λ s. is_operand o d s ≡ true) (seat_of o) ks
        (subst (Each (λ s. is_operand o d s ≡ true)) (sym (numbers names))
        (each_passes (is_operand o d) (members_named o names) (and_right (are_of_different_dims o (members_named o names)) _ (and_right (count_in d (members_named o names) == 1) _ well))))

    pub named_in : (e : ℕ) → Each (IsNamedIn d e) (operands_in o e names)
    named_in e =
        each_more (λ k. (at_number (is_of_dim e) o k ≡ true) × ((k < length (seats o)) × (is_operand o d (seat_of o k) ≡ true))) (IsNamedIn d e) (λ k h. (h.1.0, h.0, h.1.1)) (operands_in o e names)
        (each_filter (λ k. (k < length (seats o)) × (is_operand o d (seat_of o k) ≡ true)) (at_number (is_of_dim e) o) ks (each_both (λ k. k < length (seats o)) (λ k. is_operand o d (seat_of o k) ≡ true) ks (all_there names) are_operands))

    -- the operand that stands for a dimension
    pub operand_named : (e k : ℕ) → operand_at o names e ≡ Some k → IsNamedIn d e k
    operand_named e k is = subst (λ (x : Option ℕ). IfSome x (IsNamedIn d e)) is (last_each (IsNamedIn d e) (operands_in o e names) None tt (named_in e))

    pub own_operand : (k : ℕ) × (operand_at o names d ≡ Some k)
    own_operand = last_there (operands_in o d names) own_there

    pub own_low : (most : ℕ) → Each (λ k. rank_of o k < most) (operands_in o d names) → (k : ℕ) → operand_at o names d ≡ Some k → rank_of o k < most
    own_low most low k is = subst (λ (x : Option ℕ). IfSome x (λ k. rank_of o k < most)) is (last_each (λ k. rank_of o k < most) (operands_in o d names) None tt low)

module _ (o : Draft) (kept : broken o ≡ None) where
  -- an operand of another dimension is stored
  pub other_rank : (d e k : ℕ) → (e ≡ d → ⊥) → IsNamedIn o d e k → rank_of o k ≡ 0
  other_rank d e k other h = by_seat (seat_of o k) (seat_there o k h.0) (sym (at_is o (is_of_dim e) k h.0) ∙ h.1) h.2
    where
      by_dims : (s : Seat) (f : ℕ) → slice_get (seats o) k ≡ Some s → eqb e f ≡ true → (eqb d f || not (is_computed o s)) ≡ true → rank_of o k ≡ 0
      by_dims s f at is operand = stored_rank o kept k s at (not_true (is_computed o s) (or_right (eqb d f) (not (is_computed o s)) (ne_eqb d f (λ (same : d ≡ f). other (eqb-true e f is ∙ sym same))) operand))
        where
          or_right : (a b : Bool) → a ≡ false → (a || b) ≡ true → b ≡ true
          or_right true b is h = absurd (true≢false is)
          or_right false b is h = h

          not_true : (b : Bool) → not b ≡ true → b ≡ false
          not_true true h = absurd (true≢false (sym h))
          not_true false h = refl

      by_seat : (s : Seat) → slice_get (seats o) k ≡ Some s → is_of_dim e s ≡ true → is_operand o d s ≡ true → rank_of o k ≡ 0
      by_seat (Whole f) at is operand = by_dims (Whole f) f at is operand
      by_seat (Inner f h i) at is operand = by_dims (Inner f h i) f at is operand
      by_seat (Carried a i) at is operand = absurd (true≢false (sym is))

  kept_formulas : least_formula o ≡ None
  unfolding broken
  kept_formulas = each_kept rules o kept 10 (11, least_formula) refl

  -- ---- what a computed member of the outline needs

  module _ (n d : ℕ) (s : Seat) (at : slice_get (seats o) n ≡ Some s) (dim : is_of_dim d s ≡ true) (computed : is_computed o s ≡ true) (plain : is_label o s ≡ false) where
    need_low : Each (λ k. rank_of o k < rank_of o n) (needs o n)
    need_low = each_of (λ k. rank_of o k < rank_of o n) (needs o n) (λ k there. (ranks o kept).falls n k (standing_there o n s at ∙ standing_plain o s computed plain) there)

    needs_are : needs o n ≡ plain_needs o n s
    needs_are =
        ap (λ (x : Option Seat). unwrap_or (option_map (λ s. if is_computed o s then needs_at o n s else []) x) []) at
        ∙ (ap (λ (b : Bool). if b then needs_at o n s else []) computed
        ∙ ap (λ (b : Bool). if b then number_in n s (place_of (resolve o s)) ∷ [] else plain_needs o n s) plain)

    dim_is : dim_of s ≡ d
    dim_is = by_seat s dim
      where
        by_seat : (x : Seat) → is_of_dim d x ≡ true → dim_of x ≡ d
        by_seat (Whole e) is = sym (eqb-true d e is)
        by_seat (Inner e h i) is = sym (eqb-true d e is)
        by_seat (Carried a i) is = absurd (true≢false (sym is))

    pub children_low : formula_of o s ≡ None → Each (λ k. rank_of o k < rank_of o n) (children o n s)
    children_low none =
        subst (Each (λ k. rank_of o k < rank_of o n))
        (needs_are ∙ ap (λ (x : Option Expr). if is_some x then own_operands o (dim_of s) (atoms_at o s) else children o n s) none) need_low

    module _ (e : Expr) (formula : formula_of o s ≡ Some e) where
      pub operands_low : Each (λ names. Each (λ k. rank_of o k < rank_of o n) (operands_in o d names)) (atoms e)
      operands_low =
          each_flat (λ k. rank_of o k < rank_of o n) (operands_in o d) (atoms e)
          (subst (Each (λ k. rank_of o k < rank_of o n))
          (needs_are ∙ (ap (λ (x : Option Expr). if is_some x then own_operands o (dim_of s) (unwrap_or (option_map atoms x) []) else children o n s) formula
          ∙ ap (λ (f : ℕ). own_operands o f (atoms e)) dim_is)) need_low)

      pub atoms_right : Each (λ names. is_atom o d names ≡ true) (atoms e)
      atoms_right =
          each_passes (is_atom o d) (atoms e)
          (not_false (list_all (is_atom o d) (atoms e))
          (ap (λ (f : ℕ). not (list_all (is_atom o f) (atoms e))) (sym dim_is)
          ∙ (ap (λ (x : Option Expr). not (list_all (is_atom o (dim_of s)) (unwrap_or (option_map atoms x) []))) (sym formula)
          ∙ (ap (λ (x : Option Seat). unwrap_or (option_map (has_wrong_atom o) x) false) (sym at) ∙ wrong_none))))
        where
          not_false : (b : Bool) → not b ≡ false → b ≡ true
          not_false true h = refl
          not_false false h = absurd (true≢false h)

          or_left : (a b : Bool) → (a || b) ≡ false → a ≡ false
          or_left true b h = h
          or_left false b h = refl

          wrong_none : at_number (has_wrong_atom o) o n ≡ false
          wrong_none =
              or_left (at_number (has_wrong_atom o) o n) (breaks_rank o n)
              (none_of_range (breaks_formulas o) (length (seats o)) 0 n (sym (some_if_any (breaks_formulas o) (places_of (seats o))) ∙ ap is_some kept_formulas) (omega arith) (omega (arith, slice_get_within (seats o) n s at)))

-- a query's own member
pub own_low_operands : (o : Draft) (d : ℕ) (all : List Atom) → Each (λ names. Each (λ k. rank_of o k < own_rank o d all) (operands_in o d names)) all
own_low_operands o d all =
    each_flat (λ k. rank_of o k < own_rank o d all) (operands_in o d) all
    (each_mapped (λ r. r < own_rank o d all) (rank_of o) (own_operands o d all) (each_below (map (rank_of o) (own_operands o d all)) 0))
