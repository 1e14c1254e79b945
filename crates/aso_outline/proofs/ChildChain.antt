-- The children of a node, one after the other.
use Rattle.std.specs.Prelude.{nat_lt, if◌then◌else◌, slice_index}
use Rattle.std.specs.Option.{option_map}
use Rattle.std.specs.List.{filter, position, range_with_len}
use Rattle.std.proofs.Common.{◌≡◌, ◌∙◌, ℕ, zero, suc, ◌+◌, ◌-◌, ◌<◌, ◌≤◌, Bool, true, false, ◌&&◌, eqb, List, [], ◌∷◌, ◌++◌, get_or, length, map, Option, Some, None, refl, sym, ap, subst, arith, append-nil, append_assoc, eq-eqb, true≢false}
use Rattle.std.proofs.lemmas.Bool.{eqb-true, lt-ltb, ltb-true}
use Rattle.std.proofs.lemmas.Option.{none-some, same_Some}
use Rattle.std.proofs.lemmas.List.{map-append}
use Rattle.std.proofs.lemmas.List.Elements.{filter-append}
use Rattle.std.proofs.lemmas.List.FromFn.{get_or-range_with_len, length-range_with_len}
use Rattle.aso_tree.specs.Trees.{first_child, next_child, places_of}
use Rattle.aso_tree.proofs.Classes.{range_split}
use Rattle.aso_tree.proofs.Paths.{filter_range_push}
use Rattle.aso_tree.proofs.Positions.{position_cons}
use Rattle.aso_tree.proofs.Preorder.{filter_none}
use Rattle.aso_outline.proofs.Nexts.{position_within}

module _ {X : Type 0} (p : X → Bool) (d : X) where
  abbrev pub Found : List X → ℕ → Type 0
  Found xs e = ((k : ℕ) → k < e → p (get_or xs k d) ≡ false) × (p (get_or xs e d) ≡ true)

  abbrev pub Lacks : List X → Type 0
  Lacks xs = (k : ℕ) → k < length xs → p (get_or xs k d) ≡ false

  found_later : (x : X) (xs : List X) (j : ℕ) → p x ≡ false → Found xs j → Found (x ∷ xs) (suc j)
  found_later x xs j at h = (before, h.1)
    where
      before : (k : ℕ) → k < suc j → p (get_or (x ∷ xs) k d) ≡ false
      before zero low = at
      before (suc k) low = h.0 k (omega (arith, low))

  found_by : (x : X) (xs : List X) → ((j : ℕ) → position p xs ≡ Some j → Found xs j) → (b : Bool) → p x ≡ b → (o : Option ℕ) → position p xs ≡ o → (e : ℕ) → (if b then Some 0 else option_map (λ (k : ℕ). suc k) o) ≡ Some e → Found (x ∷ xs) e
  found_by x xs rest true at o is e found = subst (λ (i : ℕ). Found (x ∷ xs) i) (same_Some 0 e found) ((λ k low. absurd (omega (arith, low))), at)
  found_by x xs rest false at None is e found = absurd (none-some e found)
  found_by x xs rest false at (Some j) is e found = subst (λ (i : ℕ). Found (x ∷ xs) i) (same_Some (suc j) e found) (found_later x xs j at (rest j is))

  -- what is found passes, and nothing before it does
  pub found_at : (xs : List X) (e : ℕ) → position p xs ≡ Some e → Found xs e
  found_at [] e is = absurd (none-some e is)
  found_at (x ∷ xs) e is = found_by x xs (found_at xs) (p x) refl (position p xs) refl e (sym (position_cons p x xs) ∙ is)

  lacks_by : (x : X) (xs : List X) → (position p xs ≡ None → Lacks xs) → (b : Bool) → p x ≡ b → (o : Option ℕ) → position p xs ≡ o → (if b then Some 0 else option_map (λ (k : ℕ). suc k) o) ≡ None → Lacks (x ∷ xs)
  lacks_by x xs rest true at o is none = absurd (none-some 0 (sym none))
  lacks_by x xs rest false at (Some j) is none = absurd (none-some (suc j) (sym none))
  lacks_by x xs rest false at None is none = each
    where
      each : (k : ℕ) → k < suc (length xs) → p (get_or (x ∷ xs) k d) ≡ false
      each zero low = at
      each (suc k) low = rest is k (omega (arith, low))

  pub lacks : (xs : List X) → position p xs ≡ None → Lacks xs
  lacks [] is = λ k low. absurd (omega (arith, low))
  lacks (x ∷ xs) is = lacks_by x xs (lacks xs) (p x) refl (position p xs) refl (sym (position_cons p x xs) ∙ is)

and_front : (a b : Bool) → (a && b) ≡ true → a ≡ true
and_front true b is = refl
and_front false b is = is

and_behind : (a b : Bool) → (a && b) ≡ true → b ≡ true
and_behind true b is = is
and_behind false b is = absurd (true≢false (sym is))

not_behind : (a b : Bool) → a ≡ true → (a && b) ≡ false → b ≡ false
not_behind true b at is = is
not_behind false b at is = absurd (true≢false (sym at))

module _ (parents : List ℕ) (node first : ℕ) where
  abbrev is_child : ℕ → Bool
  is_child j = eqb (slice_index parents j) node

  abbrev numbers_to : ℕ → List ℕ
  numbers_to n = map (λ j. first + j) (filter is_child (range_with_len 0 n))

  -- all children before the one at hand were added, or all
  abbrev pub Walks : List ℕ → List ℕ → Option ℕ → Type 0
  Walks before numbers (Some c) = (c < length parents) × (slice_index parents c ≡ node) × (numbers ≡ before ++ numbers_to c)
  Walks before numbers None = numbers ≡ before ++ numbers_to (length parents)

  -- how far it is to the end
  abbrev pub left : Option ℕ → ℕ
  left (Some c) = length parents - c
  left None = 0

  gap : (a b : ℕ) → a ≤ b → ((k : ℕ) → a ≤ k → k < b → is_child k ≡ false) → filter is_child (range_with_len 0 b) ≡ filter is_child (range_with_len 0 a)
  gap a b low none =
      ap (λ (n : ℕ). filter is_child (range_with_len 0 n)) (omega (arith, low))
      ∙ (ap (filter is_child) (range_split a (b - a) 0 a (omega arith))
      ∙ (filter-append is_child (range_with_len 0 a) (range_with_len a (b - a))
      ∙ (ap (λ (xs : List ℕ). filter is_child (range_with_len 0 a) ++ xs) (filter_none is_child (b - a) a (λ k lo hi. none k lo (omega (arith, hi, low))))
      ∙ append-nil (filter is_child (range_with_len 0 a)))))

  none_up_to : (n : ℕ) → ((k : ℕ) → k < n → is_child k ≡ false) → numbers_to n ≡ []
  none_up_to n none = ap (map (λ j. first + j)) (filter_none is_child n 0 (λ k lo hi. none k (omega (arith, hi))))

  pub starts : (before : List ℕ) (o : Option ℕ) → o ≡ first_child parents node → Walks before before o
  starts before None is = sym (ap (λ (xs : List ℕ). before ++ xs) (none_up_to (length parents) (lacks (λ p. eqb p node) 0 parents (sym is))) ∙ append-nil before)
  starts before (Some c) is =
      let h = found_at (λ p. eqb p node) 0 parents c (sym is) in (
        position_within (λ p. eqb p node) parents c is,
        eqb-true _ _ h.1,
        sym (ap (λ (xs : List ℕ). before ++ xs) (none_up_to c h.0) ∙ append-nil before),
      )

  module _ (c : ℕ) (low : c < length parents) (child : slice_index parents c ≡ node) where
    abbrev comes_next : ℕ → Bool
    comes_next j = nat_lt c j && eqb (slice_index parents j) (slice_index parents c)

    at_place : (k : ℕ) → k < length parents → get_or (places_of parents) k 0 ≡ k
    at_place k within = get_or-range_with_len 0 (length parents) k 0 within ∙ omega arith

    no_child : (k : ℕ) → c < k → k < length parents → comes_next (get_or (places_of parents) k 0) ≡ false → is_child k ≡ false
    no_child k after within none =
        sym (ap (λ (n : ℕ). eqb (slice_index parents k) n) child)
        ∙ not_behind (nat_lt c k) (eqb (slice_index parents k) (slice_index parents c)) (lt-ltb c k after) (sym (ap comes_next (at_place k within)) ∙ none)

    with_child : numbers_to (c + 1) ≡ numbers_to c ++ (first + c) ∷ []
    with_child =
        ap (map (λ j. first + j)) (filter_range_push is_child c ∙ ap (λ (xs : List ℕ). filter is_child (range_with_len 0 c) ++ xs) (here (is_child c) (eq-eqb _ _ child)))
        ∙ map-append (λ j. first + j) (filter is_child (range_with_len 0 c)) (c ∷ [])
      where
        here : (b : Bool) → b ≡ true → (if b then c ∷ [] else []) ≡ c ∷ []
        here true is = refl
        here false is = absurd (true≢false (sym is))

    up_to : (before numbers new : List ℕ) (n : ℕ) → c < n → n ≤ length parents → ((k : ℕ) → c < k → k < n → is_child k ≡ false) → numbers ≡ before ++ numbers_to c → new ≡ numbers ++ (first + c) ∷ [] → new ≡ before ++ numbers_to n
    up_to before numbers new n after within none so_far is =
        is ∙ (ap (λ (xs : List ℕ). xs ++ (first + c) ∷ []) so_far
        ∙ (append_assoc before (numbers_to c) ((first + c) ∷ [])
        ∙ ap (λ (xs : List ℕ). before ++ xs) (sym with_child ∙ ap (map (λ j. first + j)) (sym (gap (c + 1) n (omega (arith, after)) (λ k lo hi. none k (omega (arith, lo)) hi))))))

    pub goes_on : (before numbers new : List ℕ) → numbers ≡ before ++ numbers_to c → new ≡ numbers ++ (first + c) ∷ [] → (o : Option ℕ) → o ≡ next_child parents c → Walks before new o × (left o < length parents - c)
    goes_on before numbers new so_far is None at = (
      up_to before numbers new (length parents) low (omega arith) (λ k lo hi. no_child k lo hi (lacks comes_next 0 (places_of parents) (sym at) k (omega (arith, hi, length-range_with_len 0 (length parents))))) so_far is,
      omega (arith, low),
    )
    goes_on before numbers new so_far is (Some e) at =
        let h = found_at comes_next 0 (places_of parents) e (sym at) in
        let within : e < length parents = omega (arith, position_within comes_next (places_of parents) e at, length-range_with_len 0 (length parents)) in
        let there : comes_next e ≡ true = sym (ap comes_next (at_place e within)) ∙ h.1 in
        let after : c < e = ltb-true c e (and_front (nat_lt c e) (eqb (slice_index parents e) (slice_index parents c)) there) in (
          (
            within,
            eqb-true _ _ (and_behind (nat_lt c e) (eqb (slice_index parents e) (slice_index parents c)) there) ∙ child,
            up_to before numbers new e after (omega (arith, within)) (λ k lo hi. no_child k lo (omega (arith, hi, within)) (h.0 k hi)) so_far is,
          ),
          omega (arith, after, within),
        )

  -- one child more
  pub one_more : (before numbers new : List ℕ) (o : Option ℕ) (child : ℕ) → o ≡ Some child → Walks before numbers o → new ≡ numbers ++ (first + child) ∷ [] → (next : Option ℕ) → next ≡ next_child parents child → Walks before new next × (left next < left o)
  one_more before numbers new o child is walks more next at =
      let here = subst (Walks before numbers) is walks in
      let on = goes_on child here.0 here.1 before numbers new here.2 more next at in
      (on.0, subst (λ (z : Option ℕ). left next < left z) (sym is) on.1)
