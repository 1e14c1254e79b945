-- A data leaf's name stands once in its first hierarchy, and at most once in another stored one.
use Rattle.std.specs.Prelude.{is_some, slice_get, unwrap_or, if◌then◌else◌}
use Rattle.std.specs.Option.{option_map, option_and_then}
use Rattle.std.specs.List.{list_any, position}
use Rattle.std.proofs.Common.{◌≡◌, ◌∙◌, ℕ, zero, suc, ◌+◌, ◌<◌, ◌≤◌, ◌&&◌, ◌||◌, ◌⊎◌, ⊎_elim, Bool, true, false, not, eqb, List, [], ◌∷◌, take, get_or, length, Option, Some, None, refl, sym, ap, arith, true≢false, eq-eqb}
use Rattle.std.proofs.lemmas.Option.{get_or_from_slice_get, none-some, same_Some, slice_get-map, slice_get_within}
use Rattle.aso_tree.specs.Trees.{places_of}
use Rattle.aso_tree.proofs.Ends.{either}
use Rattle.aso_tree.proofs.Firsts.{first_is}
use Rattle.aso_tree.proofs.Positions.{none_of_range, some_if_any}
use Rattle.aso_outline.specs.declared.draft.Draft.{Draft}
use Rattle.aso_outline.specs.declared.draft.DraftMember.{DraftMember}
use Rattle.aso_outline.specs.declared.seat.Seat.{Seat}
use Rattle.aso_outline.specs.declared.seat.Seat.TheVariants.{Inner}
use Rattle.aso_outline.specs.Leaves.{name_in}
use Rattle.aso_outline.specs.Members.{Name, dim_at, has, is_childless, is_dynamic, own_name, same_name, seats, tree}
use Rattle.aso_outline.specs.Rules.{breaks_sharing, is_alternate, is_bare, is_leaf_name, is_shared, is_shared_before, is_well_shared, name_at, own_names, repeats, same_own, shares}
use Rattle.aso_outline.specs.Tables.{before_hier}
use Rattle.aso_outline.proofs.AtSeats.{none_at}
use Rattle.aso_outline.proofs.LeafNames.{some_at}
use Rattle.aso_outline.proofs.NumberLemmas.{number_inner}
use Rattle.aso_outline.proofs.Smalls.{and_left, and_right}

pub same_self : (name : List ℕ) → same_name name name ≡ true
same_self [] = refl
same_self (x ∷ xs) = let here : eqb x x ≡ true = eq-eqb x x refl in let rest : same_name xs xs ≡ true = same_self xs in rw here rest

or_true : (a b : Bool) → b ≡ true → (a || b) ≡ true
or_true true b h = refl
or_true false b h = h

-- one that passes stands among the first
any_taken : {X : Type 0} (p : X → Bool) (xs : List X) (n k : ℕ) (x : X) → n < k → slice_get xs n ≡ Some x → p x ≡ true → list_any p (take k xs) ≡ true
any_taken p [] n k x low is pass = absurd (none-some x is)
any_taken p (y ∷ xs) n zero x low is pass = absurd (omega (arith, low))
any_taken p (y ∷ xs) zero (suc k) x low is pass = ap (λ (b : Bool). b || list_any p (take k xs)) (ap p (same_Some y x is) ∙ pass)
any_taken p (y ∷ xs) (suc n) (suc k) x low is pass = or_true (p y) _ (any_taken p xs n k x (omega (arith, low)) is pass)

le_or_lt : (a b : ℕ) → (a ≤ b) ⊎ (b < a)
le_or_lt a b = grind arith

and_true : (b : Bool) → (b && true) ≡ false → b ≡ false
and_true true h = h
and_true false h = refl

not_both : (a b : Bool) → a ≡ true → (a && not b) ≡ false → b ≡ true
not_both true true e h = refl
not_both true false e h = sym h
not_both false b e h = absurd (true≢false (sym e))

or_second : (a b : Bool) → a ≡ false → (a || not b) ≡ true → b ≡ false
or_second true b e h = absurd (true≢false e)
or_second false true e h = absurd (true≢false (sym h))
or_second false false e h = refl

-- of a member of a tree what its place says
pub test_there : (t : DraftMember → Bool) (ms : List DraftMember) (i : ℕ) (m : DraftMember) → slice_get ms i ≡ Some m → unwrap_or (option_map t (slice_get ms i)) false ≡ t m
test_there t ms i m is = ap (λ (x : Option DraftMember). unwrap_or (option_map t x) false) is

pub name_there : (ms : List DraftMember) (i : ℕ) (m : DraftMember) → slice_get ms i ≡ Some m → name_in ms i ≡ m.name
name_there ms i m is = ap (λ (x : Option DraftMember). unwrap_or (option_map (λ (y : DraftMember). y.name) x) []) is

module _ (o : Draft) (sharing : position (breaks_sharing o) (seats o) ≡ None) where
  -- none is shared in a first hierarchy
  first_is_own : (d i : ℕ) (m : DraftMember) → slice_get (tree (dim_at o d) 0) i ≡ Some m → m.shared ≡ false
  first_is_own d i m is =
      sym (test_there (λ (x : DraftMember). x.shared) (tree (dim_at o d) 0) i m is)
      ∙ and_true (is_shared o (Inner d 0 i)) (none_at o (breaks_sharing o) sharing (Inner d 0 i) (slice_get_within (tree (dim_at o d) 0) i m is))

  pub well_shared : (d h i : ℕ) (m : DraftMember) → slice_get (tree (dim_at o d) h) i ≡ Some m → m.shared ≡ true → is_well_shared o (Inner d h i) ≡ true
  well_shared d h i m is shared =
      not_both (is_shared o (Inner d h i)) (is_well_shared o (Inner d h i)) (test_there (λ (x : DraftMember). x.shared) (tree (dim_at o d) h) i m is ∙ shared)
      (none_at o (breaks_sharing o) sharing (Inner d h i) (slice_get_within (tree (dim_at o d) h) i m is))

  -- a shared member has no child
  pub shared_is_leaf : (d h i : ℕ) (m : DraftMember) → slice_get (tree (dim_at o d) h) i ≡ Some m → m.shared ≡ true → is_childless o (Inner d h i) ≡ true
  shared_is_leaf d h i m is shared =
      and_left (is_childless o (Inner d h i)) _ (and_right (is_alternate (Inner d h i)) _ (well_shared d h i m is shared))

  -- in a stored hierarchy none before it shares the same
  shared_first : (d h i : ℕ) (m : DraftMember) → slice_get (tree (dim_at o d) h) i ≡ Some m → m.shared ≡ true → is_dynamic o (Inner d h i) ≡ false → is_shared_before o (Inner d h i) ≡ false
  shared_first d h i m is shared stored =
      let leaf = and_right (is_alternate (Inner d h i)) _ (well_shared d h i m is shared) in
      let name = and_right (is_childless o (Inner d h i)) _ leaf in
      let bare = and_right (is_leaf_name o d (name_at o (Inner d h i))) _ name in
      or_second (is_dynamic o (Inner d h i)) (is_shared_before o (Inner d h i)) stored (and_right (has is_bare o (Inner d h i)) _ bare)

module _ (o : Draft) (names : position (repeats (own_names o)) (places_of (seats o)) ≡ None) where
  no_repeat : (k : ℕ) → k < length (seats o) → repeats (own_names o) k ≡ false
  no_repeat k low = none_of_range (repeats (own_names o)) (length (seats o)) 0 k (sym (some_if_any (repeats (own_names o)) (places_of (seats o))) ∙ ap is_some names) (omega arith) (omega (arith, low))

  own_there : (n : ℕ) (s : Seat) (name : Name) → slice_get (seats o) n ≡ Some s → own_name o s ≡ Some name → slice_get (own_names o) n ≡ Some (Some name)
  own_there n s name is own = slice_get-map (own_name o) (seats o) n ∙ (ap (option_map (own_name o)) is ∙ ap (λ (x : Option Name). Some x) own)

  -- a later member has another name of its own
  differ : (n k : ℕ) (s t : Seat) (name : Name) → n < k → slice_get (seats o) n ≡ Some s → slice_get (seats o) k ≡ Some t → own_name o s ≡ Some name → own_name o t ≡ Some name → ⊥
  differ n k s t name low is at own other =
      let here : list_any (same_own (Some name)) (take k (own_names o)) ≡ true = any_taken (same_own (Some name)) (own_names o) n k (Some name) low (own_there n s name is own) (same_self name) in
      let there : unwrap_or (slice_get (own_names o) k) None ≡ Some name = ap (λ (x : Option (Option Name)). unwrap_or x None) (own_there k t name at other) in
      true≢false (sym here ∙ (ap (λ (x : Option Name). list_any (same_own x) (take k (own_names o))) (sym there) ∙ no_repeat k (slice_get_within (seats o) k t at)))

  -- a member that isn't shared has its own name
  own_of : (d h i : ℕ) (m : DraftMember) → slice_get (tree (dim_at o d) h) i ≡ Some m → m.shared ≡ false → own_name o (Inner d h i) ≡ Some m.name
  own_of d h i m is own = ap (λ (x : Option DraftMember). option_and_then (λ (y : DraftMember). if y.shared then None else Some y.name) x) is ∙ ap (λ (b : Bool). if b then None else Some m.name) own

  module _ (sharing : position (breaks_sharing o) (seats o) ≡ None) where
    module _ (d p : ℕ) (name : Name) (low : d < length o.dims) (own : DraftMember) (leaf : slice_get (tree (dim_at o d) 0) p ≡ Some own) (named : own.name ≡ name) (hier : 0 < length (dim_at o d).hiers) where
      leaf_number : slice_get (seats o) (before_hier o d 0 + p) ≡ Some (Inner d 0 p)
      leaf_number = number_inner o d 0 p (before_hier o d 0 + p) low hier (slice_get_within (tree (dim_at o d) 0) p own leaf) refl

      leaf_own : own_name o (Inner d 0 p) ≡ Some name
      leaf_own = own_of d 0 p own leaf (first_is_own o sharing d p own leaf) ∙ ap (λ (x : Name). Some x) named

      -- in the first hierarchy only the leaf itself has its name
      pub only_own : (j : ℕ) (m : DraftMember) → slice_get (tree (dim_at o d) 0) j ≡ Some m → m.name ≡ name → j ≡ p
      only_own j m is same =
          let number : slice_get (seats o) (before_hier o d 0 + j) ≡ Some (Inner d 0 j) = number_inner o d 0 j (before_hier o d 0 + j) low hier (slice_get_within (tree (dim_at o d) 0) j m is) refl in
          let other : own_name o (Inner d 0 j) ≡ Some name = own_of d 0 j m is (first_is_own o sharing d j m is) ∙ ap (λ (x : Name). Some x) same in
          ⊎_elim
          (λ (le : j ≤ p). ⊎_elim
          (λ (ge : p ≤ j). omega (arith, le, ge))
          (λ (lt : j < p). absurd (differ (before_hier o d 0 + j) (before_hier o d 0 + p) (Inner d 0 j) (Inner d 0 p) name (omega (arith, lt)) number leaf_number other leaf_own))
          (le_or_lt p j))
          (λ (gt : p < j). absurd (differ (before_hier o d 0 + p) (before_hier o d 0 + j) (Inner d 0 p) (Inner d 0 j) name (omega (arith, gt)) leaf_number number leaf_own other))
          (le_or_lt j p)

      not_own : (h j : ℕ) (m : DraftMember) → suc h < length (dim_at o d).hiers → slice_get (tree (dim_at o d) (suc h)) j ≡ Some m → m.name ≡ name → m.shared ≡ false → ⊥
      not_own h j m there is same unshared =
          let number : slice_get (seats o) (before_hier o d (suc h) + j) ≡ Some (Inner d (suc h) j) = number_inner o d (suc h) j (before_hier o d (suc h) + j) low there (slice_get_within (tree (dim_at o d) (suc h)) j m is) refl in
          let other : own_name o (Inner d (suc h) j) ≡ Some name = own_of d (suc h) j m is unshared ∙ ap (λ (x : Name). Some x) same in
          ⊎_elim
          (λ (le : before_hier o d 0 + p ≤ before_hier o d (suc h) + j). ⊎_elim
          (λ (ge : before_hier o d (suc h) + j ≤ before_hier o d 0 + p).
          let at : before_hier o d 0 + p ≡ before_hier o d (suc h) + j = omega (arith, le, ge) in
          let equal : Some (Inner d 0 p) ≡ Some (Inner d (suc h) j) = sym leaf_number ∙ (ap (slice_get (seats o)) at ∙ number) in
          other_hier p j h equal)
          (λ (lt : before_hier o d 0 + p < before_hier o d (suc h) + j). differ (before_hier o d 0 + p) (before_hier o d (suc h) + j) (Inner d 0 p) (Inner d (suc h) j) name lt leaf_number number leaf_own other)
          (le_or_lt (before_hier o d (suc h) + j) (before_hier o d 0 + p)))
          (λ (gt : before_hier o d (suc h) + j < before_hier o d 0 + p). differ (before_hier o d (suc h) + j) (before_hier o d 0 + p) (Inner d (suc h) j) (Inner d 0 p) name gt number leaf_number other leaf_own)
          (le_or_lt (before_hier o d 0 + p) (before_hier o d (suc h) + j))
        where
          other_hier : (a b k : ℕ) → Some (Inner d 0 a) ≡ Some (Inner d (suc k) b) → ⊥
          other_hier a b k e = cc

      -- in another stored hierarchy only the first that shares it
      pub only_sharer : (h j : ℕ) (m : DraftMember) → suc h < length (dim_at o d).hiers → is_dynamic o (Inner d (suc h) j) ≡ false → slice_get (tree (dim_at o d) (suc h)) j ≡ Some m → m.name ≡ name → position (shares name) (tree (dim_at o d) (suc h)) ≡ Some j
      only_sharer h j m there stored is same =
          let t : List DraftMember = tree (dim_at o d) (suc h) in
          let within : j < length t = slice_get_within t j m is in
          let shared : m.shared ≡ true = ⊎_elim (λ (pass : m.shared ≡ true). pass) (λ (fail : m.shared ≡ false). absurd (not_own h j m there is same fail)) (either m.shared) in
          let pass : shares name m ≡ true = rw (shared, same) (same_self name) in
          let none : is_shared_before o (Inner d (suc h) j) ≡ false = shared_first o sharing d (suc h) j m is shared stored in
          let here : name_at o (Inner d (suc h) j) ≡ name = name_there t j m is ∙ same in
          first_is (shares name) t j m within
          (λ k less.
          let x = some_at t k (omega (arith, less, within)) in
          let at : get_or t k m ≡ x.0 = get_or_from_slice_get t k x.0 m x.1 in
          ⊎_elim
          (λ (pass : shares name (get_or t k m) ≡ true).
          absurd (true≢false (sym (any_taken (shares name) t k j x.0 less x.1 (ap (shares name) (sym at) ∙ pass)) ∙ (ap (λ (q : Name). list_any (shares q) (take j t)) (sym here) ∙ none))))
          (λ (fail : shares name (get_or t k m) ≡ false). fail)
          (either (shares name (get_or t k m))))
          (ap (shares name) (get_or_from_slice_get t j m m is) ∙ pass)
