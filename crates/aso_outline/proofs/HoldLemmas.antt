-- What a member holds, by the places of data leaves.
use Rattle.std.specs.Prelude.{slice_get, slice_index, unwrap_or}
use Rattle.std.specs.Option.{option_map, option_and_then}
use Rattle.std.specs.List.{filter, filter_map, list_any, position, range_with_len}
use Rattle.std.proofs.Common.{◌≡◌, ◌∙◌, ℕ, zero, suc, ◌+◌, ◌-◌, ◌<◌, ◌≤◌, ◌&&◌, ◌||◌, ◌⊎◌, ⊎_elim, inl, inr, Bool, true, false, cond, List, [], ◌∷◌, get_or, length, Option, Some, None, refl, sym, ap, arith, add-one, true≢false}
use Rattle.std.proofs.lemmas.Bool.{eqb-true}
use Rattle.std.proofs.lemmas.List.Folds.{list_any-append}
use Rattle.std.proofs.lemmas.List.Quantifiers.{position-Some}
use Rattle.std.proofs.lemmas.Option.{get_or_from_slice_get, same_Some, slice_get-get_or, slice_get_past}
use Rattle.aso_tree.specs.Trees.{is_leaf, is_under, places_of, under, IsTree}
use Rattle.aso_tree.proofs.Ends.{ends, leaf_of_span, span_of}
use Rattle.aso_outline.specs.declared.draft.Draft.{Draft}
use Rattle.aso_outline.specs.declared.draft.DraftMember.{DraftMember}
use Rattle.aso_outline.specs.declared.seat.Seat.{Seat}
use Rattle.aso_outline.specs.declared.seat.Seat.TheVariants.{Whole, Inner, Carried}
use Rattle.aso_outline.specs.Classes.{holds_place, leaf_count, leaf_place}
use Rattle.aso_outline.specs.Leaves.{is_data_place, name_in}
use Rattle.aso_outline.specs.Members.{Name, data_leaves, dim_at, dim_of, has_under, holds, holds_name, is_dynamic, leaf_names, names_at, parents_of, resolve, same_name, seats, tree}
use Rattle.aso_outline.specs.Parents.{one_parent_each}
use Rattle.aso_outline.specs.Rules.{breaks_sharing, own_names, repeats, shares}
use Rattle.aso_outline.proofs.Known.{same_is}
use Rattle.aso_outline.proofs.LeafNames.{name_at, names_long, names_more, some_at, there_all}
use Rattle.aso_outline.proofs.Smalls.{and_left, and_right}
use Rattle.aso_outline.proofs.TableLemmas.{passes_within}
use Rattle.aso_outline.proofs.Unique.{name_there, only_own, only_sharer, same_self}

-- ---- a name at or below a place

pub any_more : (ms : List DraftMember) (p : ℕ → Bool) (q : Name) (n : ℕ) → n < length ms
    → list_any (same_name q) (names_at ms (filter p (range_with_len 0 (n + 1)))) ≡ (list_any (same_name q) (names_at ms (filter p (range_with_len 0 n))) || (p n && same_name q (name_in ms n)))
any_more ms p q n low =
    ap (list_any (same_name q)) (names_more ms p n low) ∙ list_any-append (same_name q) (names_at ms (filter p (range_with_len 0 n))) (cond (p n) (name_in ms n ∷ []) [])
    ∙ ap (λ (b : Bool). list_any (same_name q) (names_at ms (filter p (range_with_len 0 n))) || b) (one (p n))
  where
    or_false : (b : Bool) → (b || false) ≡ b
    or_false true = refl
    or_false false = refl

    one : (b : Bool) → list_any (same_name q) (cond b (name_in ms n ∷ []) []) ≡ (b && same_name q (name_in ms n))
    one true = or_false (same_name q (name_in ms n))
    one false = refl

or_cases : (a b : Bool) → (a || b) ≡ true → (a ≡ true) ⊎ (b ≡ true)
or_cases true b h = inl refl
or_cases false b h = inr h

or_left : (a b : Bool) → a ≡ true → (a || b) ≡ true
or_left true b h = refl
or_left false b h = absurd (true≢false (sym h))

or_right : (a b : Bool) → b ≡ true → (a || b) ≡ true
or_right true b h = refl
or_right false b h = h

and_both : (a b : Bool) → a ≡ true → b ≡ true → (a && b) ≡ true
and_both true b h g = g
and_both false b h g = h

before_or_at : (j n : ℕ) → j < suc n → (j < n) ⊎ (j ≡ n)
before_or_at j n low = grind arith

module _ (ms : List DraftMember) (p : ℕ → Bool) (q : Name) where
  abbrev any_to : ℕ → Bool
  any_to n = list_any (same_name q) (names_at ms (filter p (range_with_len 0 n)))

  one_further : (n : ℕ) → n < length ms → any_to (suc n) ≡ (any_to n || (p n && same_name q (name_in ms n)))
  one_further n low = ap any_to (sym (add-one n)) ∙ any_more ms p q n low

  any_below : (n : ℕ) → n ≤ length ms → any_to n ≡ true → (j : ℕ) × (j < n) × (p j ≡ true) × (same_name q (name_in ms j) ≡ true)
  any_below zero le h = absurd (true≢false (sym h))
  any_below (suc n) le h =
      ⊎_elim
      (λ (before : any_to n ≡ true). let r = any_below n (omega (arith, le)) before in (r.0, omega (arith, r.1), r.2, r.3))
      (λ (here : (p n && same_name q (name_in ms n)) ≡ true). (n, omega arith, and_left (p n) _ here, and_right (p n) _ here))
      (or_cases (any_to n) _ (sym (one_further n (omega (arith, le))) ∙ h))

  pub any_there : (n j : ℕ) → n ≤ length ms → j < n → p j ≡ true → same_name q (name_in ms j) ≡ true → any_to n ≡ true
  any_there zero j le low pass same = absurd (omega (arith, low))
  any_there (suc n) j le low pass same =
      one_further n (omega (arith, le))
      ∙ ⊎_elim
      (λ (before : j < n). or_left (any_to n) _ (any_there n j (omega (arith, le)) before pass same))
      (λ (at : j ≡ n). or_right (any_to n) _ (and_both (p n) (same_name q (name_in ms n)) (sym (ap p at) ∙ pass) (sym (ap (λ k. same_name q (name_in ms k)) at) ∙ same)))
      (before_or_at j n low)

same_bool : (a b : Bool) → (a ≡ true → b ≡ true) → (b ≡ true → a ≡ true) → a ≡ b
same_bool true b f g = sym (f refl)
same_bool false true f g = g refl
same_bool false false f g = refl

-- where one place alone can have the name, the name lies below a place exactly where that one does
by_place : (ms : List DraftMember) (top : ℕ) (name : Name) (found : Option ℕ)
    → ((j : ℕ) → j < length ms → same_name name (name_in ms j) ≡ true → found ≡ Some j)
    → ((p : ℕ) → found ≡ Some p → (p < length ms) × (same_name name (name_in ms p) ≡ true))
    → has_under ms top name ≡ unwrap_or (option_map (is_under (parents_of ms) top) found) false
by_place ms top name found only there = same_bool (has_under ms top name) (unwrap_or (option_map (is_under (parents_of ms) top) found) false) down (up found refl)
  where
    down : has_under ms top name ≡ true → unwrap_or (option_map (is_under (parents_of ms) top) found) false ≡ true
    down h =
        let r = any_below ms (is_under (parents_of ms) top) name (length (parents_of ms)) (omega (arith, one_parent_each ms)) h in
        ap (λ (x : Option ℕ). unwrap_or (option_map (is_under (parents_of ms) top) x) false) (only r.0 (omega (arith, r.1, one_parent_each ms)) r.3) ∙ r.2

    up : (x : Option ℕ) → found ≡ x → unwrap_or (option_map (is_under (parents_of ms) top) found) false ≡ true → has_under ms top name ≡ true
    up None is h = absurd (true≢false (sym (sym (ap (λ (y : Option ℕ). unwrap_or (option_map (is_under (parents_of ms) top) y) false) is) ∙ h)))
    up (Some p) is h =
        let at = there p is in
        any_there ms (is_under (parents_of ms) top) name (length (parents_of ms)) p (omega (arith, one_parent_each ms)) (omega (arith, at.0, one_parent_each ms))
        (sym (ap (λ (y : Option ℕ). unwrap_or (option_map (is_under (parents_of ms) top) y) false) is) ∙ h) at.1

-- ---- below a leaf lies the leaf alone

pub leaf_alone : (parents : List ℕ) → IsTree parents → (i : ℕ) → i < length parents → is_leaf parents i ≡ true → under parents i ≡ i ∷ []
leaf_alone parents tree i within leaf =
    let r = ends parents tree i within in
    let one : r.0 - i ≡ 1 = eqb-true _ _ (sym (leaf_of_span parents tree i r.0 r.2) ∙ leaf) in
    span_of parents tree i r.0 r.2 ∙ ap (λ n. range_with_len i n) one

pub under_leaf : (ms : List DraftMember) → IsTree (parents_of ms) → (top : ℕ) (q : Name) → top < length ms → is_leaf (parents_of ms) top ≡ true → has_under ms top q ≡ same_name q (name_in ms top)
under_leaf ms tree top q low leaf =
    ap (λ (xs : List ℕ). list_any (same_name q) (names_at ms xs)) (leaf_alone (parents_of ms) tree top (omega (arith, low, one_parent_each ms)) leaf)
    ∙ ap (list_any (same_name q)) (name_at ms top low true) ∙ or_false (same_name q (name_in ms top))
  where
    or_false : (b : Bool) → (b || false) ≡ b
    or_false true = refl
    or_false false = refl

-- ---- the name of a data leaf

names_cons : (ms : List DraftMember) (x : ℕ) (xs : List ℕ) → x < length ms → names_at ms (x ∷ xs) ≡ name_in ms x ∷ names_at ms xs
names_cons ms x xs low = let m = some_at ms x low in there_all (slice_get ms x) m.0 (filter_map (slice_get ms) xs) m.1

names_get : (ms : List DraftMember) (xs : List ℕ) → ((k : ℕ) → k < length xs → get_or xs k 0 < length ms) → (k : ℕ) → k < length xs → slice_get (names_at ms xs) k ≡ Some (name_in ms (get_or xs k 0))
names_get ms [] each k low = absurd (omega (arith, low))
names_get ms (x ∷ xs) each zero low = ap (λ (ys : List Name). slice_get ys 0) (names_cons ms x xs (each 0 (omega arith)))
names_get ms (x ∷ xs) each (suc k) low = ap (λ (ys : List Name). slice_get ys (suc k)) (names_cons ms x xs (each 0 (omega arith))) ∙ names_get ms xs (λ j less. each (suc j) (omega (arith, less))) k (omega (arith, low))

pub leaf_name_is : (o : Draft) (d leaf : ℕ) → leaf < leaf_count o d → slice_get (leaf_names (dim_at o d)) leaf ≡ Some (name_in (tree (dim_at o d) 0) (slice_index (data_leaves (dim_at o d)) leaf))
unfolding leaf_names
leaf_name_is o d leaf low =
    let t = tree (dim_at o d) 0 in
    names_get t (data_leaves (dim_at o d)) (λ k less. let within : get_or (data_leaves (dim_at o d)) k 0 < 0 + length t = passes_within (is_data_place t) (length t) 0 k 0 less in omega (arith, within)) leaf low

-- ---- what a resolved member holds

same_dim : (a b c x y z : ℕ) → Inner a b c ≡ Inner x y z → a ≡ x
same_dim a b c x y z e = cc

not_carried : (a j d h i : ℕ) → Carried a j ≡ Inner d h i → ⊥
not_carried a j d h i e = cc

pub holds_resolved : (o : Draft) (s : Seat) (leaf d h i : ℕ) → resolve o s ≡ Inner d h i → holds o s leaf ≡ holds_place o d h i leaf
unfolding holds
holds_resolved o (Whole e) leaf d h i is =
    ap (λ (s : Seat). unwrap_or (option_map (holds_name o s) (slice_get (leaf_names (dim_at o e)) leaf)) false) is
    ∙ ap (λ x. unwrap_or (option_map (has_under (tree (dim_at o d) h) i) (slice_get (leaf_names (dim_at o x)) leaf)) false) (same_dim e 0 _ d h i is)
holds_resolved o (Inner e k j) leaf d h i is =
    ap (λ (s : Seat). unwrap_or (option_map (holds_name o s) (slice_get (leaf_names (dim_at o e)) leaf)) false) is
    ∙ ap (λ x. unwrap_or (option_map (has_under (tree (dim_at o d) h) i) (slice_get (leaf_names (dim_at o x)) leaf)) false) (same_dim e k _ d h i is)
holds_resolved o (Carried a j) leaf d h i is = absurd (not_carried a j d h i is)

none_held : (x : Option Name) → unwrap_or (option_map (λ (q : Name). false) x) false ≡ false
none_held None = refl
none_held (Some q) = refl

pub holds_carried : (o : Draft) (s : Seat) (leaf a i : ℕ) → resolve o s ≡ Carried a i → holds o s leaf ≡ false
unfolding holds
holds_carried o s leaf a i is = ap (λ (r : Seat). unwrap_or (option_map (holds_name o r) (slice_get (leaf_names (dim_at o (dim_of s))) leaf)) false) is ∙ none_held (slice_get (leaf_names (dim_at o (dim_of s))) leaf)

pub holds_whole : (o : Draft) (s : Seat) (leaf d : ℕ) → resolve o s ≡ Whole d → holds o s leaf ≡ false
unfolding holds
holds_whole o s leaf d is = ap (λ (r : Seat). unwrap_or (option_map (holds_name o r) (slice_get (leaf_names (dim_at o (dim_of s))) leaf)) false) is ∙ none_held (slice_get (leaf_names (dim_at o (dim_of s))) leaf)

-- past the last data leaf nothing is held
pub holds_past : (o : Draft) (d h i leaf : ℕ) → leaf_count o d ≤ leaf → holds_place o d h i leaf ≡ false
unfolding leaf_names
holds_past o d h i leaf past =
    let t = tree (dim_at o d) 0 in
    let long : length (names_at t (data_leaves (dim_at o d))) ≡ leaf_count o d = names_long t (is_data_place t) (length t) (omega arith) in
    ap (λ (x : Option Name). unwrap_or (option_map (has_under (tree (dim_at o d) h) i) x) false) (slice_get_past (names_at t (data_leaves (dim_at o d))) leaf (omega (arith, long, past)))

pub held_by_name : (o : Draft) (d leaf h i : ℕ) → leaf < leaf_count o d → holds_place o d h i leaf ≡ has_under (tree (dim_at o d) h) i (name_in (tree (dim_at o d) 0) (slice_index (data_leaves (dim_at o d)) leaf))
held_by_name o d leaf h i below = ap (λ (x : Option Name). unwrap_or (option_map (has_under (tree (dim_at o d) h) i) x) false) (leaf_name_is o d leaf below)

module _ (o : Draft) (names : position (repeats (own_names o)) (places_of (seats o)) ≡ None) (sharing : position (breaks_sharing o) (seats o) ≡ None) (d : ℕ) (low : d < length o.dims) where
  module _ (leaf : ℕ) (below : leaf < leaf_count o d) (first : 0 < length (dim_at o d).hiers) where
    abbrev place : ℕ
    place = slice_index (data_leaves (dim_at o d)) leaf

    abbrev name : Name
    name = name_in (tree (dim_at o d) 0) place

    within : place < length (tree (dim_at o d) 0)
    within = let t = tree (dim_at o d) 0 in let less : place < 0 + length t = passes_within (is_data_place t) (length t) 0 leaf 0 below in omega (arith, less)

    own_place : leaf_place o d 0 leaf ≡ Some place
    own_place = slice_get-get_or (data_leaves (dim_at o d)) leaf 0 below

    -- in the first hierarchy
    pub held_first : (i : ℕ) → holds_place o d 0 i leaf ≡ unwrap_or (option_map (is_under (parents_of (tree (dim_at o d) 0)) i) (leaf_place o d 0 leaf)) false
    held_first i =
        let t = tree (dim_at o d) 0 in
        let own = some_at t place within in
        held_by_name o d leaf 0 i below ∙ by_place t i name (leaf_place o d 0 leaf)
        (λ j less same.
        let m = some_at t j less in
        let equal : m.0.name ≡ name = sym (name_there t j m.0 m.1) ∙ sym (same_is name (name_in t j) same) in
        own_place ∙ ap (λ (k : ℕ). Some k) (sym (only_own o names sharing d place name low own.0 own.1 (sym (name_there t place own.0 own.1)) first j m.0 m.1 equal)))
        (λ p is.
        let at : place ≡ p = same_Some place p (sym own_place ∙ is) in
        (omega (arith, at, within), ap (λ k. same_name name (name_in t k)) (sym at) ∙ same_self name))

    -- in another stored hierarchy
    pub held_other : (h i : ℕ) → suc h < length (dim_at o d).hiers → is_dynamic o (Inner d (suc h) i) ≡ false
        → holds_place o d (suc h) i leaf ≡ unwrap_or (option_map (is_under (parents_of (tree (dim_at o d) (suc h))) i) (leaf_place o d (suc h) leaf)) false
    held_other h i there stored =
        let t = tree (dim_at o d) (suc h) in
        let own = some_at (tree (dim_at o d) 0) place within in
        let found : leaf_place o d (suc h) leaf ≡ position (shares name) t = ap (option_and_then (λ (q : Name). position (shares q) t)) (leaf_name_is o d leaf below) in
        held_by_name o d leaf (suc h) i below ∙ by_place t i name (leaf_place o d (suc h) leaf)
        (λ j less same.
        let m = some_at t j less in
        let equal : m.0.name ≡ name = sym (name_there t j m.0 m.1) ∙ sym (same_is name (name_in t j) same) in
        found ∙ only_sharer o names sharing d place name low own.0 own.1 (sym (name_there (tree (dim_at o d) 0) place own.0 own.1)) first h j m.0 there stored m.1 equal)
        (λ p is.
        let at = position-Some (shares name) t p own.0 (sym found ∙ is) in
        let m = some_at t p at.0 in
        let pass : same_name name m.0.name ≡ true = and_right m.0.shared _ (sym (ap (shares name) (get_or_from_slice_get t p m.0 own.0 m.1)) ∙ at.1) in
        (at.0, ap (same_name name) (name_there t p m.0 m.1) ∙ pass))

    -- in the first hierarchy, and in any stored one
    pub held : (h i : ℕ) → h < length (dim_at o d).hiers → (0 < h → is_dynamic o (Inner d h 0) ≡ false)
        → holds_place o d h i leaf ≡ unwrap_or (option_map (is_under (parents_of (tree (dim_at o d) h)) i) (leaf_place o d h leaf)) false
    held zero i there stored = held_first i
    held (suc h) i there stored = held_other h i there (stored (omega arith))
