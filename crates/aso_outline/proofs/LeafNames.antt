-- The names of data leaves and of the members that share them, one place more.
use Rattle.std.specs.Prelude.{is_some, option_to_list, slice_get, unwrap_or, if◌then◌else◌}
use Rattle.std.specs.Option.{option_map, option_and_then}
use Rattle.std.specs.List.{cons_option, filter, filter_map, position, range_with_len}
use Rattle.std.proofs.Common.{◌≡◌, ◌∙◌, ℕ, zero, suc, ◌+◌, ◌<◌, ◌≤◌, ◌&&◌, Bool, true, false, cond, List, [], ◌∷◌, ◌++◌, map, take, length, get_or, Option, Some, None, refl, sym, ap, arith, add-one, append-nil, length-append, length-take, subst, true≢false}
use Rattle.std.proofs.lemmas.List.{map-append, map_more, take_all, take_more}
use Rattle.std.proofs.lemmas.List.Elements.{filter_map-append}
use Rattle.std.proofs.lemmas.Option.{get_or_from_slice_get, slice_get-get_or}
use Rattle.aso_tree.proofs.Paths.{filter_range_push, map_push}
use Rattle.aso_tree.proofs.Positions.{first_of, position_append, position_cons}
use Rattle.aso_outline.specs.declared.draft.DraftMember.{DraftMember}
use Rattle.aso_outline.specs.Rules.{same_own, shares}
use Rattle.aso_outline.specs.Leaves.{name_in}
use Rattle.aso_outline.specs.Members.{Name, member_is, names_at, same_name}
use Rattle.aso_outline.proofs.TableLemmas.{count_more}

there : (found : Option DraftMember) (m : DraftMember) → found ≡ Some m → map (λ (m : DraftMember). m.name) (cons_option found []) ≡ unwrap_or (option_map (λ (m : DraftMember). m.name) found) [] ∷ []
there None m is = cc
there (Some x) m is = refl

pub there_all : (found : Option DraftMember) (m : DraftMember) (rest : List DraftMember) → found ≡ Some m → map (λ (y : DraftMember). y.name) (cons_option found rest) ≡ unwrap_or (option_map (λ (y : DraftMember). y.name) found) [] ∷ map (λ (y : DraftMember). y.name) rest
there_all None m rest is = cc
there_all (Some x) m rest is = refl

pub some_at : (ms : List DraftMember) (n : ℕ) → n < length ms → (m : DraftMember) × (slice_get ms n ≡ Some m)
some_at [] n low = absurd (omega (arith, low))
some_at (m ∷ ms) zero low = (m, refl)
some_at (m ∷ ms) (suc n) low = some_at ms n (omega (arith, low))

pub name_at : (ms : List DraftMember) (n : ℕ) → n < length ms → (b : Bool) → names_at ms (cond b (n ∷ []) []) ≡ cond b (name_in ms n ∷ []) []
name_at ms n low false = refl
name_at ms n low true = let m = some_at ms n low in there (slice_get ms n) m.0 m.1

-- the names at the places that pass, one place more
pub names_more : (ms : List DraftMember) (p : ℕ → Bool) (n : ℕ) → n < length ms → names_at ms (filter p (range_with_len 0 (n + 1))) ≡ names_at ms (filter p (range_with_len 0 n)) ++ cond (p n) (name_in ms n ∷ []) []
names_more ms p n low =
    ap (names_at ms) (filter_range_push p n)
    ∙ ap (map (λ (m : DraftMember). m.name)) (filter_map-append (slice_get ms) (filter p (range_with_len 0 n)) (filter p (n ∷ [])))
    ∙ map-append (λ (m : DraftMember). m.name) (filter_map (slice_get ms) (filter p (range_with_len 0 n))) (filter_map (slice_get ms) (filter p (n ∷ [])))
    ∙ ap (λ xs. names_at ms (filter p (range_with_len 0 n)) ++ xs) (name_at ms n low (p n))

-- each place has its name
pub names_long : (ms : List DraftMember) (p : ℕ → Bool) (n : ℕ) → n ≤ length ms → length (names_at ms (filter p (range_with_len 0 n))) ≡ length (filter p (range_with_len 0 n))
names_long ms p zero le = refl
names_long ms p (suc n) le =
    let before : length (names_at ms (filter p (range_with_len 0 n))) ≡ length (filter p (range_with_len 0 n)) = names_long ms p n (omega (arith, le)) in
    let names : length (names_at ms (filter p (range_with_len 0 (n + 1)))) ≡ length (names_at ms (filter p (range_with_len 0 n))) + cond (p n) 1 0 =
    ap length (names_more ms p n (omega (arith, le))) ∙ length-append (names_at ms (filter p (range_with_len 0 n))) (cond (p n) (name_in ms n ∷ []) []) ∙ ap (λ k. length (names_at ms (filter p (range_with_len 0 n))) + k) (one (p n)) in
    subst (λ k. length (names_at ms (filter p (range_with_len 0 k))) ≡ length (filter p (range_with_len 0 k))) (add-one n) (omega (arith, before, names, count_more p n))
  where
    one : (b : Bool) → length (cond b (name_in ms n ∷ []) []) ≡ cond b 1 0
    one true = refl
    one false = refl

pub first_or : (a : Option ℕ) → first_of a None ≡ a
first_or None = refl
first_or (Some k) = refl

module _ {X : Type 0} (p : X → Bool) (xs : List X) (x : X) (n : ℕ) (long : length xs ≡ n) where
  last_found : option_map (λ (k : ℕ). length xs + k) (position p (x ∷ [])) ≡ cond (p x) (Some n) None
  last_found = ap (option_map (λ (k : ℕ). length xs + k)) (position_cons p x []) ∙ by_test (p x)
    where
      by_test : (b : Bool) → option_map (λ (k : ℕ). length xs + k) (if b then Some 0 else option_map (λ (k : ℕ). suc k) (position p [])) ≡ cond b (Some n) None
      by_test true = ap (λ (k : ℕ). Some k) (omega (arith, long))
      by_test false = refl

  -- the first that passes, where one more may stand at the end
  pub found_more : (b : Bool) → position p (xs ++ cond b (x ∷ []) []) ≡ first_of (position p xs) (cond (b && p x) (Some n) None)
  found_more true = position_append p xs (x ∷ []) ∙ ap (first_of (position p xs)) last_found
  found_more false = ap (position p) (append-nil xs) ∙ sym (first_or (position p xs))

-- the first data leaf of a name, one place more
pub leaf_found : (ms : List DraftMember) (p : ℕ → Bool) (q : Name) (n : ℕ) → n < length ms
    → position (same_name q) (names_at ms (filter p (range_with_len 0 (n + 1)))) ≡ first_of (position (same_name q) (names_at ms (filter p (range_with_len 0 n)))) (cond (p n && same_name q (name_in ms n)) (Some (length (filter p (range_with_len 0 n)))) None)
leaf_found ms p q n low =
    ap (position (same_name q)) (names_more ms p n low)
    ∙ found_more (same_name q) (names_at ms (filter p (range_with_len 0 n))) (name_in ms n) (length (filter p (range_with_len 0 n))) (names_long ms p n (omega (arith, low))) (p n)

-- the first that shares a name, one place more
pub sharer_found : (ms : List DraftMember) (q : Name) (n : ℕ) → n < length ms
    → position (shares q) (take (n + 1) ms) ≡ first_of (position (shares q) (take n ms)) (cond (member_is (λ m. m.shared) ms n && same_name q (name_in ms n)) (Some n) None)
sharer_found ms q n low =
    let m = some_at ms n low in
    let before : Option ℕ = position (shares q) (take n ms) in
    ap (position (shares q)) (take_more ms n m.0 low ∙ ap (λ (x : DraftMember). take n ms ++ x ∷ []) (get_or_from_slice_get ms n m.0 m.0 m.1))
    ∙ found_more (shares q) (take n ms) m.0 n (omega (arith, length-take n ms, low)) true
    ∙ ap (λ (x : Option DraftMember). first_of before (cond (unwrap_or (option_map (λ (y : DraftMember). y.shared) x) false && same_name q (unwrap_or (option_map (λ (y : DraftMember). y.name) x) [])) (Some n) None)) (sym m.1)

-- a name that may not be there
pub own_if : (q : Name) (b : Bool) (name : Name) → same_own (Some q) (if b then Some name else None) ≡ (b && same_name q name)
own_if q true name = refl
own_if q false name = refl

pub listed : (f : Name → Option ℕ) (b : Bool) (name : Name) → map f (option_to_list (if b then Some name else None)) ≡ map f (cond b (name ∷ []) [])
listed f true name = refl
listed f false name = refl

pub found_in : (f : Name → Option ℕ) (b : Bool) (name : Name) → option_and_then f (if b then Some name else None) ≡ (if b then f name else None)
found_in f true name = refl
found_in f false name = refl

-- what was known stays; what wasn't is known from now on
pub known_kept : (x : Option ℕ) (b : Bool) (n : ℕ) → (b ≡ true → is_some x ≡ true) → x ≡ (if is_some x then x else (if b then Some n else None))
known_kept (Some k) b n h = refl
known_kept None true n h = absurd (true≢false (sym (h refl)))
known_kept None false n h = refl

pub known_now : (x : Option ℕ) (b : Bool) (n : ℕ) → (b ≡ true → is_some x ≡ false) → (if b then Some n else x) ≡ (if is_some x then x else (if b then Some n else None))
known_now None b n h = refl
known_now (Some k) true n h = absurd (true≢false (h refl))
known_now (Some k) false n h = refl

pub map_same : {X Y : Type 0} (f g : X → Y) → ((x : X) → f x ≡ g x) → (xs : List X) → map f xs ≡ map g xs
map_same f g same [] = refl
map_same f g same (x ∷ xs) = let here = same x in let rest = map_same f g same xs in cc

-- a list is what is found at its places
gets : {X : Type 0} (f : X → Option ℕ) (xs : List X) (d : X) (n : ℕ) → n ≤ length xs → map f (take n xs) ≡ map (λ k. option_and_then f (slice_get xs k)) (range_with_len 0 n)
gets f xs d zero le = refl
gets f xs d (suc n) le =
    let low : n < length xs = omega arith in
    ap (λ k. map f (take k xs)) (sym (add-one n)) ∙ map_more f xs n d low
    ∙ ap (λ ys. ys ++ f (get_or xs n d) ∷ []) (gets f xs d n (omega arith))
    ∙ ap (λ o. map (λ k. option_and_then f (slice_get xs k)) (range_with_len 0 n) ++ option_and_then f o ∷ []) (sym (slice_get-get_or xs n d low))
    ∙ sym (map_push (λ k. option_and_then f (slice_get xs k)) n)
    ∙ ap (λ k. map (λ k. option_and_then f (slice_get xs k)) (range_with_len 0 k)) (add-one n)

pub got : {X : Type 0} (f : X → Option ℕ) (xs : List X) (d : X) (n : ℕ) → n ≡ length xs → map f xs ≡ map (λ k. option_and_then f (slice_get xs k)) (range_with_len 0 n)
got f xs d n e = ap (map f) (sym (take_all n xs (omega (arith, e)))) ∙ gets f xs d n (omega (arith, e))
