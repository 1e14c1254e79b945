-- What a listing has stays, and what is noted once isn't noted again.
use Rattle.std.proofs.Common.{◌≡◌, ◌∙◌, ℕ, ◌+◌, Bool, true, false, ◌||◌, ◌&&◌, true≢false, List, [], ◌∷◌, ◌++◌, drop, map, Option, Some, None, refl, sym, ap, subst}
use Rattle.std.specs.Prelude.{is_some, if◌then◌else◌}
use Rattle.std.specs.List.{flat_map, fold, list_all, list_any}
use Rattle.std.specs.Cmp.Lexicographic.{bytes_decides, nat_list_eq_equiv}
use Rattle.std.specs.Str.{bytes_eq}
use Rattle.std.proofs.lemmas.List.{map-append}
use Rattle.std.proofs.lemmas.List.Folds.{list_any-append}
use Rattle.std.proofs.lemmas.List.Sums.{fold-append}
use Rattle.aso_outline.specs.declared.draft.Tuple.{Tuple}
use Rattle.aso_calc.specs.Keys.{key_of}
use Rattle.aso_calc.specs.Needs.{all_noted, has, noted, with_attrs}
use Rattle.aso_calc.proofs.StoredLemmas.{same_key}

abbrev key : Tuple → List ℕ
key t = key_of t.base t.attrs

or_front : (a b : Bool) → a ≡ true → (a || b) ≡ true
or_front true b is = refl
or_front false b is = absurd (true≢false (sym is))

or_behind : (a b : Bool) → b ≡ true → (a || b) ≡ true
or_behind true b is = refl
or_behind false b is = is

has_behind : (all : List Tuple) (s t : Tuple) → has (all ++ s ∷ []) t ≡ (has all t || (bytes_eq (key t) (key s) || false))
has_behind all s t = list_any-append (λ (x : Tuple). bytes_eq (key t) (key x)) all (s ∷ [])

pub has_more : (all : List Tuple) (s t : Tuple) → has all t ≡ true → has (noted all s) t ≡ true
has_more all s t there = by_test (has all s)
  where
    by_test : (b : Bool) → has (if b then all else all ++ s ∷ []) t ≡ true
    by_test true = there
    by_test false = has_behind all s t ∙ or_front (has all t) (bytes_eq (key t) (key s) || false) there

has_fold : (xs all : List Tuple) (t : Tuple) → has all t ≡ true → has (fold noted all xs) t ≡ true
has_fold [] all t there = there
has_fold (x ∷ xs) all t there = has_fold xs (noted all x) t (has_more all x t there)

has_noted : (all : List Tuple) (t : Tuple) → has (noted all t) t ≡ true
has_noted all t = by_test (has all t) refl
  where
    by_test : (b : Bool) → has all t ≡ b → has (if b then all else all ++ t ∷ []) t ≡ true
    by_test true is = is
    by_test false is = has_behind all t t ∙ or_behind (has all t) (bytes_eq (key t) (key t) || false) (or_front (bytes_eq (key t) (key t)) false (nat_list_eq_equiv.refl (key t)))

both : (a b : Bool) → a ≡ true → b ≡ true → (a && b) ≡ true
both true b is this = this
both false b is this = absurd (true≢false (sym is))

front : (a b : Bool) → (a && b) ≡ true → a ≡ true
front true b is = refl
front false b is = is

behind : (a b : Bool) → (a && b) ≡ true → b ≡ true
behind true b is = is
behind false b is = absurd (true≢false (sym is))

-- each that was noted is there
pub all_there : (xs all : List Tuple) → list_all (has (fold noted all xs)) xs ≡ true
all_there [] all = refl
all_there (x ∷ xs) all = both (has (fold noted (noted all x) xs) x) (list_all (has (fold noted (noted all x) xs)) xs) (has_fold xs (noted all x) x (has_noted all x)) (all_there xs (noted all x))

has_longer : (all : List Tuple) (s t : Tuple) → has all t ≡ true → has (all ++ s ∷ []) t ≡ true
has_longer all s t there = has_behind all s t ∙ or_front (has all t) (bytes_eq (key t) (key s) || false) there

pub all_longer : (xs all : List Tuple) (s : Tuple) → list_all (has all) xs ≡ true → list_all (has (all ++ s ∷ [])) xs ≡ true
all_longer [] all s there = refl
all_longer (x ∷ xs) all s there =
    both (has (all ++ s ∷ []) x) (list_all (has (all ++ s ∷ [])) xs) (has_longer all s x (front (has all x) (list_all (has all) xs) there)) (all_longer xs all s (behind (has all x) (list_all (has all) xs) there))

-- what is there isn't noted again
pub none_new : (xs all : List Tuple) → list_all (has all) xs ≡ true → fold noted all xs ≡ all
none_new [] all there = refl
none_new (x ∷ xs) all there =
    let same : noted all x ≡ all = ap (λ (b : Bool). if b then all else all ++ x ∷ []) (front (has all x) (list_all (has all) xs) there) in
    ap (λ (ys : List Tuple). fold noted ys xs) same ∙ none_new xs all (behind (has all x) (list_all (has all) xs) there)

pub noted_more : (attrs : List (Option ℕ)) (all : List Tuple) (xs ys : List (List ℕ)) → all_noted attrs (all_noted attrs all xs) ys ≡ all_noted attrs all (xs ++ ys)
noted_more attrs all xs ys =
    sym (ap (fold noted all) (map-append (with_attrs attrs) xs ys) ∙ fold-append noted all (map (with_attrs attrs) xs) (map (with_attrs attrs) ys))
