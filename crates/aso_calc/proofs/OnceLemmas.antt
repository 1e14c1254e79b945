-- No tuple that is needed is listed twice.
use Rattle.std.proofs.Common.{◌≡◌, ◌≢◌, ◌∙◌, ◌⊎◌, ⊎_elim, inl, inr, ℕ, zero, suc, ◌+◌, ◌<◌, ◌≤◌, ◌||◌, Bool, true, false, true≢false, List, [], ◌∷◌, ◌++◌, length, length-append, Some, refl, sym, ap, subst, arith}
use Rattle.std.specs.Prelude.{slice_get, if◌then◌else◌}
use Rattle.std.specs.List.{flat_map, fold}
use Rattle.std.specs.Cmp.Lexicographic.{nat_list_eq_equiv}
use Rattle.std.specs.Str.{bytes_eq}
use Rattle.std.proofs.lemmas.Option.{none-some, same_Some, slice_get_within}
use Rattle.aso_outline.specs.declared.draft.Draft.{Draft}
use Rattle.aso_outline.specs.declared.draft.Tuple.{Tuple}
use Rattle.aso_calc.specs.Keys.{key_of}
use Rattle.aso_calc.specs.Needs.{AreDistinct, has, needed, noted, reached}
use Rattle.aso_calc.specs.Values.{Own}

or_front : (a b : Bool) → a ≡ true → (a || b) ≡ true
or_front true b is = refl
or_front false b is = absurd (true≢false (sym is))

or_behind : (a b : Bool) → b ≡ true → (a || b) ≡ true
or_behind true b is = refl
or_behind false b is = is

has_at : (all : List Tuple) (i : ℕ) (t : Tuple) → slice_get all i ≡ Some t → has all t ≡ true
has_at [] i t at = absurd (none-some t at)
has_at (x ∷ all) zero t at =
    or_front (bytes_eq (key_of t.base t.attrs) (key_of x.base x.attrs)) (has all t)
    (subst (λ (y : Tuple). bytes_eq (key_of t.base t.attrs) (key_of y.base y.attrs) ≡ true) (sym (same_Some x t at)) (nat_list_eq_equiv.refl (key_of t.base t.attrs)))
has_at (x ∷ all) (suc i) t at = or_behind (bytes_eq (key_of t.base t.attrs) (key_of x.base x.attrs)) (has all t) (has_at all i t at)

get_front : (xs ys : List Tuple) (i : ℕ) → i < length xs → slice_get (xs ++ ys) i ≡ slice_get xs i
get_front [] ys i low = absurd (omega (arith, low))
get_front (x ∷ xs) ys zero low = refl
get_front (x ∷ xs) ys (suc i) low = get_front xs ys i (omega (arith, low))

get_last : (xs : List Tuple) (y : Tuple) (i : ℕ) → i ≡ length xs → slice_get (xs ++ y ∷ []) i ≡ Some y
get_last [] y zero e = refl
get_last [] y (suc i) e = absurd (omega (arith, e))
get_last (x ∷ xs) y zero e = absurd (omega (arith, e))
get_last (x ∷ xs) y (suc i) e = get_last xs y i (omega (arith, e))

distinct_more : (all : List Tuple) (t : Tuple) → AreDistinct all → has all t ≡ false → AreDistinct (all ++ t ∷ [])
distinct_more all t once new i j x order first second =
    let within : j < length all + 1 = omega (arith, slice_get_within (all ++ t ∷ []) j x second, length-append all (t ∷ [])) in
    ⊎_elim
    (λ (low : j < length all). once i j x order (sym (get_front all (t ∷ []) i (omega (arith, order, low))) ∙ first) (sym (get_front all (t ∷ []) j low) ∙ second))
    (λ (last : j ≡ length all).
    let same : t ≡ x = same_Some t x (sym (get_last all t j last) ∙ second) in
    true≢false (sym (has_at all i x (sym (get_front all (t ∷ []) i (omega (arith, order, last))) ∙ first)) ∙ (ap (has all) (sym same) ∙ new)))
    (below_or_at j (length all) within)
  where
    below_or_at : (k i : ℕ) → k < i + 1 → (k < i) ⊎ (k ≡ i)
    below_or_at k i low = grind (arith, low)

distinct_noted : (all : List Tuple) (t : Tuple) → AreDistinct all → AreDistinct (noted all t)
distinct_noted all t once = by_test (has all t) refl
  where
    by_test : (b : Bool) → has all t ≡ b → AreDistinct (if b then all else all ++ t ∷ [])
    by_test true is = once
    by_test false is = distinct_more all t once is

distinct_fold : (xs all : List Tuple) → AreDistinct all → AreDistinct (fold noted all xs)
distinct_fold [] all once = once
distinct_fold (x ∷ xs) all once = distinct_fold xs (noted all x) (distinct_noted all x once)

pub needed_once : (o : Draft) (own : Own) (found ts : List Tuple) → found ≡ needed o own ts → AreDistinct found
unfolding needed
needed_once o own found ts is = subst AreDistinct (sym is) (distinct_fold (flat_map (reached o own) ts) [] (λ i j t order first second. none-some t first))
