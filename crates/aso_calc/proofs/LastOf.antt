-- The last of some elements that pass, one element more.
use Rattle.std.proofs.Common.{◌≡◌, ◌∙◌, ℕ, ◌+◌, ◌<◌, Bool, true, false, List, [], ◌∷◌, ◌++◌, take, length, get_or, Option, Some, None, refl, sym, ap, append-nil}
use Rattle.std.specs.Prelude.{if◌then◌else◌}
use Rattle.std.specs.List.{filter, last_or}
use Rattle.std.proofs.lemmas.List.{take_more}
use Rattle.std.proofs.lemmas.List.Elements.{filter-append}

last_push : {A : Type 0} (o : Option A) (xs : List A) (y : A) → last_or o (xs ++ y ∷ []) ≡ Some y
last_push o [] y = refl
last_push o (x ∷ xs) y = last_push (Some x) xs y

by_test : (b : Bool) (xs : List ℕ) (y : ℕ) → last_or None (xs ++ (if b then y ∷ [] else [])) ≡ (if b then Some y else last_or None xs)
by_test true xs y = last_push None xs y
by_test false xs y = ap (last_or None) (append-nil xs)

pub last_more : (t : ℕ → Bool) (xs : List ℕ) (i d : ℕ) → i < length xs → last_or None (filter t (take (i + 1) xs)) ≡ (if t (get_or xs i d) then Some (get_or xs i d) else last_or None (filter t (take i xs)))
last_more t xs i d low =
    ap (λ (ys : List ℕ). last_or None (filter t ys)) (take_more xs i d low)
    ∙ (ap (last_or None) (filter-append t (take i xs) (get_or xs i d ∷ [])) ∙ by_test (t (get_or xs i d)) (filter t (take i xs)) (get_or xs i d))
