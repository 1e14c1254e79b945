-- Counts of tuples, which stop at the greatest number of 64 bits.
use Rattle.std.specs.List.{flat_map}
use Rattle.std.proofs.Common.{◌≡◌, ◌∙◌, ◌⊎◌, ⊎_elim, ℕ, zero, suc, ◌+◌, ◌-◌, ◌*◌, ◌^◌, ◌<◌, ◌≤◌, min, List, [], ◌∷◌, ◌++◌, length, map, take, get_or, refl, sym, ap, arith, length-append, append_assoc, append-nil, mul-zero, zero-mul, mul-suc, suc-mul, mul_comm}
use Rattle.std.proofs.lemmas.List.{length-map, take_more, nil_from_length}
use Rattle.std.proofs.lemmas.Grind.{flat_map-append}
use Rattle.aso_axes.specs.Answers.{counted}
use Rattle.aso_axes.specs.Sets.{crossed}

abbrev most : ℕ
most = 2 ^ 64 - 1

up : (x y : ℕ) → x ≤ x * suc y
up x y = omega (arith, mul-suc x y)

split : (a : ℕ) → (a ≤ most) ⊎ (most < a)
split a = grind arith

within : (a : ℕ) → a ≤ most → counted a ≡ a
within a le = omega (arith, le)

past : (a : ℕ) → most ≤ a → counted a ≡ most
past a le = omega (arith, le)

positive : (a : ℕ) → (k : ℕ) × (counted (suc a) ≡ suc k)
positive a = (counted (suc a) - 1, omega arith)

times_past : (a b : ℕ) → most < a → counted (counted a * counted b) ≡ counted (a * b)
times_past a zero more = ap counted (mul-zero (counted a) ∙ sym (mul-zero a))
times_past a (suc b) more =
    let p = positive b in
    let left : most ≤ counted a * counted (suc b) = omega (arith, past a (omega (arith, more)), up (counted a) p.0, ap (λ (x : ℕ). counted a * x) p.1) in
    let right : most ≤ a * suc b = omega (arith, more, up a b) in
    past (counted a * counted (suc b)) left ∙ sym (past (a * suc b) right)

pub times_counted : (a b : ℕ) → counted (counted a * counted b) ≡ counted (a * b)
times_counted a b =
    ⊎_elim
    (λ (la : a ≤ most). ⊎_elim
    (λ (lb : b ≤ most). ap (λ (x : ℕ). counted (x * counted b)) (within a la) ∙ ap (λ (y : ℕ). counted (a * y)) (within b lb))
    (λ (mb : most < b). ap counted (mul_comm (counted a) (counted b)) ∙ (times_past b a mb ∙ ap counted (mul_comm b a)))
    (split b))
    (λ (ma : most < a). times_past a b ma)
    (split a)

pub plus_counted : (a b : ℕ) → counted (counted a + counted b) ≡ counted (a + b)
plus_counted a b = omega arith

-- ---- crossings

pub long_crossed : (l r : List (List ℕ)) → length (crossed l r) ≡ length l * length r
long_crossed [] r = sym (zero-mul (length r))
long_crossed (x ∷ l) r =
    let here : length (map (λ (y : List ℕ). x ++ y) r) ≡ length r = length-map r (λ (y : List ℕ). x ++ y) in
    omega (arith, length-append (map (λ (y : List ℕ). x ++ y) r) (crossed l r), here, long_crossed l r, suc-mul (length l) (length r))

none_counted : (n : ℕ) → counted n ≡ 0 → n ≡ 0
none_counted n e = omega (arith, e)

pub empty_left : (l r : List (List ℕ)) → counted (length l) ≡ 0 → crossed l r ≡ []
empty_left l r e = nil_from_length (crossed l r) (long_crossed l r ∙ (ap (λ (n : ℕ). n * length r) (none_counted (length l) e) ∙ zero-mul (length r)))

pub empty_right : (l r : List (List ℕ)) → counted (length r) ≡ 0 → crossed l r ≡ []
empty_right l r e = nil_from_length (crossed l r) (long_crossed l r ∙ (ap (λ (n : ℕ). length l * n) (none_counted (length r) e) ∙ mul-zero (length l)))

-- ---- one more piece

pub flat_more : {X Y : Type 0} (f : X → List Y) (xs : List X) (i : ℕ) (x : X) → i < length xs → x ≡ get_or xs i x → flat_map f (take (i + 1) xs) ≡ flat_map f (take i xs) ++ f x
flat_more f xs i x low at =
    ap (flat_map f) (take_more xs i x low)
    ∙ (flat_map-append f (take i xs) (get_or xs i x ∷ [])
    ∙ ap (λ (ys : List _). flat_map f (take i xs) ++ ys) (append-nil (f (get_or xs i x)) ∙ sym (ap f at)))

-- what was put behind, and what is put behind it now
pub flat_put : {X Y : Type 0} (f : X → List Y) (xs : List X) (i : ℕ) (x : X) (start old new piece : List Y) → i < length xs → x ≡ get_or xs i x
    → old ≡ start ++ flat_map f (take i xs) → new ≡ old ++ piece → piece ≡ f x → new ≡ start ++ flat_map f (take (i + 1) xs)
flat_put f xs i x start old new piece low at before put is =
    put ∙ (ap (λ (ys : List _). ys ++ piece) before
    ∙ (append_assoc start (flat_map f (take i xs)) piece
    ∙ ap (λ (ys : List _). start ++ ys) (ap (λ (ys : List _). flat_map f (take i xs) ++ ys) is ∙ sym (flat_more f xs i x low at))))
