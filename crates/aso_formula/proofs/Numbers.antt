-- The text of a number is read as that number.
use Rattle.std.proofs.Common.{◌≡◌, ℕ, suc, ◌+◌, ◌-◌, ◌*◌, ◌/◌, ◌%◌, ◌^◌, ◌≤◌, ◌<◌, Bool, true, false, not, ◌==◌, ◌&&◌, ◌||◌, List, [], ◌∷◌, ◌++◌, length, map, take, drop, Some, None, Result, Ok, Err, refl, sym, ◌∙◌, ap, arith, length-append, ◌⊎◌, inl, inr, ⊎_elim, if◌then◌else◌, ℤ, pos, nat_le}
use Rattle.std.specs.List.{list_all}
use Rattle.std.specs.Result.{result_ok}
use Rattle.std.specs.Fmt.{decimal}
use Rattle.std.specs.Int.Digits.{number_from_digits_after}
use Rattle.std.proofs.Math.Seq.{take-append_seam, drop-append_seam, take-length, drop-length}
use Rattle.std.proofs.lemmas.Bool.{le-leb, lt-leb, eqb-true}
use Rattle.std.proofs.lemmas.Fmt.{decimal_by_steps}
use Rattle.std.proofs.lemmas.Int.Digits.{number_after_append}
use Rattle.std.proofs.lemmas.List.{map-append, take_all}
use Rattle.aso_num.specs.AmountText.{is_digit, digits_len, sign_len, point_len, Parts, whole_and_rest, parts_of, number, units_text_value, judged, amount_of}
use Rattle.aso_num.specs.declared.amount.NumberFault.{NumberFault}
use Rattle.aso_num.specs.declared.amount.NumberFault.TheVariants.{Range}
use Rattle.aso_token.specs.Numerals.{number_of}
use Rattle.aso_token.proofs.Laws.{if_true, if_false}
use Rattle.aso_token.proofs.Lexed.{Numeral}
use Rattle.aso_formula.specs.Printing.{decimals_text, units_text}

-- ---- digits

both : (a b : Bool) → a ≡ true → b ≡ true → (a && b) ≡ true
both true b e f = f
both false b e f = e

digit_is : (d : ℕ) → d < 10 → is_digit (48 + d) ≡ true
digit_is d less = both (nat_le 48 (48 + d)) (nat_le (48 + d) 57) (le-leb 48 (48 + d) (omega arith)) (le-leb (48 + d) 57 (omega (arith, less)))

all_more : (b : ℕ) (bs : List ℕ) → is_digit b ≡ true → digits_len bs ≡ length bs → digits_len (b ∷ bs) ≡ length (b ∷ bs)
all_more b bs e h =
    let more : 1 + digits_len bs ≡ suc (length bs) = omega (arith, h) in
    ap (λ (q : Bool). if q then 1 + digits_len bs else 0) e ∙ more

passed : (q : Bool) (k n : ℕ) → (if q then 1 + k else 0) ≡ suc n → (q ≡ true) × (k ≡ n)
passed true k n e = (refl, omega (arith, e))
passed false k n e = absurd (let h : ⊥ = omega (arith, e) in h)

all_joined : (xs ys : List ℕ) → digits_len xs ≡ length xs → digits_len ys ≡ length ys → digits_len (xs ++ ys) ≡ length (xs ++ ys)
all_joined [] ys e h = h
all_joined (x ∷ xs) ys e h = let k = passed (is_digit x) (digits_len xs) (length xs) e in all_more x (xs ++ ys) k.0 (all_joined xs ys k.1 h)

digits_then : (xs ys : List ℕ) → digits_len xs ≡ length xs → digits_len ys ≡ 0 → digits_len (xs ++ ys) ≡ length xs
digits_then [] ys e h = h
digits_then (x ∷ xs) ys e h =
    let k = passed (is_digit x) (digits_len xs) (length xs) e in
    let more : 1 + digits_len (xs ++ ys) ≡ suc (length xs) = omega (arith, digits_then xs ys k.1 h) in
    ap (λ (q : Bool). if q then 1 + digits_len (xs ++ ys) else 0) k.0 ∙ more

abbrev values : List ℕ → List ℕ
values digits = map (λ b. b - 48) digits

-- ---- the whole part

record Writes (n : ℕ) (ds : List ℕ) : Type 0 where
  digits : digits_len ds ≡ length ds
  some : 1 ≤ length ds
  value : number_from_digits_after 10 0 (values ds) ≡ n

writes_one : (n : ℕ) → n < 10 → Writes n ((48 + n) ∷ [])
writes_one n less = record { digits = all_more (48 + n) [] (digit_is n less) refl; some = omega arith; value = omega arith }

writes_more : (n : ℕ) (ds : List ℕ) → 10 ≤ n → Writes (n / 10) ds → Writes n (ds ++ ((48 + n % 10) ∷ []))
writes_more n ds some w =
    let d = 48 + n % 10 in
    let small : n % 10 < 10 = omega arith in
    let last : number_from_digits_after 10 (n / 10) (values (d ∷ [])) ≡ n = omega arith in
    record {
      digits = all_joined ds (d ∷ []) w.digits (all_more d [] (digit_is (n % 10) small) refl);
      some = omega (arith, length-append ds (d ∷ []));
      value =
          ap (number_from_digits_after 10 0) (map-append (λ (x : ℕ). x - 48) ds (d ∷ []))
          ∙ number_after_append 10 0 (values ds) (values (d ∷ []))
          ∙ ap (λ (v : ℕ). number_from_digits_after 10 v (values (d ∷ []))) w.value
          ∙ last;
    }

whole_writes : (n : ℕ) → n < 2 ^ 64 → Writes n (decimal n)
whole_writes n less = decimal_by_steps Writes writes_one writes_more n less

-- ---- the decimals

record Fraction (w r : ℕ) (text : List ℕ) : Type 0 where
  digits : List ℕ
  all : digits_len digits ≡ length digits
  short : length digits ≤ 4
  value : number_from_digits_after 10 w (values digits) * 10 ^ (4 - length digits) ≡ w * 10000 + r
  point : ((text ≡ []) × (digits ≡ [])) ⊎ ((text ≡ 46 ∷ digits) × (1 ≤ length digits))

all_one : (a : ℕ) → is_digit a ≡ true → digits_len (a ∷ []) ≡ length (a ∷ [])
all_one a e = all_more a [] e refl

all_two : (a b : ℕ) → is_digit a ≡ true → is_digit b ≡ true → digits_len (a ∷ b ∷ []) ≡ length (a ∷ b ∷ [])
all_two a b e f = all_more a (b ∷ []) e (all_one b f)

all_three : (a b c : ℕ) → is_digit a ≡ true → is_digit b ≡ true → is_digit c ≡ true → digits_len (a ∷ b ∷ c ∷ []) ≡ length (a ∷ b ∷ c ∷ [])
all_three a b c e f g = all_more a (b ∷ c ∷ []) e (all_two b c f g)

all_four : (a b c d : ℕ) → is_digit a ≡ true → is_digit b ≡ true → is_digit c ≡ true → is_digit d ≡ true → digits_len (a ∷ b ∷ c ∷ d ∷ []) ≡ length (a ∷ b ∷ c ∷ d ∷ [])
all_four a b c d e f g h = all_more a (b ∷ c ∷ d ∷ []) e (all_three b c d f g h)

fraction : (w r : ℕ) → r < 10000 → Fraction w r (decimals_text r)
fraction w r less = none (r == 0) refl
  where
    first : is_digit (48 + r / 1000) ≡ true
    first = digit_is (r / 1000) (omega (arith, less))

    second : is_digit (48 + r / 100 % 10) ≡ true
    second = digit_is (r / 100 % 10) (omega arith)

    third : is_digit (48 + r / 10 % 10) ≡ true
    third = digit_is (r / 10 % 10) (omega arith)

    fourth : is_digit (48 + r % 10) ≡ true
    fourth = digit_is (r % 10) (omega arith)

    last : (q : Bool) → (r % 10 == 0) ≡ q → Fraction w r (if q then 46 ∷ ((48 + r / 1000) ∷ (48 + r / 100 % 10) ∷ (48 + r / 10 % 10) ∷ []) else 46 ∷ ((48 + r / 1000) ∷ (48 + r / 100 % 10) ∷ (48 + r / 10 % 10) ∷ (48 + r % 10) ∷ []))
    last true e =
        let zeros : r % 10 ≡ 0 = eqb-true (r % 10) 0 e in
        record { digits = ((48 + r / 1000) ∷ (48 + r / 100 % 10) ∷ (48 + r / 10 % 10) ∷ []); all = all_three (48 + r / 1000) (48 + r / 100 % 10) (48 + r / 10 % 10) first second third; short = omega arith; value = omega (arith, zeros, less); point = inr (refl, omega arith) }
    last false e =
        record { digits = ((48 + r / 1000) ∷ (48 + r / 100 % 10) ∷ (48 + r / 10 % 10) ∷ (48 + r % 10) ∷ []); all = all_four (48 + r / 1000) (48 + r / 100 % 10) (48 + r / 10 % 10) (48 + r % 10) first second third fourth; short = omega arith; value = omega (arith, less); point = inr (refl, omega arith) }

    hundreds : (q : Bool) → (r % 100 == 0) ≡ q → Fraction w r (if q then 46 ∷ ((48 + r / 1000) ∷ (48 + r / 100 % 10) ∷ []) else (if r % 10 == 0 then 46 ∷ ((48 + r / 1000) ∷ (48 + r / 100 % 10) ∷ (48 + r / 10 % 10) ∷ []) else 46 ∷ ((48 + r / 1000) ∷ (48 + r / 100 % 10) ∷ (48 + r / 10 % 10) ∷ (48 + r % 10) ∷ [])))
    hundreds true e =
        let zeros : r % 100 ≡ 0 = eqb-true (r % 100) 0 e in
        record { digits = ((48 + r / 1000) ∷ (48 + r / 100 % 10) ∷ []); all = all_two (48 + r / 1000) (48 + r / 100 % 10) first second; short = omega arith; value = omega (arith, zeros, less); point = inr (refl, omega arith) }
    hundreds false e = last (r % 10 == 0) refl

    thousands : (q : Bool) → (r % 1000 == 0) ≡ q → Fraction w r (if q then 46 ∷ ((48 + r / 1000) ∷ []) else (if r % 100 == 0 then 46 ∷ ((48 + r / 1000) ∷ (48 + r / 100 % 10) ∷ []) else (if r % 10 == 0 then 46 ∷ ((48 + r / 1000) ∷ (48 + r / 100 % 10) ∷ (48 + r / 10 % 10) ∷ []) else 46 ∷ ((48 + r / 1000) ∷ (48 + r / 100 % 10) ∷ (48 + r / 10 % 10) ∷ (48 + r % 10) ∷ []))))
    thousands true e =
        let zeros : r % 1000 ≡ 0 = eqb-true (r % 1000) 0 e in
        record { digits = ((48 + r / 1000) ∷ []); all = all_one (48 + r / 1000) first; short = omega arith; value = omega (arith, zeros, less); point = inr (refl, omega arith) }
    thousands false e = hundreds (r % 100 == 0) refl

    none : (q : Bool) → (r == 0) ≡ q → Fraction w r (if q then [] else (if r % 1000 == 0 then 46 ∷ ((48 + r / 1000) ∷ []) else (if r % 100 == 0 then 46 ∷ ((48 + r / 1000) ∷ (48 + r / 100 % 10) ∷ []) else (if r % 10 == 0 then 46 ∷ ((48 + r / 1000) ∷ (48 + r / 100 % 10) ∷ (48 + r / 10 % 10) ∷ []) else 46 ∷ ((48 + r / 1000) ∷ (48 + r / 100 % 10) ∷ (48 + r / 10 % 10) ∷ (48 + r % 10) ∷ [])))))
    none true e =
        let zeros : r ≡ 0 = eqb-true r 0 e in
        record { digits = []; all = refl; short = omega arith; value = omega (arith, zeros); point = inl (refl, refl) }
    none false e = thousands (r % 1000 == 0) refl

-- ---- a number's text

decimals_len : (w r : ℕ) (text : List ℕ) → Fraction w r text → (digits_len text ≡ 0) × (length text ≤ 5)
decimals_len w r text f = ⊎_elim
    (λ (no : (text ≡ []) × (f.digits ≡ [])). let is = no.0 in (ap digits_len is, omega (arith, ap length is)))
    (λ (yes : (text ≡ 46 ∷ f.digits) × (1 ≤ length f.digits)). let is = yes.0 in (ap digits_len is, omega (arith, ap length is, f.short)))
    f.point

-- a text that begins with a whole part of so many digits, and goes on with what stands behind them
abbrev parts_with : List ℕ → List ℕ → Parts
parts_with whole after =
    let decimals = if point_len after == 0 then [] else take (digits_len (drop 1 after)) (drop 1 after) in
    record { negative = false; whole = whole; decimals = decimals; rest = drop (point_len after + length decimals) after }

abbrev exact : List ℕ → List ℕ → Parts
exact whole digits = record { negative = false; whole = whole; decimals = digits; rest = [] }

parts_are : (w r : ℕ) (whole text : List ℕ) (f : Fraction w r text) → parts_with whole text ≡ exact whole f.digits
parts_are w r whole text f = ⊎_elim
    (λ (no : (text ≡ []) × (f.digits ≡ [])).
    ap (parts_with whole) no.0 ∙ ap (exact whole) (sym no.1))
    (λ (yes : (text ≡ 46 ∷ f.digits) × (1 ≤ length f.digits)).
    let fs = f.digits in
    let all : take (digits_len fs) fs ≡ fs = ap (λ (k : ℕ). take k fs) f.all ∙ take-length fs in
    let size : 1 + length fs ≡ length (46 ∷ fs) = omega arith in
    let none : drop (1 + length fs) (46 ∷ fs) ≡ [] = ap (λ (k : ℕ). drop k (46 ∷ fs)) size ∙ drop-length (46 ∷ fs) in
    ap (parts_with whole) yes.0
    ∙ ap (λ (z : List ℕ). let p : Parts = record { negative = false; whole = whole; decimals = z; rest = drop (1 + length z) (46 ∷ fs) } in p) all
    ∙ ap (λ (z : List ℕ). let p : Parts = record { negative = false; whole = whole; decimals = fs; rest = z } in p) none)
    f.point

unsigned_parts : (d : ℕ) (ds : List ℕ) → is_digit d ≡ true → parts_of (d ∷ ds) ≡ whole_and_rest false (d ∷ ds) (digits_len (d ∷ ds))
unsigned_parts d ds e =
    let plus : (d == 43) ≡ false = grind (arith, e) in
    let minus : (d == 45) ≡ false = grind (arith, e) in
    let none : sign_len (d ∷ ds) ≡ 0 = ap (λ (q : Bool). if q || (d == 45) then 1 else 0) plus ∙ ap (λ (q : Bool). if q then 1 else 0) minus in
    ap (λ (q : Bool). whole_and_rest q (drop (sign_len (d ∷ ds)) (d ∷ ds)) (digits_len (drop (sign_len (d ∷ ds)) (d ∷ ds)))) minus
    ∙ ap (λ (k : ℕ). whole_and_rest false (drop k (d ∷ ds)) (digits_len (drop k (d ∷ ds)))) none

text_parts : (w r : ℕ) (whole text : List ℕ) (f : Fraction w r text) → digits_len whole ≡ length whole → 1 ≤ length whole → parts_of (whole ++ text) ≡ exact whole f.digits
text_parts w r [] text f e some = absurd (let h : ⊥ = omega (arith, some) in h)
text_parts w r (d ∷ ds) text f e some =
    let all = (d ∷ ds) ++ text in
    let k = passed (is_digit d) (digits_len ds) (length ds) e in
    let n : digits_len all ≡ length (d ∷ ds) = digits_then (d ∷ ds) text e (decimals_len w r text f).0 in
    unsigned_parts d (ds ++ text) k.0
    ∙ ap (whole_and_rest false all) n
    ∙ ap (λ (z : List ℕ). parts_with z (drop (length (d ∷ ds)) all)) (take-append_seam (d ∷ ds) text)
    ∙ ap (parts_with (d ∷ ds)) (drop-append_seam (d ∷ ds) text)
    ∙ parts_are w r (d ∷ ds) text f

some_digits : (whole digits : List ℕ) → 1 ≤ length whole → (length (whole ++ digits) == 0) ≡ false
some_digits [] digits some = absurd (let h : ⊥ = omega (arith, some) in h)
some_digits (d ∷ ds) digits some = by_not (length ((d ∷ ds) ++ digits)) (omega (arith, length-append (d ∷ ds) digits, some))
  where
    by_not : (n : ℕ) → 1 ≤ n → (n == 0) ≡ false
    by_not n some = grind (arith, some)

no_more : (digits : List ℕ) → length digits ≤ 4 → list_all (λ b. b == 48) (drop 4 digits) ≡ true
no_more [] h = refl
no_more (a ∷ []) h = refl
no_more (a ∷ b ∷ []) h = refl
no_more (a ∷ b ∷ c ∷ []) h = refl
no_more (a ∷ b ∷ c ∷ d ∷ []) h = refl
no_more (a ∷ b ∷ c ∷ d ∷ e ∷ es) h = absurd (let n : ⊥ = omega (arith, h) in n)

abbrev answered : ℤ → Result ℤ NumberFault
answered z = Ok z

judged_exact : (n : ℕ) (whole digits : List ℕ) (a : ℕ) → 1 ≤ length whole → length digits ≤ 4 → units_text_value whole digits ≡ a → a < 10 ^ 18 → judged n (exact whole digits) ≡ answered (pos a)
judged_exact n whole digits a some short value less =
    if_false (length (whole ++ digits) == 0) _ _ (some_digits whole digits some)
    ∙ if_false (not (list_all (λ b. b == 48) (drop 4 digits))) _ _ (ap not (no_more digits short))
    ∙ ap (λ (k : ℕ). if nat_le (10 ^ 18) k then Err Range else answered (pos k)) value
    ∙ if_false (nat_le (10 ^ 18) a) _ _ (lt-leb (10 ^ 18) a less)

pub units_number : (a : ℕ) → a < 10 ^ 18 → number_of (units_text a) ≡ Some (pos a)
units_number a less =
    let w = a / 10000 in
    let r = a % 10000 in
    let whole = decimal w in
    let text = decimals_text r in
    let small : w < 2 ^ 64 = omega (arith, less) in
    let rest : r < 10000 = omega arith in
    let x = whole_writes w small in
    let f = fraction w r rest in
    let len = decimals_len w r text f in
    let n : digits_len (whole ++ text) ≡ length whole = digits_then whole text x.digits len.0 in
    let fits : length (whole ++ text) ≤ digits_len (whole ++ text) + 5 = omega (arith, length-append whole text, n, len.1) in
    let four : take 4 f.digits ≡ f.digits = take_all 4 f.digits f.short in
    let value : units_text_value whole f.digits ≡ a =
    ap (λ (z : List ℕ). number (whole ++ z) * 10 ^ (4 - length z)) four
    ∙ ap (λ (k : ℕ). k * 10 ^ (4 - length f.digits)) (ap (number_from_digits_after 10 0) (map-append (λ (y : ℕ). y - 48) whole f.digits) ∙ number_after_append 10 0 (values whole) (values f.digits) ∙ ap (λ (v : ℕ). number_from_digits_after 10 v (values f.digits)) x.value)
    ∙ f.value
    ∙ (let same : w * 10000 + r ≡ a = omega arith in same) in
    if_true (nat_le (length (whole ++ text)) (digits_len (whole ++ text) + 5)) (result_ok (amount_of (whole ++ text))) None (le-leb (length (whole ++ text)) (digits_len (whole ++ text) + 5) fits)
    ∙ ap (λ (p : Parts). result_ok (judged (length (whole ++ text)) p)) (text_parts w r whole text f x.digits x.some)
    ∙ ap (λ (z : Result ℤ NumberFault). result_ok z) (judged_exact (length (whole ++ text)) whole f.digits a x.some f.short value less)

numeral_of : (w r : ℕ) (whole text : List ℕ) (f : Fraction w r text) → digits_len whole ≡ length whole → 1 ≤ length whole → Numeral (whole ++ text)
numeral_of w r [] text f e some = absurd (let h : ⊥ = omega (arith, some) in h)
numeral_of w r (d ∷ ds) text f e some =
    let k = passed (is_digit d) (digits_len ds) (length ds) e in
    record {
      first = d;
      whole = ds;
      decimals = text;
      is = refl;
      digit = k.0;
      digits = k.1;
      point = ⊎_elim
          (λ (no : (text ≡ []) × (f.digits ≡ [])). inl no.0)
          (λ (yes : (text ≡ 46 ∷ f.digits) × (1 ≤ length f.digits)). inr (f.digits, yes.0, yes.1, f.all))
          f.point;
    }

pub units_numeral : (a : ℕ) → a < 10 ^ 18 → Numeral (units_text a)
units_numeral a less =
    let w = a / 10000 in
    let r = a % 10000 in
    let small : w < 2 ^ 64 = omega (arith, less) in
    let rest : r < 10000 = omega arith in
    let x = whole_writes w small in
    numeral_of w r (decimal w) (decimals_text r) (fraction w r rest) x.digits x.some
