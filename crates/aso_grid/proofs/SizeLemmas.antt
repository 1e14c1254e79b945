-- Which of the sizes is the first that is too great.
use Rattle.std.specs.Prelude.{nat_lt}
use Rattle.std.specs.Option.{option_map}
use Rattle.std.specs.List.{find as first}
use Rattle.std.proofs.Common.{◌≡◌, ◌∙◌, ℕ, ◌*◌, ◌^◌, ◌<◌, ◌≤◌, Bool, true, false, cond, [], ◌∷◌, Option, Some, None, refl, sym, ap, arith}
use Rattle.std.proofs.lemmas.Bool.{le-ltb, lt-ltb, ltb-false}
use Rattle.aso_axes.specs.Answers.{counted}
use Rattle.aso_grid.specs.Plans.{excess}

-- a count that isn't too great is exact
exact : (c n : ℕ) → n ≡ counted c → n ≤ 100000 → c ≡ n
exact c n is le = omega (arith, is, le)

over : (c n : ℕ) → n ≡ counted c → 100000 < n → 100000 < c
over c n is more = omega (arith, is, more)

at_columns : (c r : ℕ) (b : Bool) → nat_lt 100000 c ≡ b → excess c r ≡ cond b (Some c) (first (nat_lt 100000) (r ∷ r * c ∷ []))
at_columns c r b is = ap (λ (x : Bool). cond x (Some c) (first (nat_lt 100000) (r ∷ r * c ∷ []))) is

at_rows : (c r : ℕ) (b : Bool) → nat_lt 100000 r ≡ b → first (nat_lt 100000) (r ∷ r * c ∷ []) ≡ cond b (Some r) (first (nat_lt 100000) (r * c ∷ []))
at_rows c r b is = ap (λ (x : Bool). cond x (Some r) (first (nat_lt 100000) (r * c ∷ []))) is

at_cells : (n : ℕ) (b : Bool) → nat_lt 100000 n ≡ b → first (nat_lt 100000) (n ∷ []) ≡ cond b (Some n) None
at_cells n b is = ap (λ (x : Bool). cond x (Some n) None) is

module _ (c r n m : ℕ) (columns : n ≡ counted c) (rows : m ≡ counted r) where
  pub over_columns : 100000 < n → Some n ≡ option_map counted (excess c r)
  over_columns more =
      ap Some columns ∙ sym (ap (option_map counted) (at_columns c r true (lt-ltb 100000 c (over c n columns more))))

  pub over_rows : n ≤ 100000 → 100000 < m → Some m ≡ option_map counted (excess c r)
  over_rows le more =
      let few : nat_lt 100000 c ≡ false = le-ltb 100000 c (omega (arith, exact c n columns le, le)) in
      ap Some rows ∙ sym (ap (option_map counted) (at_columns c r false few ∙ at_rows c r true (lt-ltb 100000 r (over r m rows more))))

  module _ (few : n ≤ 100000) (low : m ≤ 100000) where
    same : r * c ≡ m * n
    same = ap (λ (x : ℕ). x * c) (exact r m rows low) ∙ ap (λ (x : ℕ). m * x) (exact c n columns few)

    past : excess c r ≡ first (nat_lt 100000) (r * c ∷ [])
    past =
        at_columns c r false (le-ltb 100000 c (omega (arith, exact c n columns few, few)))
        ∙ at_rows c r false (le-ltb 100000 r (omega (arith, exact r m rows low, low)))

    pub over_cells : m * n < 2 ^ 64 → 100000 < m * n → Some (m * n) ≡ option_map counted (excess c r)
    over_cells small more =
        let e : counted (r * c) ≡ m * n = omega (arith, same, small) in
        ap Some (sym e) ∙ sym (ap (option_map counted) (past ∙ at_cells (r * c) true (lt-ltb 100000 (r * c) (omega (arith, same, more)))))

    pub none_over : m * n ≤ 100000 → None ≡ option_map counted (excess c r)
    none_over le = sym (ap (option_map counted) (past ∙ at_cells (r * c) false (le-ltb 100000 (r * c) (omega (arith, same, le)))))

-- ---- where none is too great

some_not : {X : Type 0} (x : X) (o : Option X) (b : Bool) → cond b (Some x) o ≡ None → b ≡ false
some_not x o true e = cc
some_not x o false e = refl

pub few_columns : (c r : ℕ) → excess c r ≡ None → c ≤ 100000
few_columns c r e = ltb-false 100000 c (some_not c (first (nat_lt 100000) (r ∷ r * c ∷ [])) (nat_lt 100000 c) e)

pub few_rows : (c r : ℕ) → excess c r ≡ None → r ≤ 100000
few_rows c r e =
    let rest = sym (at_columns c r false (le-ltb 100000 c (few_columns c r e))) ∙ e in
    ltb-false 100000 r (some_not r (first (nat_lt 100000) (r * c ∷ [])) (nat_lt 100000 r) rest)
