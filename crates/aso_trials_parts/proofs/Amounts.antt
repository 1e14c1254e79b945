-- Sums of small amounts.
use Rattle.std.proofs.Common.{◌≡◌, ℕ, ◌^◌, ◌<◌, ◌++◌, ◌∷◌, [], arith}
use Rattle.std.specs.Prelude.{ℤ, max, negsuc, unsigned_abs, ◌<ℤ◌, All}
use Rattle.std.proofs.lemmas.Int.{ints}
use Rattle.std.proofs.lemmas.List.Elements.{All-nil, All-cons}
use Rattle.aso_runs.specs.Runs.{Entries, greatest}

abbrev pub IsAbove : ℕ × ℤ → Type 0
IsAbove e = negsuc 170141183460469231731687303715884105727 <ℤ e.1

pub greatest_append : (xs ys : Entries) → greatest (xs ++ ys) ≡ max (greatest xs) (greatest ys)
greatest_append [] ys = omega arith
greatest_append (x ∷ xs) ys = let h = greatest_append xs ys in omega (arith, h)

one_above : (z : ℤ) → unsigned_abs z < 10 ^ 18 → negsuc 170141183460469231731687303715884105727 <ℤ z
one_above z h = omega (arith, ints)

-- each of them has a negative
pub above : (es : Entries) → greatest es < 10 ^ 18 → All IsAbove es
above [] h = All-nil IsAbove
above (e ∷ es) h = All-cons IsAbove e es (one_above e.1 (omega (arith, h))) (above es (omega (arith, h)))
