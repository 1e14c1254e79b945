use Rattle.std.proofs.Common.{◌≡◌, ◌-◌, ◌≤◌, min, map, drop}
use Rattle.std.specs.Int.Digits.{number_from_digits_after}
use Rattle.aso_num.specs.AmountText.{number}
use Rattle.aso_mdx.proofs.names.capped.Given as goal

abbrev pub invariant-loop-digit : goal.invariant-loop-digit
invariant-loop-digit l = record {
  capped : l.number ≤ 128;
  rest : min (number_from_digits_after 10 l.number (map (λ b. b - 48) (drop l.digit-index l.digits))) 128 ≡ min (number l.digits) 128;
}
