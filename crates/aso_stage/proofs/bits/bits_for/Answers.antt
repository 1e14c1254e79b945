use Rattle.std.proofs.Common.{◌≡◌, ◌^◌, ◌∙◌, length, ap, arith}
use Rattle.std.specs.Prelude.{nat_lt}
use Rattle.std.specs.List.{filter, range_with_len}
use Rattle.aso_tree.proofs.Paths.{filter_range_push}
use Rattle.std.proofs.lemmas.Grind.{common_steps}
use Rattle.aso_stage.proofs.bits.bits_for.Goals as goal

pub loop-bit-preserved : goal.loop-bit-preserved
loop-bit-preserved c = let push = filter_range_push (λ b. nat_lt (2 ^ b) c.args.count) c.loop-bit.bit in grind (arith, common_steps, push)

pub returns-clause-value : goal.returns-clause-value
returns-clause-value c =
    let at : c.loop-bit.bit ≡ 32 = omega arith in
    c.loop-bit.invariant.value ∙ ap (λ n. length (filter (λ b. nat_lt (2 ^ b) c.args.count) (range_with_len 0 n))) at
