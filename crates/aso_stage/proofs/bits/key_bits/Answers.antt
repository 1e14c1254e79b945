use Rattle.std.proofs.Common.{◌≡◌, ◌∙◌, length, map, ℕ, ◌+◌, arith, sym, ap}
use Rattle.std.specs.Prelude.{sum}
use Rattle.std.specs.List.{range_with_len}
use Rattle.aso_outline.specs.Members.{data_leaves, dim_at}
use Rattle.aso_outline.specs.Rules.{bits_for, key_bits}
use Rattle.aso_outline.proofs.Sums.{sum_push}
use Rattle.aso_stage.proofs.bits.key_bits.Goals as goal

pub loop-dim-preserved : goal.loop-dim-preserved
loop-dim-preserved c =
    let f : ℕ → ℕ = λ d. bits_for (length (data_leaves (dim_at c.args.outline.now d))) in
    let more : c.from-bits.result ≡ f c.loop-dim.dim = c.from-bits.ensures ∙ (c.bits_for.ensures.value ∙ ap bits_for c.leaf_count.ensures) in
    record {
      value = ap (λ n. n + c.from-bits.result) c.loop-dim.invariant.value ∙ (ap (λ n. sum (map f (range_with_len 0 c.loop-dim.dim)) + n) more ∙ sym (sum_push f c.loop-dim.dim));
      bound = omega (arith, c.from-bits.ensures, c.bits_for.ensures.bound, c.loop-dim.invariant.bound);
    }

pub returns : goal.returns
unfolding key_bits
returns c =
    let f : ℕ → ℕ = λ d. bits_for (length (data_leaves (dim_at c.args.outline.now d))) in
    let all : c.loop-dim.dim ≡ length c.args.outline.now.dims = omega (arith, c.dims-dim-end.ensures, c.loop-dim-test.false, c.loop-dim.auto.dim-end) in
    c.loop-dim.invariant.value ∙ ap (λ n. sum (map f (range_with_len 0 n))) all
