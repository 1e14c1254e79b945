use Rattle.std.proofs.Common.{◌<◌, ◌∙◌, ◌||◌, ℕ, Bool, sym, arith}
use Rattle.aso_outline.proofs.EachPlace.{all_in_range, one_fails, passes_more}
use Rattle.aso_rules.specs.Rules.{has}
use Rattle.aso_rules.proofs.cover.are_all_given.Goals as goal

pub returns-then-not-is_given : goal.returns-then-not-is_given
returns-then-not-is_given c =
    let test : ℕ → Bool = λ d. has c.args.shared.now d || has c.args.own.now d in
    sym (one_fails test c.args.dims 0 c.loop-dim.dim (omega arith) (omega (arith, c.loop-dim-test.true)) (sym c.is_given.ensures ∙ c.if-not-is_given.true))

pub loop-dim-preserved : goal.loop-dim-preserved
loop-dim-preserved c =
    passes_more (λ d. has c.args.shared.now d || has c.args.own.now d) c.loop-dim.dim c.loop-dim.invariant (sym c.is_given.ensures ∙ c.if-not-is_given.false)

pub returns : goal.returns
returns c =
    sym (all_in_range (λ d. has c.args.shared.now d || has c.args.own.now d) c.args.dims 0 (λ k low high. c.loop-dim.invariant k (omega (arith, high, c.loop-dim-test.false))))
