use Rattle.std.proofs.Common.{◌≡◌, ◌∙◌, ◌<◌, ℕ, Bool, length, sym, ap, arith}
use Rattle.std.specs.Prelude.{slice_index}
use Rattle.std.specs.List.{filter, range_with_len}
use Rattle.aso_calc.specs.Values.{is_computed_at, last_greatest, order_at}
use Rattle.aso_calc.proofs.Choices.{one_more, picked_within}
use Rattle.aso_calc.proofs.choice.unfolded.Goals as goal

pub loop-at-preserved : goal.loop-at-preserved
loop-at-preserved c =
    let o = c.args.outline.now in
    let own = c.args.extra.now.members.items in
    let base = c.args.base.now in
    let h = one_more (λ d. order_at o own (slice_index base d)) (λ d. is_computed_at o (slice_index base d)) c.loop-at.at c.loop-at.most c.loop-at.best (c.loop-at.invariant.most, c.loop-at.invariant.best) c.better-next.result c.better-next.ensures in
    record {
      most = h.0;
      within = picked_within c.loop-at.at (is_computed_at o (slice_index base c.loop-at.at)) (order_at o own (slice_index base c.loop-at.at)) c.loop-at.most c.loop-at.best c.loop-at.invariant.within c.better-next.result c.better-next.ensures;
      best = h.1;
    }

pub returns-clause-value : goal.returns-clause-value
returns-clause-value c =
    let o = c.args.outline.now in
    let own = c.args.extra.now.members.items in
    let base = c.args.base.now in
    c.loop-at.invariant.best ∙ ap (λ (n : ℕ). last_greatest (λ d. order_at o own (slice_index base d)) (filter (λ d. is_computed_at o (slice_index base d)) (range_with_len 0 n))) (omega (arith, c.loop-at.auto.at-end, c.loop-at-test.false))
