use Rattle.std.proofs.Common.{rules, arith, ◌≡◌, ◌∙◌, ◌+◌, ◌-◌, ◌≤◌, ℕ, List, length, sym, ap, subst}
use Rattle.std.specs.Prelude.{Option, slice_get}
use Rattle.aso_keys.specs.Axes.{found}
use Rattle.aso_keys.specs.Ranges.{IsRangeOf}
use Rattle.aso_keys.proofs.RangeLemmas.{each_more, all_ranges, in_order}
use Rattle.aso_keys.proofs.ranges.ranges_of.Goals as goal

pub loop-at-preserved : goal.loop-at-preserved
loop-at-preserved c =
    let long = c.loop-at.invariant.long in
    record {
      long = search (rules, long, c.in_ok-push.ensures.items);
      each = each_more (λ k r. IsRangeOf c.args.outline.now c.args.dim (c.args.hier, c.args.level) (c.first_of-first.result + k) r) c.loop-at.at c.loop-at.each.items c.push.new.self.items c.range_of.result
          c.in_ok-push.ensures.items long c.range_of.ensures c.loop-at.invariant.each;
    }

pub returns : goal.returns
returns c =
    let first = c.first_of-first.result in
    let end = c.first_of-end.result in
    let le : first ≤ end =
    in_order c.args.outline.now c.args.dim first end c.first_of-first.ensures.within c.first_of-first.ensures.low c.first_of-end.ensures.high in
    let done : c.loop-at.at ≡ end - first = omega arith in
    let same : c.of.result ≡ c.loop-at.each.items = c.of.ensures in
    all_ranges c.args.outline.now c.args.dim (c.args.hier, c.args.level) end (record { first = first; each = c.of.result }) c.first_of-first.ensures.within c.first_of-first.ensures.low c.first_of-end.ensures.high
    (ap (λ (l : List (Option (ℕ × ℕ))). length l) same ∙ c.loop-at.invariant.long ∙ done)
    (λ k lt. subst (λ (l : List (Option (ℕ × ℕ))). IsRangeOf c.args.outline.now c.args.dim (c.args.hier, c.args.level) (first + k) (found (slice_get l k))) (sym same)
    (c.loop-at.invariant.each k (omega (arith, lt, done))))
