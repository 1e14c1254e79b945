use Rattle.std.proofs.Common.{arith, ◌≡◌, ◌∙◌, ◌+◌, ◌-◌, ◌/◌, ◌<◌, sym, true, false}
use Rattle.aso_outline.specs.Numbers.{seat_of}
use Rattle.aso_keys.specs.Ranges.{stands_before}
use Rattle.aso_keys.proofs.RangeLemmas.{all_low, all_high}
use Rattle.aso_keys.proofs.ranges.first_of.Goals as goal

pub loop-low-preserved-then-stands_before : goal.loop-low-preserved-then-stands_before
loop-low-preserved-then-stands_before c =
    let low = c.loop-low.low in
    let middle = low + (c.loop-low.high - low) / 2 in
    let lt : middle < c.loop-low.high = omega arith in
    let within = c.loop-low.invariant.within in
    let is : stands_before c.args.dim (seat_of c.args.outline.now middle) ≡ true = sym c.stands_before.ensures ∙ c.if-stands_before.true in
    record {
      ordered = omega (arith, lt);
      within = within;
      low = λ m below. all_low c.args.outline.now c.args.dim middle m (omega (arith, lt, within)) is below;
      high = c.loop-low.invariant.high;
    }

pub loop-low-preserved : goal.loop-low-preserved
loop-low-preserved c =
    let low = c.loop-low.low in
    let middle = low + (c.loop-low.high - low) / 2 in
    let lt : middle < c.loop-low.high = omega arith in
    let within = c.loop-low.invariant.within in
    let is : stands_before c.args.dim (seat_of c.args.outline.now middle) ≡ false = sym c.stands_before.ensures ∙ c.if-stands_before.false in
    record {
      ordered = omega arith;
      within = omega (arith, lt, within);
      low = c.loop-low.invariant.low;
      high = λ m from there. all_high c.args.outline.now c.args.dim middle m is from there;
    }
