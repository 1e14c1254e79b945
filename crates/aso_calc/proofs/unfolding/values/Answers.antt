use Rattle.std.proofs.Common.{◌∙◌, List, map, sym, ap}
use Rattle.std.specs.Prelude.{Ok}
use Rattle.aso_num.specs.declared.value.Val.{Val}
use Rattle.aso_outline.specs.declared.draft.Tuple.{Tuple}
use Rattle.aso_calc.specs.Stored.{given}
use Rattle.aso_calc.specs.Values.{Outcome, value}
use Rattle.aso_calc.proofs.KnownLemmas.{first_fault, value_more}
use Rattle.aso_calc.proofs.unfolding.values.Goals as goal

pub returns-in-Err-clause-range : goal.returns-in-Err-clause-range
returns-in-Err-clause-range c =
    let f : Tuple → Outcome = value c.args.outline.now c.args.extra.now.members.items (given c.args.stored.now) in
    first_fault f c.loop-tuple.all.items c.args.tuples.now c.loop-tuple.tuple-index c.tuple-item.result c.in-Err.fault c.loop-tuple-test.true (sym c.tuple-item.is) c.loop-tuple.invariant.values c.in-Err.ensures.range

pub loop-tuple-preserved : goal.loop-tuple-preserved
loop-tuple-preserved c =
    let f : Tuple → Outcome = value c.args.outline.now c.args.extra.now.members.items (given c.args.stored.now) in
    record {
      known = c.in-Ok.ensures.known;
      values =
          ap (map (λ (x : Val). Ok x)) c.in_ok-push_value-in-Ok.ensures
          ∙ value_more f c.loop-tuple.all.items c.args.tuples.now c.loop-tuple.tuple-index c.tuple-item.result c.in-Ok.value c.loop-tuple-test.true (sym c.tuple-item.is) c.loop-tuple.invariant.values c.in-Ok.ensures.found;
    }
