use Rattle.std.proofs.Common.{◌∙◌, List, sym, ap}
use Rattle.std.specs.List.{fold}
use Rattle.aso_outline.specs.declared.draft.Tuple.{Tuple}
use Rattle.aso_calc.specs.Needs.{noted, reached}
use Rattle.aso_calc.proofs.BeenLemmas.{found_all, reached_more}
use Rattle.aso_calc.proofs.OnceLemmas.{needed_once}
use Rattle.aso_calc.proofs.RestLemmas.{needed_suffice}
use Rattle.aso_calc.proofs.visits.needs.Goals as goal

pub loop-tuple-preserved : goal.loop-tuple-preserved
loop-tuple-preserved c =
    let o = c.args.outline.now in
    let own = c.args.extra.now.members.items in
    let item : Tuple = c.tuple-item.result in
    record {
      lists = c.in_ok-visit_tuple.ensures.lists;
      found =
          c.in_ok-visit_tuple.ensures.found
          ∙ (ap (λ (all : List Tuple). fold noted all (reached o own item)) c.loop-tuple.invariant.found ∙ reached_more o own c.args.tuples.now c.loop-tuple.tuple-index item c.loop-tuple-test.true (sym c.tuple-item.is));
    }

pub returns-clause-suffice : goal.returns-clause-suffice
returns-clause-suffice c =
    let o = c.args.outline.now in
    let own = c.args.extra.now.members.items in
    let ts : List Tuple = c.args.tuples.now in
    let found : List Tuple = c.into_found.result.items in
    needed_suffice o own found ts (found_all o own found ts c.loop-tuple.tuple-index c.loop-tuple-test.false (c.into_found.ensures ∙ c.loop-tuple.invariant.found))

pub returns-clause-once : goal.returns-clause-once
returns-clause-once c =
    let o = c.args.outline.now in
    let own = c.args.extra.now.members.items in
    let ts : List Tuple = c.args.tuples.now in
    let found : List Tuple = c.into_found.result.items in
    needed_once o own found ts (found_all o own found ts c.loop-tuple.tuple-index c.loop-tuple-test.false (c.into_found.ensures ∙ c.loop-tuple.invariant.found))
