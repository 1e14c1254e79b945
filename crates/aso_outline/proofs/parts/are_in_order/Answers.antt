use Rattle.std.proofs.Common.{◌∙◌, sym, arith}
use Rattle.aso_outline.proofs.EachPlace.{passes_more}
use Rattle.aso_outline.proofs.GraphRows.{rows_long}
use Rattle.aso_outline.proofs.PartLemmas.{all_in_order}
use Rattle.aso_outline.specs.Parts.{is_in_order}
use Rattle.aso_outline.proofs.parts.are_in_order.Goals as goal

pub loop-number-preserved : goal.loop-number-preserved
loop-number-preserved c =
    passes_more (is_in_order c.args.draft.now c.args.parts.now) c.loop-number.number c.loop-number.invariant (sym c.is_in_order.ensures ∙ c.if-not-is_in_order.false)

pub returns : goal.returns
returns c _ =
    all_in_order c.args.draft.now c.args.parts.now c.loop-number.number
    (omega (arith, rows_long c.args.draft.now c.args.rows.now c.requires, c.loop-number-test.false)) c.loop-number.invariant
