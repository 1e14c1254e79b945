use Rattle.std.proofs.Common.{◌∙◌, ◌<◌, None, length, sym, ap, arith}
use Rattle.aso_tree.proofs.Firsts.{first_in_range, none_in_range}
use Rattle.aso_tree.proofs.FaultLemmas.{longer}
use Rattle.aso_tree.proofs.Rows.{at_list}
use Rattle.aso_outline.specs.Members.{seats}
use Rattle.aso_outline.specs.Ranks.{rank}
use Rattle.aso_outline.specs.Rules.{breaks_formulas}
use Rattle.aso_outline.proofs.GraphRows.{rows_long}
use Rattle.aso_outline.proofs.Turns.{table_long}
use Rattle.aso_outline.proofs.formulas.first_wrong.Goals as goal

pub bounds-ranks-number : goal.bounds-ranks-number
bounds-ranks-number c =
    let o = c.args.draft.now in
    omega (arith, table_long (rank o) (length (seats o)) c.args.ranks.now c.requires.ranks, rows_long o c.args.rows.now c.requires.rows, c.loop-number-test.true)

pub breaks_formulas-requires-clause-rank : goal.breaks_formulas-requires-clause-rank
breaks_formulas-requires-clause-rank c =
    let o = c.args.draft.now in
    at_list (rank o) c.args.ranks.now (length (seats o)) c.requires.ranks c.loop-number.number (omega (arith, rows_long o c.args.rows.now c.requires.rows, c.loop-number-test.true)) None

pub breaks_formulas-requires-clause-within : goal.breaks_formulas-requires-clause-within
breaks_formulas-requires-clause-within c =
    omega (arith, ap length c.requires.is, rows_long c.args.draft.now c.args.rows.now c.requires.rows, c.loop-number-test.true)

pub returns-then-breaks : goal.returns-then-breaks
returns-then-breaks c =
    let o = c.args.draft.now in
    let low : c.loop-number.number < length (seats o) = omega (arith, rows_long o c.args.rows.now c.requires.rows, c.loop-number-test.true) in
    sym (first_in_range (breaks_formulas o) (length (seats o)) c.loop-number.number low c.loop-number.invariant (sym c.in_ok-breaks.ensures ∙ c.if-breaks.true))

pub loop-number-preserved : goal.loop-number-preserved
loop-number-preserved c =
    longer (breaks_formulas c.args.draft.now) c.loop-number.number c.loop-number.invariant (sym c.in_ok-breaks.ensures ∙ c.if-breaks.false)

pub returns : goal.returns
returns c =
    let o = c.args.draft.now in
    sym (none_in_range (breaks_formulas o) (length (seats o)) (λ k low. c.loop-number.invariant k (omega (arith, low, rows_long o c.args.rows.now c.requires.rows, c.loop-number-test.false))))
