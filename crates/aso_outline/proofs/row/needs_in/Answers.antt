use Rattle.std.proofs.Common.{◌∙◌, ℕ, List, sym, ap, arith}
use Rattle.aso_outline.specs.declared.row.Standing.{Standing}
use Rattle.aso_outline.proofs.GraphRows.{row_there, rows_long}
use Rattle.aso_outline.proofs.RankTurns.{needs_past}
use Rattle.aso_outline.proofs.row.needs_in.Goals as goal

pub returns-then-member-rows : goal.returns-then-member-rows
returns-then-member-rows c =
    c.as_slice.ensures.value
    ∙ ap (λ (row : Standing × List ℕ). row.1) (row_there c.args._draft.now c.args.rows.now c.requires c.args.member c.index-rows-member.result c.if-member-rows.true c.index-rows-member.is)

pub returns : goal.returns
returns c =
    sym (needs_past c.args._draft.now c.args.member (omega (arith, rows_long c.args._draft.now c.args.rows.now c.requires, c.if-member-rows.false)))
