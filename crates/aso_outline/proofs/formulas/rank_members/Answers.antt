use Rattle.std.proofs.Common.{ap, arith, length}
use Rattle.aso_outline.proofs.GraphRows.{rows_long}
use Rattle.aso_outline.proofs.formulas.rank_members.Goals as goal

pub ranks-requires-clause-short : goal.ranks-requires-clause-short
ranks-requires-clause-short c =
    omega (arith, ap length c.as_slice.ensures.value, rows_long c.args.draft.now c.in_ok-rows.rows.items c.in_ok-rows.ensures, ap length c.requires.is, c.requires.short)

pub first_wrong-requires-clause-short : goal.first_wrong-requires-clause-short
first_wrong-requires-clause-short c =
    omega (arith, ap length c.as_slice-2.ensures.value, rows_long c.args.draft.now c.in_ok-rows.rows.items c.in_ok-rows.ensures, ap length c.requires.is, c.requires.short)
