use Rattle.std.proofs.Common.{refl, rules}
use Rattle.aso_sums.proofs.Summing.{has_more, still_sums}
use Rattle.aso_sums.proofs.sums.Sums.add.Goals as goal

pub returns-clause-added : goal.returns-clause-added
returns-clause-added c tuples cells h =
    has_more c.args.outline.now tuples cells c.args.leaves.now c.args.amount c.in_ok-marks.marks.items c.args.self.now _ (search (rules, c.in_ok-marks.ensures)) refl refl (search (rules, c.add_where.ensures.value))
    (still_sums c.args.outline.now c.in_ok-marks.marks.items c.args.amount c.args.self.now _ c.requires.sums refl refl (search (rules, c.add_where.ensures.value)) c.add_where.ensures.within) h

pub returns-clause-keeps : goal.returns-clause-keeps
returns-clause-keeps c =
    still_sums c.args.outline.now c.in_ok-marks.marks.items c.args.amount c.args.self.now _ c.requires.sums refl refl (search (rules, c.add_where.ensures.value)) c.add_where.ensures.within
