use Rattle.std.proofs.Common.{sym}
use Rattle.aso_outline.proofs.FoundNames.{number_within}
use Rattle.aso_load.proofs.members.told_named.Goals as goal

pub leaf_in-requires : goal.leaf_in-requires
leaf_in-requires c = number_within c.args.outline.now c.args.name.now c.in-Some.m (sym c.in-Some.ensures)
