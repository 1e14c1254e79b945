use Rattle.std.proofs.Common.{sym}
use Rattle.aso_outline.proofs.FoundNames.{number_within}
use Rattle.aso_rules.proofs.known.leaf_named.Goals as goal

pub seat-requires : goal.seat-requires
seat-requires c = number_within c.args.outline.now c.args.name.now c.in-Some.m (sym c.in-Some.ensures)
