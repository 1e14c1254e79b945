use Rattle.std.proofs.Common.{◌≡◌, map, take}
use Rattle.std.specs.List.{All}
use Rattle.aso_region.specs.Kept.{AreChosen, members_of}
use Rattle.aso_region.proofs.rows.rows_of.Given as goal

abbrev pub invariant-loop-members : goal.invariant-loop-members
invariant-loop-members l = record {
  members : map members_of l.rows.items ≡ take l.members-index l.tuples;
  exact : All (AreChosen l.outline) l.rows.items;
}
