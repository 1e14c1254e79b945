use Rattle.std.proofs.Common.{◌≡◌, take}
use Rattle.aso_region.specs.Kept.{AreChosen, members_of}
use Rattle.aso_region.proofs.rows.row_of.Given as goal

abbrev pub invariant-loop-m : goal.invariant-loop-m
invariant-loop-m l = record {
  members : members_of l.row.items ≡ take l.m-index l.members;
  exact : AreChosen l.outline l.row.items;
}
