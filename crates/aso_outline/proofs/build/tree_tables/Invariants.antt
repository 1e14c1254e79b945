use Rattle.std.proofs.Common.{◌≡◌}
use Rattle.aso_outline.specs.Tables.{AreEach, IsTreeTable, before_hier}
use Rattle.aso_outline.proofs.build.tree_tables.Given as goal

abbrev pub invariant-loop-hier : goal.invariant-loop-hier
invariant-loop-hier l = record {
  tables : AreEach (IsTreeTable l.draft l.dim) l.hier l.tables.items;
  number : l.number ≡ before_hier l.draft l.dim l.hier;
}
