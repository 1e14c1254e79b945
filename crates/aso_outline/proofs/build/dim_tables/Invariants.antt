use Rattle.std.proofs.Common.{◌≡◌}
use Rattle.aso_outline.specs.Tables.{AreEach, IsDimTable, before_dim}
use Rattle.aso_outline.proofs.build.dim_tables.Given as goal

abbrev pub invariant-loop-dim : goal.invariant-loop-dim
invariant-loop-dim l = record {
  tables : AreEach (IsDimTable l.draft) l.dim l.tables.items;
  number : l.number ≡ before_dim l.draft l.dim;
}
