use Rattle.std.proofs.Common.{◌≡◌}
use Rattle.aso_outline.specs.Tables.{AreEach, IsAttrTable, before_attr}
use Rattle.aso_outline.proofs.build.attr_tables.Given as goal

abbrev pub invariant-loop-attr : goal.invariant-loop-attr
invariant-loop-attr l = record {
  tables : AreEach (IsAttrTable l.draft) l.attr l.tables.items;
  number : l.number ≡ before_attr l.draft l.attr;
}
