use Rattle.std.proofs.Common.{◌+◌, ◌∙◌, subst, sym}
use Rattle.aso_outline.specs.Tables.{AreEach, IsAttrTable}
use Rattle.aso_outline.proofs.NumberLemmas.{before_first_attr}
use Rattle.aso_outline.proofs.TableLemmas.{each_more, each_none}
use Rattle.aso_outline.proofs.build.attr_tables.Goals as goal

pub loop-attr-init : goal.loop-attr-init
loop-attr-init c =
    let P = IsAttrTable c.args.draft.now in
    record { tables = subst (AreEach P 0) (sym c.new-tables.ensures.items) (each_none P); number = c.requires.first ∙ sym (before_first_attr c.args.draft.now) }

pub loop-attr-preserved : goal.loop-attr-preserved
loop-attr-preserved c =
    let P = IsAttrTable c.args.draft.now in
    let a = c.loop-attr.attr in
    record {
      tables = subst (AreEach P (a + 1)) (sym c.in_ok-push.ensures.items) (each_more P c.loop-attr.tables.items c.in_ok-attr_table.field-0 a c.loop-attr.invariant.tables c.in_ok-attr_table.ensures);
      number = c.behind_attr-number.ensures;
    }
