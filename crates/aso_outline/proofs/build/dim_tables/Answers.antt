use Rattle.std.proofs.Common.{◌+◌, subst, sym}
use Rattle.aso_outline.specs.Tables.{AreEach, IsDimTable}
use Rattle.aso_outline.proofs.NumberLemmas.{before_first_dim}
use Rattle.aso_outline.proofs.TableLemmas.{each_more, each_none}
use Rattle.aso_outline.proofs.build.dim_tables.Goals as goal

pub loop-dim-init : goal.loop-dim-init
loop-dim-init c =
    let P = IsDimTable c.args.draft.now in
    record { tables = subst (AreEach P 0) (sym c.new-tables.ensures.items) (each_none P); number = sym (before_first_dim c.args.draft.now) }

pub loop-dim-preserved : goal.loop-dim-preserved
loop-dim-preserved c =
    let P = IsDimTable c.args.draft.now in
    let d = c.loop-dim.dim in
    record {
      tables = subst (AreEach P (d + 1)) (sym c.in_ok-push.ensures.items) (each_more P c.loop-dim.tables.items c.in_ok-table.table d c.loop-dim.invariant.tables c.in_ok-table.ensures);
      number = c.in_ok-table.ensures.end;
    }
