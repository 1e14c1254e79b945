use Rattle.std.proofs.Common.{◌≡◌, ◌∙◌, ◌+◌, ℕ, ap, arith, length, subst, sym}
use Rattle.aso_outline.specs.Members.{dim_at}
use Rattle.aso_outline.specs.Tables.{AreEach, IsTreeTable, before_hier}
use Rattle.aso_outline.proofs.NumberLemmas.{before_next_dim}
use Rattle.aso_outline.proofs.TableLemmas.{each_more, each_none}
use Rattle.aso_outline.proofs.build.tree_tables.Goals as goal

pub loop-hier-init : goal.loop-hier-init
loop-hier-init c =
    let P = IsTreeTable c.args.draft.now c.args.dim in
    record { tables = subst (AreEach P 0) (sym c.new-tables.ensures.items) (each_none P); number = c.first_root-number.ensures }

pub loop-hier-preserved : goal.loop-hier-preserved
loop-hier-preserved c =
    let P = IsTreeTable c.args.draft.now c.args.dim in
    let h = c.loop-hier.hier in
    record {
      tables = subst (AreEach P (h + 1)) (sym c.in_ok-push.ensures.items) (each_more P c.loop-hier.tables.items c.in_ok-tree_table.field-0 h c.loop-hier.invariant.tables c.in_ok-tree_table.ensures);
      number = c.behind_hier-number.ensures;
    }

pub returns : goal.returns
returns c =
    let o = c.args.draft.now in
    let d = c.args.dim in
    let at : c.loop-hier.hier ≡ length (dim_at o d).hiers = omega (arith, c.hier_count-hier-end.ensures, c.loop-hier-test.false, c.loop-hier.auto.hier-end) in
    (subst (λ (k : ℕ). AreEach (IsTreeTable o d) k c.loop-hier.tables.items) at c.loop-hier.invariant.tables, c.loop-hier.invariant.number ∙ (ap (before_hier o d) at ∙ sym (before_next_dim o d)))
