use Rattle.std.proofs.Common.{◌≡◌, ◌∙◌, ◌+◌, ◌++◌, ◌∷◌, [], ap, map, subst, sym, take}
use Rattle.std.specs.List.{list_all}
use Rattle.std.proofs.lemmas.List.{map_more}
use Rattle.aso_sheettext.specs.Texts.{cell, names}
use Rattle.aso_sheettext.specs.declared.text.CellText.{CellText}
use Rattle.aso_spec.specs.Cells.{Cells, Key, add_at, summed}
use Rattle.aso_spec.specs.Named.{key_named}
use Rattle.aso_cellnames.specs.Leaves.{are_leaves, leaf_counts}
use Rattle.aso_eval.specs.Entries.{AreAtLeaves, cells_in}
use Rattle.aso_eval.specs.Sheets.{cells_of}
use Rattle.aso_eval.proofs.CellLemmas.{cells_more, leaves_more}
use Rattle.aso_eval.proofs.cells.sums_of.Goals as goal

pub loop-line-init : goal.loop-line-init
unfolding summed
loop-line-init c = record {
  cells = ap cells_in c.new-cells.ensures.empty;
  leaves = ap (λ (es : Cells). list_all (λ d. are_leaves (leaf_counts c.args.outline.now) d.0) es) (ap cells_in c.new-cells.ensures.empty);
}

pub loop-line-preserved : goal.loop-line-preserved
loop-line-preserved c =
    let o = c.args.outline.now in
    let lines = c.args.lines.now in
    let i = c.loop-line.line-index in
    let line : CellText = c.line-item.result in
    let key : Key = c.in_ok-key.key.items in
    let old = cells_in c.loop-line.cells.entries in
    let new = cells_in c.add.new.cells.entries in
    let made = c.in_ok-add.ensures in
    let named : key ≡ key_named o (names line.names.items) = c.in_ok-key.ensures.key ∙ ap (λ ns. key_named o (names ns)) c.deref.ensures.value in
    let more : map cell (take (i + 1) lines) ≡ map cell (take i lines) ++ cell line ∷ [] =
    map_more cell lines i line c.loop-line-test.true ∙ ap (λ (x : CellText). map cell (take i lines) ++ cell x ∷ []) (sym c.line-item.is) in
    record {
      cells = cells_more o (map cell (take i lines)) (cell line) old new c.loop-line.invariant.cells (made ∙ ap (λ (k : Key). add_at k line.amount old) named) ∙ ap (cells_of o) (sym more);
      leaves = subst (AreAtLeaves o) (sym made) (leaves_more (are_leaves (leaf_counts o)) key line.amount old c.in_ok-key.ensures.leaves c.loop-line.invariant.leaves);
    }
