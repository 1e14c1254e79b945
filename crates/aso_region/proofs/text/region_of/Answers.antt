use Rattle.std.proofs.Common.{◌∙◌, [], sym, ap, subst}
use Rattle.aso_axes.specs.Sets.{rows_of}
use Rattle.aso_region.specs.declared.region.Cover.{Cover}
use Rattle.aso_region.specs.Answers.{IsRegion}
use Rattle.aso_region.specs.Kept.{tables_for}
use Rattle.aso_region.proofs.CoverLemmas.{is_region, long_rows}
use Rattle.aso_region.proofs.text.region_of.Goals as goal

pub of-requires : goal.of-requires
of-requires c = long_rows c.in_ok-rows.rows c.args.tuples.now.rows (rows_of c.args.outline.now [] c.args.set.now) 100000 (c.in_ok-rows.ensures.members ∙ c.items.ensures) c.requires.tuples c.requires.taken.1

pub returns : goal.returns
returns c =
    let o = c.args.outline.now in
    let r : Cover = record { tables = c.in_ok-tables.tables; rows = c.in_ok-rows.rows } in
    subst (IsRegion o (rows_of o [] c.args.set.now)) (sym c.of.ensures)
    (is_region o (rows_of o [] c.args.set.now) r (c.in_ok-rows.ensures.members ∙ (c.items.ensures ∙ c.requires.tuples)) c.in_ok-rows.ensures.exact (c.in_ok-tables.ensures ∙ ap (tables_for o) c.items-2.ensures))
