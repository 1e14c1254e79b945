use Rattle.std.specs.List.{All}
use Rattle.std.proofs.Common.{◌≡◌, ◌∙◌, ◌++◌, ℕ, List, length, ap, sym, subst}
use Rattle.aso_grid.specs.Grids.{is_column_kept, is_row_kept, kept_columns, kept_rows}
use Rattle.aso_grid.specs.Lines.{IsBelow, head_line}
use Rattle.aso_grid.proofs.LineLemmas.{are_below, lines_made}
use Rattle.aso_grid.proofs.printing.lines_of.Goals as goal

pub put_rows-requires-clause-rows : goal.put_rows-requires-clause-rows
put_rows-requires-clause-rows c =
    let p = c.args.plan.now in
    subst (All (IsBelow (length p.rows.rows))) (sym c.requires.rows) (are_below (is_row_kept p c.args.values.now) p.rows.rows)

pub put_rows-requires-clause-columns : goal.put_rows-requires-clause-columns
put_rows-requires-clause-columns c =
    let p = c.args.plan.now in
    subst (All (IsBelow (length p.columns.rows))) (sym c.requires.columns) (are_below (is_column_kept p c.args.values.now) p.columns.rows)

pub returns : goal.returns
returns c =
    let o = c.args.outline.now in
    let own = c.args.own.now in
    let p = c.args.plan.now in
    let values = c.args.values.now in
    let columns = c.args.columns.now in
    let head : c.put_head.new.out.items ≡ head_line o own p.columns.rows columns =
    c.in_ok-put_head.ensures
    ∙ (ap (λ (xs : List ℕ). xs ++ head_line o own c.items.result.now columns) c.new-text.ensures.items
    ∙ ap (λ (ts : List (List ℕ)). head_line o own ts columns) c.items.ensures) in
    lines_made o own p values columns c.args.rows.now (kept_rows p values) (kept_columns p values) c.put_head.new.out.items c.put_rows.new.out.items
    c.requires.columns c.requires.rows head c.in_ok-put_rows.ensures
