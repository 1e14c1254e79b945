use Rattle.std.proofs.Common.{◌∙◌, length}
use Rattle.aso_outline.proofs.GraphRows.{rows_long}
use Rattle.aso_outline.proofs.RankTurns.{none_reached}
use Rattle.aso_outline.proofs.reaching.first_table.Goals as goal

pub returns : goal.returns
returns c =
    c.in_ok-reach.ensures.items_if_clones_equal (λ _ same. same)
    ∙ none_reached c.args._draft.now c.args._goal (length c.args.rows.now) (rows_long c.args._draft.now c.args.rows.now c.requires.rows)
