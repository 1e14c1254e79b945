use Rattle.std.proofs.Common.{◌∙◌, ◌||◌, eqb, ℕ, List, ap}
use Rattle.std.specs.List.{list_any}
use Rattle.aso_outline.specs.declared.row.Standing.{Standing}
use Rattle.aso_outline.specs.Graph.{reach_in}
use Rattle.aso_outline.proofs.GraphRows.{row_there}
use Rattle.aso_outline.proofs.RankTurns.{next_reached}
use Rattle.aso_outline.proofs.reaching.next_reach.Goals as goal

pub returns : goal.returns
returns c =
    let o = c.args._draft.now in
    let row = c.index-rows-number.result in
    c.any_near.ensures
    ∙ (ap (list_any (λ (k : ℕ). eqb k c.args.goal || reach_in c.args.reach.now k)) c.as_slice.ensures.value
    ∙ next_reached o c.args._turn c.args.goal c.args.number c.args.reach.now row.needs.items c.requires.reach
    (ap (λ (row : Standing × List ℕ). row.1) (row_there o c.args.rows.now c.requires.rows c.args.number row c.requires.within c.index-rows-number.is)))
