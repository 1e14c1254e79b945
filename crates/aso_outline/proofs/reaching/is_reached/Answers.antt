use Rattle.std.proofs.Common.{◌∙◌, Bool, List, ap}
use Rattle.aso_outline.specs.Graph.{reach_in}
use Rattle.aso_outline.proofs.RankTurns.{itself}
use Rattle.aso_outline.proofs.reaching.is_reached.Goals as goal

pub returns : goal.returns
returns c =
    c.reach_in.ensures
    ∙ (ap (λ (xs : List Bool). reach_in xs c.args.number) c.as_slice.ensures.value ∙ itself c.args.draft.now c.args.number c.in_ok-reach.reach.items c.in_ok-reach.ensures)
