use Rattle.aso_trials_queries.proofs.LeafLemmas.{key_leaves}
use Rattle.aso_trials_queries.proofs.cells.key.Goals as goal

pub returns : goal.returns
returns c = key_leaves c.args.outline.now c.in_ok-key_named.field-0.items c.in_ok-key_named.ensures.leaves
