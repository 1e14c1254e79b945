use Rattle.aso_sums.proofs.Named.{attr_dim_named}
use Rattle.aso_sums.proofs.leaves.attr_dim.Goals as goal

pub returns-clause-value : goal.returns-clause-value
returns-clause-value c =
    attr_dim_named c.args.outline.now c.args.attr c.index-items-attr.result c.as_str.result.now c.dim_named.result c.requires (rw (c.items.ensures, c.draft.ensures) at c.index-items-attr.is) c.as_str.ensures c.dim_named.ensures.value
