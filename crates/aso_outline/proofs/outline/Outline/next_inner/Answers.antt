use Rattle.aso_outline.specs.Members.{dim_at, tree}
use Rattle.aso_outline.proofs.Nexts.{next_within}
use Rattle.aso_outline.proofs.outline.Outline.next_inner.Goals as goal

pub returns-in-Some-clause-there : goal.returns-in-Some-clause-there
returns-in-Some-clause-there c =
    let there = c.requires.there in
    (there.0, there.1, next_within c.tree_table.result.now.forest (tree (dim_at c.args.self.now c.args.dim) c.args.hier) c.args.at c.in-Some.at c.tree_table.ensures.forest c.in-Some.ensures)
