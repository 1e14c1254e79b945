use Rattle.aso_outline.specs.Members.{attr_tree}
use Rattle.aso_outline.proofs.Nexts.{next_within}
use Rattle.aso_outline.proofs.outline.Outline.next_carried.Goals as goal

pub returns-in-Some-clause-there : goal.returns-in-Some-clause-there
returns-in-Some-clause-there c =
    (c.requires.0, next_within c.attr_table.result.now.forest (attr_tree c.args.self.now c.args.attr) c.args.at c.in-Some.at c.attr_table.ensures.forest c.in-Some.ensures)
