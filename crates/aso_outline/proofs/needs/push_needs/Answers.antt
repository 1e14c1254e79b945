use Rattle.std.proofs.Common.{◌∙◌, sym}
use Rattle.aso_outline.proofs.GraphRows.{within_tree}
use Rattle.aso_outline.proofs.needs.push_needs.Goals as goal

pub push_children-requires-clause-placed : goal.push_children-requires-clause-placed
push_children-requires-clause-placed c = within_tree c.args.draft.now c.args.seat (sym c.is_label.ensures ∙ c.if-is_label.false) c.requires.placed
