use Rattle.std.proofs.Common.{◌∙◌, sym}
use Rattle.aso_outline.proofs.HoldLemmas.{under_leaf}
use Rattle.aso_outline.proofs.holds.has_under.Goals as goal

pub returns-then-is_leaf : goal.returns-then-is_leaf
returns-then-is_leaf c =
    c.is_named.ensures ∙ sym (under_leaf c.args.members.now c.requires.tree c.args.top c.args.name.now c.requires.within (sym c.is_leaf.ensures ∙ c.if-is_leaf.true))
