use Rattle.std.proofs.Common.{◌∙◌, sym}
use Rattle.aso_outline.proofs.PartLemmas.{in_no_circle}
use Rattle.aso_outline.proofs.circles.needs_itself.Goals as goal

pub returns-then-is_after_needs : goal.returns-then-is_after_needs
returns-then-is_after_needs c =
    sym (in_no_circle c.args.draft.now c.args.parts.now c.requires.order c.args.number (sym c.is_after_needs.ensures ∙ c.if-is_after_needs.true))
