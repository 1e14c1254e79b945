use Rattle.std.proofs.Common.{sym, subst}
use Rattle.aso_outline.specs.Parts.{AreInOrder}
use Rattle.aso_outline.proofs.PartLemmas.{none_in_order}
use Rattle.aso_outline.proofs.parts.no_parts.Goals as goal

pub returns : goal.returns
returns c = subst (AreInOrder c.args._draft.now) (sym c.new.ensures.items) (none_in_order c.args._draft.now)
