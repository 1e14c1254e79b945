use Rattle.std.proofs.Common.{◌∙◌, sym}
use Rattle.aso_outline.proofs.PartLemmas.{circle, leads_on, starts}
use Rattle.aso_outline.proofs.circles.is_circle.Goals as goal

pub loop-member-init : goal.loop-member-init
loop-member-init c = starts c.args.draft.now c.args.goal

pub returns-then-member-goal : goal.returns-then-member-goal
returns-then-member-goal c _ =
    circle c.args.draft.now c.args.goal _ c.loop-member.next (sym c.does_need.ensures ∙ c.if-not-does_need.false) c.loop-member.invariant c.if-member-goal.true

pub loop-member-preserved : goal.loop-member-preserved
loop-member-preserved c =
    leads_on c.args.draft.now c.args.goal _ c.loop-member.next (sym c.does_need.ensures ∙ c.if-not-does_need.false) c.loop-member.invariant
