use Rattle.std.proofs.Common.{List, subst, sym}
use Rattle.aso_outline.specs.declared.draft.ExtraMember.{ExtraMember}
use Rattle.aso_outline.specs.Extend.{AreOwn, IsOwn}
use Rattle.aso_outline.proofs.ExtendLemmas.{own_more}
use Rattle.aso_outline.proofs.outline.Outline.extend.Goals as goal

pub returns-in-Ok-clause-keeps : goal.returns-in-Ok-clause-keeps
returns-in-Ok-clause-keeps c own =
    let o = c.args.self.now in
    subst (λ (all : List ExtraMember). AreOwn o all) (sym c.in-Ok.ensures.taken) (own_more o c.args.extra.now.members.items c.args.member own
    (subst (λ (all : List ExtraMember). IsOwn o all c.args.member) c.as_slice.ensures.value c.in_ok-check.ensures.right))
