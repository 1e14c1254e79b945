use Rattle.aso_machine.specs.State.{state_with}
use Rattle.aso_stage.proofs.Covering.{covers_published, covers_doubt, covers_kept, images_during}
use Rattle.aso_catalog.proofs.Views.{throughout_weaker}
use Rattle.aso_stage.proofs.committing.publish_next.Goals as goal

pub publish-requires : goal.publish-requires
publish-requires g c = λ less. record { r = c.args.next; spelled = c.requires.spelled; names = c.requires.layout; fits = c.requires.short }

pub returns-in-Ok-clause-published : goal.returns-in-Ok-clause-published
returns-in-Ok-clause-published g c = λ h cov.
    covers_published c.args.catalog.now c.publish.new.self c.args.body.now c.args.next (state_with c.args.next c.args.store.now.outline) c.requires.spelled c.requires.stands c.in-Ok.ensures.published c.in-Ok.ensures.settled

pub returns-in-Ok-clause-any_moment : goal.returns-in-Ok-clause-any_moment
returns-in-Ok-clause-any_moment g c = λ h cov.
    images_during c.args.catalog.now c.publish.new.self c.args.body.now c.args.next (state_with c.args.next c.args.store.now.outline) c.requires.spelled c.requires.stands h cov c.publish.ensures.any_moment

pub returns-in-Err-clause-doubt : goal.returns-in-Err-clause-doubt
returns-in-Err-clause-doubt g c = λ e h cov.
    covers_doubt c.args.catalog.now c.publish.new.self c.args.body.now c.args.next (state_with c.args.next c.args.store.now.outline) c.requires.spelled c.requires.stands h cov c.in-Err.ensures.keeps (c.in-Err.ensures.doubt e)

pub returns-in-Err-clause-keeps : goal.returns-in-Err-clause-keeps
returns-in-Err-clause-keeps g c = λ other h cov. covers_kept c.args.catalog.now c.publish.new.self h c.publish.ensures.told cov c.in-Err.ensures.keeps (c.in-Err.ensures.no_new_doubt other)

pub returns-in-Err-clause-any_moment : goal.returns-in-Err-clause-any_moment
returns-in-Err-clause-any_moment g c = λ h cov.
    images_during c.args.catalog.now c.publish.new.self c.args.body.now c.args.next (state_with c.args.next c.args.store.now.outline) c.requires.spelled c.requires.stands h cov c.publish.ensures.any_moment

pub returns-in-Ok-clause-past : goal.returns-in-Ok-clause-past
returns-in-Ok-clause-past g c = throughout_weaker c.args.catalog.now c.publish.new.self _ (λ x. Unit {0}) c.publish.ensures.any_moment (λ x e. tt)

pub returns-in-Err-clause-past : goal.returns-in-Err-clause-past
returns-in-Err-clause-past g c = throughout_weaker c.args.catalog.now c.publish.new.self _ (λ x. Unit {0}) c.publish.ensures.any_moment (λ x e. tt)
