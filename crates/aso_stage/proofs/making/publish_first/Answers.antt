use Rattle.std.proofs.Common.{List, ℕ, sym, subst}
use Rattle.aso_stage.specs.Images.{Records}
use Rattle.aso_machine.specs.State.{new_store}
use Rattle.aso_stage.proofs.Created.{nothing_made, made_after, made_images}
use Rattle.aso_stage.proofs.making.publish_first.Goals as goal

pub returns-in_err-line-clause-any_moment : goal.returns-in_err-line-clause-any_moment
returns-in_err-line-clause-any_moment g c = nothing_made c.args.catalog.now c.args.text.now c.requires.record c.requires.settled

pub returns-in_err-done-clause-any_moment : goal.returns-in_err-done-clause-any_moment
returns-in_err-done-clause-any_moment g c = nothing_made c.args.catalog.now c.args.text.now c.requires.record c.requires.settled

pub returns-in_err-failed-clause-any_moment : goal.returns-in_err-failed-clause-any_moment
returns-in_err-failed-clause-any_moment g c = nothing_made c.args.catalog.now c.args.text.now c.requires.record c.requires.settled

pub returns-in_err-body-clause-any_moment : goal.returns-in_err-body-clause-any_moment
returns-in_err-body-clause-any_moment g c = nothing_made c.args.catalog.now c.args.text.now c.requires.record c.requires.settled

pub returns-in-Ok-clause-any_moment : goal.returns-in-Ok-clause-any_moment
returns-in-Ok-clause-any_moment g c =
    let records = subst (λ (b : List ℕ). Records b (new_store c.args.text.now c.args.outline.now)) (sym c.deref.ensures.value) c.in_ok-body.ensures.records in
    made_images c.args.catalog.now c.publish.new.self c.args.text.now c.args.outline.now c.deref.result.now c.requires.outline records c.requires.record c.requires.settled c.publish.ensures.any_moment

pub returns-in-Ok-clause-created : goal.returns-in-Ok-clause-created
returns-in-Ok-clause-created g c = λ done told image before.
    let records = subst (λ (b : List ℕ). Records b (new_store c.args.text.now c.args.outline.now)) (sym c.deref.ensures.value) c.in_ok-body.ensures.records in
    made_after c.args.catalog.now c.publish.new.self c.args.text.now c.args.outline.now c.deref.result.now c.requires.outline records c.publish.ensures.told c.in-Ok.ensures.published c.in-Ok.ensures.settled told image before

pub returns-clause-any_moment : goal.returns-clause-any_moment
returns-clause-any_moment g c =
    let records = subst (λ (b : List ℕ). Records b (new_store c.args.text.now c.args.outline.now)) (sym c.deref.ensures.value) c.in_ok-body.ensures.records in
    made_images c.args.catalog.now c.publish.new.self c.args.text.now c.args.outline.now c.deref.result.now c.requires.outline records c.requires.record c.requires.settled c.publish.ensures.any_moment
