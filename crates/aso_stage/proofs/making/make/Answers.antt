use Rattle.std.proofs.Common.{◌≡◌, List, ℕ, None, rules}
use Rattle.std.specs.Prelude.{IsSome}
use Rattle.aso_num.specs.declared.status.Status.TheVariants.{Done}
use Rattle.aso_stage.specs.declared.answer.Answer.{Answer}
use Rattle.aso_catalog.specs.View.{HasRecord, IsBefore, IsTold}
use Rattle.aso_stage.specs.Create.{IsCreated}
use Rattle.aso_stage.proofs.Created.{create_leaves, created_at}
use Rattle.aso_stage.proofs.Results.{if_ok}
use Rattle.aso_stage.proofs.making.make.Goals as goal

pub returns-in-Ok-default-None-clause-crash : goal.returns-in-Ok-default-None-clause-crash
returns-in-Ok-default-None-clause-crash g c =
    let catalog = c.in-Ok-default-None.catalog in
    let opened = c.in-Ok-default-None.ensures in
    let has : HasRecord catalog None = search rules in
    create_leaves c.args.slots c.into_slots.result catalog c.publish_first-answer.new.catalog c.args.text.now c.into_slots.ensures opened.seen opened.crash opened.synced has opened.settled c.publish_first-answer.ensures.any_moment

pub returns-in-Ok-default-None-clause-created : goal.returns-in-Ok-default-None-clause-created
returns-in-Ok-default-None-clause-created g c =
    let catalog = c.in-Ok-default-None.catalog in
    let opened = c.in-Ok-default-None.ensures in
    let new = c.publish_first-answer.new.catalog in
    let end = c.into_slots.result in
    if_ok c.publish_first-answer.result
    (λ (a : Answer). a.status ≡ Done → IsTold catalog → (image : List ℕ) → IsBefore new image → IsCreated c.args.text.now image)
    (λ (a : Answer). a.status ≡ Done → IsSome (g.C.Slots.seen c.args.slots) → (image : List ℕ) → g.C.Slots.left end (g.C.Slots.moment end) image → IsCreated c.args.text.now image)
    (λ a made done. created_at c.args.slots end catalog new c.args.text.now c.into_slots.ensures opened.seen (made done))
    c.publish_first-answer.ensures.created
