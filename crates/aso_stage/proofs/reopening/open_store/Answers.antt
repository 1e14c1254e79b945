use Rattle.std.proofs.Common.{◌≡◌, Option, rules, subst, sym}
use Rattle.aso_catalog.specs.declared.record.Record.{Record}
use Rattle.aso_catalog.specs.Image.{SomeImage}
use Rattle.aso_catalog.specs.Record.{IsStorable}
use Rattle.aso_catalog.specs.View.{IsOpened}
use Rattle.aso_stage.specs.Store.{Stands}
use Rattle.aso_stage.specs.Stores.{state_of}
use Rattle.aso_stage.proofs.Standing.{opened_stands}
use Rattle.aso_stage.proofs.Reopened.{state_covers, state_synced}
use Rattle.aso_stage.proofs.Taking.{record_storable}
use Rattle.aso_stage.proofs.reopening.open_store.Goals as goal

pub returns-in-Ok-Some-clause-covers : goal.returns-in-Ok-Some-clause-covers
returns-in-Ok-Some-clause-covers g c =
    let opened = subst (λ (f : Option Record). SomeImage (g.C.Slots.seen c.args.slots) (IsOpened c.in-Ok.catalog f)) c.in-Some.is c.in-Ok.ensures.opened in
    let stands : Stands c.in-Some.r (state_of c.in-Ok-Some.store) = opened_stands c.in-Some.r c.in-Ok-Some.store (search rules) in
    state_covers c.args.slots c.in-Ok.catalog c.in-Some.r opened (state_of c.in-Ok-Some.store) stands c.in-Ok.ensures.settled

pub returns-in-Ok-Some-clause-synced : goal.returns-in-Ok-Some-clause-synced
returns-in-Ok-Some-clause-synced g c =
    let opened = subst (λ (f : Option Record). SomeImage (g.C.Slots.seen c.args.slots) (IsOpened c.in-Ok.catalog f)) c.in-Some.is c.in-Ok.ensures.opened in
    let stands : Stands c.in-Some.r (state_of c.in-Ok-Some.store) = opened_stands c.in-Some.r c.in-Ok-Some.store (search rules) in
    state_synced c.args.slots c.in-Ok.catalog c.in-Some.r opened (state_of c.in-Ok-Some.store) stands c.in-Ok.ensures.settled c.in-Ok.ensures.seen c.in-Ok.ensures.synced

pub returns-in-Ok-Some-clause-storable : goal.returns-in-Ok-Some-clause-storable
returns-in-Ok-Some-clause-storable g c =
    let opened = subst (λ (f : Option Record). SomeImage (g.C.Slots.seen c.args.slots) (IsOpened c.in-Ok.catalog f)) c.in-Some.is c.in-Ok.ensures.opened in
    let same : c.in-Ok-Some.store.saved ≡ c.in-Some.r = search rules in
    subst IsStorable (sym same) (record_storable c.in-Some.r opened.has.gives.0 opened.has.gives.2)
