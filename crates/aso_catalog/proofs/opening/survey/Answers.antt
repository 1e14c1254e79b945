use Rattle.std.proofs.Common.{◌≤◌, List, ℕ, Option, Err, length, ◌∙◌, ap, subst, arith}
use Rattle.aso_catalog.specs.declared.fault.CatalogFault.{CatalogFault}
use Rattle.std.specs.Option.{ForSome}
use Rattle.aso_catalog.specs.Image.{IsSeen}
use Rattle.aso_catalog.proofs.Since.{from_sync_then}
use Rattle.aso_catalog.specs.Opening.{IsAreaFault, IsFound, ReadsArea}
use Rattle.aso_catalog.proofs.Opened.{short_damage, first_damage, second_damage, twin_damage, some_opening}
use Rattle.aso_catalog.proofs.opening.survey.Goals as goal

pub returns-in-Err-clause-damaged : goal.returns-in-Err-clause-damaged
returns-in-Err-clause-damaged g c =
    let told = g.C.Slots.seen c.args.slots.now in
    short_damage told (g.C.Slots.extent c.args.slots.now) c.in-Err.fault c.in-Err.ensures.others (λ size e. c.in-Err.ensures.short size (ap (λ (f : CatalogFault). Err f) e)) (λ s was. g.met.C.Slots.fixed c.args.slots.now s was)

pub returns-in-Err-read_area-clause-damaged : goal.returns-in-Err-read_area-clause-damaged
returns-in-Err-read_area-clause-damaged g c =
    let told = g.C.Slots.seen c.args.slots.now in
    let room = c.in_default.ensures.size in
    let kept = c.measure.ensures.extent in
    let big : ForSome told (λ s. 262144 ≤ length s) = λ s was. let size = g.met.C.Slots.fixed c.args.slots.now s was in omega arith in
    first_damage told c.in-Err-read_area.fault (subst (λ (o : Option (List ℕ)). IsAreaFault 0 o c.in-Err-read_area.fault) c.measure.ensures.seen c.in-Err-read_area.ensures.bad) big

pub returns-in-Err-read_area-2-clause-damaged : goal.returns-in-Err-read_area-2-clause-damaged
returns-in-Err-read_area-2-clause-damaged g c =
    let told = g.C.Slots.seen c.args.slots.now in
    let room = c.in_default.ensures.size in
    let kept = c.measure.ensures.extent in
    let big : ForSome told (λ s. 262144 ≤ length s) = λ s was. let size = g.met.C.Slots.fixed c.args.slots.now s was in omega arith in
    second_damage told c.in-Err-read_area-2.fault c.in-Ok.first
    (subst (λ (o : Option (List ℕ)). ReadsArea 0 o (λ bytes. IsFound bytes c.in-Ok.first)) c.measure.ensures.seen c.in-Ok.ensures.found)
    (subst (λ (o : Option (List ℕ)). IsAreaFault 1 o c.in-Err-read_area-2.fault) (c.read_area.ensures.seen ∙ c.measure.ensures.seen) c.in-Err-read_area-2.ensures.bad) big

pub returns-in-Ok-choose-clause-found : goal.returns-in-Ok-choose-clause-found
returns-in-Ok-choose-clause-found g c =
    let told = g.C.Slots.seen c.args.slots.now in
    let room = c.in_default.ensures.size in
    let kept = c.measure.ensures.extent in
    let big : ForSome told (λ s. 262144 ≤ length s) = λ s was. let size = g.met.C.Slots.fixed c.args.slots.now s was in omega arith in
    let choice = c.in-Ok-choose.choice in
    some_opening told c.in-Ok.first c.in-Ok-read_area.second choice.current choice.layout choice.present choice.shut choice.found
    (subst (λ (o : Option (List ℕ)). ReadsArea 0 o (λ bytes. IsFound bytes c.in-Ok.first)) c.measure.ensures.seen c.in-Ok.ensures.found)
    (subst (λ (o : Option (List ℕ)). ReadsArea 1 o (λ bytes. IsFound bytes c.in-Ok-read_area.second)) (c.read_area.ensures.seen ∙ c.measure.ensures.seen) c.in-Ok-read_area.ensures.found) big c.in-Ok-choose.ensures.chosen

pub returns-in-Err-choose-clause-damaged : goal.returns-in-Err-choose-clause-damaged
returns-in-Err-choose-clause-damaged g c =
    let told = g.C.Slots.seen c.args.slots.now in
    let room = c.in_default.ensures.size in
    let kept = c.measure.ensures.extent in
    let big : ForSome told (λ s. 262144 ≤ length s) = λ s was. let size = g.met.C.Slots.fixed c.args.slots.now s was in omega arith in
    let twin = c.in-Err-choose.ensures.twin in
    twin_damage told c.in-Err-choose.layout c.in-Ok.first c.in-Ok-read_area.second
    (subst (λ (o : Option (List ℕ)). ReadsArea 0 o (λ bytes. IsFound bytes c.in-Ok.first)) c.measure.ensures.seen c.in-Ok.ensures.found)
    (subst (λ (o : Option (List ℕ)). ReadsArea 1 o (λ bytes. IsFound bytes c.in-Ok-read_area.second)) (c.read_area.ensures.seen ∙ c.measure.ensures.seen) c.in-Ok-read_area.ensures.found) twin.0 twin.1 big

pub returns-in-Ok-choose-clause-synced : goal.returns-in-Ok-choose-clause-synced
returns-in-Ok-choose-clause-synced g c =
    let seen = IsSeen (g.C.Slots.seen c.args.slots.now) in
    from_sync_then g.C.Slots.moment g.C.Slots.left c.args.slots.now c.read_area.new.slots c.read_area-2.new.slots seen
    (from_sync_then g.C.Slots.moment g.C.Slots.left c.args.slots.now c.measure.new.slots c.read_area.new.slots seen c.in_default.ensures.synced c.read_area.ensures.crash) c.read_area-2.ensures.crash
