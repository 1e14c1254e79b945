use Rattle.std.proofs.Common.{◌≡◌, ◌∙◌, ℕ, Vec, Err, true, map, sym, ap, arith, rules}
use Rattle.std.specs.Prelude.{ℤ, FitsSigned}
use Rattle.std.specs.Int.{w128}
use Rattle.std.specs.declared.alloc.Global.{Global}
use Rattle.std.proofs.lemmas.Int.{to_z-of_z}
use Rattle.aso_catalog.specs.declared.record.Record.{Record}
use Rattle.aso_catalog.specs.declared.fault.PublishFault.TheVariants.{Fault}
use Rattle.aso_spec.specs.Cells.{Cells, add_at}
use Rattle.aso_stage.specs.declared.store.Store.{Store}
use Rattle.aso_machine.specs.State.{committed, entry, state_with}
use Rattle.aso_stage.specs.Stores.{state_of}
use Rattle.aso_stage.proofs.Taking.{doubt_taken, failed_taken, published_taken, ready_published}
use Rattle.aso_stage.proofs.running.commit.Goals as goal

pub returns-in-Ok-clause-taken : goal.returns-in-Ok-clause-taken
returns-in-Ok-clause-taken g c = λ h line holds comes.
    let next : Record = c.in_ok-next.next in
    let before : Store = c.args.store.now in
    let after : Store = c.publish_next.new.store in
    let cells : Cells = add_at c.args.key.now c.args.amount (map entry before.saved.cells) in
    let fits : FitsSigned w128 c.args.amount = search rules in
    let same : state_with next before.outline ≡ committed (state_of before) cells =
    c.in_ok-next.ensures.state ∙ ap (λ (x : ℤ). committed (state_of before) (add_at c.args.key.now x (map entry before.saved.cells))) (to_z-of_z w128 c.args.amount fits) in
    let there : state_with next before.outline ≡ state_of after = sym (ap (λ (r : Record). state_with r after.outline) c.in-Ok.ensures.is.0 ∙ ap (state_with next) c.in-Ok.ensures.is.1) in
    published_taken c.args.catalog.now c.publish_next.new.catalog before after h holds c.args.number line cells comes (state_with next before.outline) same (c.publish_next.ensures.any_moment h holds.covers)
    c.into_bytes.result.items (c.in-Ok.ensures.published h holds.covers) there (ap (λ (v : Vec ℕ Global). v.items) c.into_bytes.ensures.value ∙ c.in_ok-done.ensures)

pub returns-in-Ok-clause-ready : goal.returns-in-Ok-clause-ready
returns-in-Ok-clause-ready g c =
    ready_published c.publish_next.new.catalog c.args.store.now c.publish_next.new.store c.in_ok-next.next c.in_ok-next.body.items c.in-Ok.ensures.is.0 c.in-Ok.ensures.is.1 c.in_ok-next.ensures.stands c.in_ok-next.ensures.spelled
    (omega (arith, c.in-Ok.ensures.layout, c.requires.ready.layout, c.in_ok-next.ensures.layout))

pub returns-in-Err-Fault-true-clause-taken : goal.returns-in-Err-Fault-true-clause-taken
returns-in-Err-Fault-true-clause-taken g c = λ h line holds comes.
    let next : Record = c.in_ok-next.next in
    let before : Store = c.args.store.now in
    let after : Store = c.publish_next.new.store in
    let cells : Cells = add_at c.args.key.now c.args.amount (map entry before.saved.cells) in
    let fits : FitsSigned w128 c.args.amount = search rules in
    let same : state_with next before.outline ≡ committed (state_of before) cells =
    c.in_ok-next.ensures.state ∙ ap (λ (x : ℤ). committed (state_of before) (add_at c.args.key.now x (map entry before.saved.cells))) (to_z-of_z w128 c.args.amount fits) in
    let doubted : c.publish_next.result ≡ Err (Fault true) = cc in
    doubt_taken c.args.catalog.now c.publish_next.new.catalog before after h holds c.args.number line cells comes (state_with next before.outline) same (c.publish_next.ensures.any_moment h holds.covers)
    c.in_ok-doubtful.doubtful.items c.in-Err-Fault-true.ensures.cause (c.publish_next.ensures.doubt doubted h holds.covers) (sym c.in-Err-Fault-true.ensures.stays) c.in_ok-doubtful.ensures

pub returns-in-Err-Fault-false-clause-taken : goal.returns-in-Err-Fault-false-clause-taken
returns-in-Err-Fault-false-clause-taken g c = λ h line holds comes.
    let next : Record = c.in_ok-next.next in
    let before : Store = c.args.store.now in
    let after : Store = c.publish_next.new.store in
    let cells : Cells = add_at c.args.key.now c.args.amount (map entry before.saved.cells) in
    let fits : FitsSigned w128 c.args.amount = search rules in
    let same : state_with next before.outline ≡ committed (state_of before) cells =
    c.in_ok-next.ensures.state ∙ ap (λ (x : ℤ). committed (state_of before) (add_at c.args.key.now x (map entry before.saved.cells))) (to_z-of_z w128 c.args.amount fits) in
    failed_taken c.args.catalog.now c.publish_next.new.catalog before after h holds c.args.number line cells comes (state_with next before.outline) same (c.publish_next.ensures.any_moment h holds.covers)
    c.in_ok-failed.failed.items c.in-Err-Fault-false.ensures.cause (c.in-Err-Fault-false.ensures.keeps (λ e. cc) h holds.covers) (sym c.in-Err-Fault-false.ensures.stays) c.in_ok-failed.ensures

pub returns-clause-taken : goal.returns-clause-taken
returns-clause-taken g c = λ h line holds comes.
    let next : Record = c.in_ok-next.next in
    let before : Store = c.args.store.now in
    let after : Store = c.publish_next.new.store in
    let cells : Cells = add_at c.args.key.now c.args.amount (map entry before.saved.cells) in
    let fits : FitsSigned w128 c.args.amount = search rules in
    let same : state_with next before.outline ≡ committed (state_of before) cells =
    c.in_ok-next.ensures.state ∙ ap (λ (x : ℤ). committed (state_of before) (add_at c.args.key.now x (map entry before.saved.cells))) (to_z-of_z w128 c.args.amount fits) in
    failed_taken c.args.catalog.now c.publish_next.new.catalog before after h holds c.args.number line cells comes (state_with next before.outline) same (c.publish_next.ensures.any_moment h holds.covers)
    c.in_ok-failed.failed.items c.in-Err-SeqEnd.ensures.cause (c.in-Err-SeqEnd.ensures.keeps (λ e. cc) h holds.covers) (sym c.in-Err-SeqEnd.ensures.stays) c.in_ok-failed.ensures
