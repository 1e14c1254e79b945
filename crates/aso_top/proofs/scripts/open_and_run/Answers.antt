use Rattle.std.proofs.Common.{None, refl, sym, subst}
use Rattle.aso_machine.specs.Machine.{Held, held}
use Rattle.aso_stage.specs.Stores.{state_of}
use Rattle.aso_stage.specs.Taking.{Holds}
use Rattle.aso_top.proofs.ScriptLemmas.{opened_run}
use Rattle.aso_top.proofs.scripts.open_and_run.Goals as goal

pub returns-in-Ok-clause-runs : goal.returns-in-Ok-clause-runs
returns-in-Ok-clause-runs g c =
    let opened = c.in-Ok.ensures in
    let h : Held = held (state_of c.in-Ok.store) None in
    let holds : Holds c.in-Ok.catalog c.in-Ok.store h = record { covers = opened.covers; is = refl } in
    opened_run c.args.slots c.into_slots.result c.in-Ok.catalog c.run_opened-status.new.catalog c.into_slots.ensures (state_of c.in-Ok.store) opened.seen opened.later opened.opened opened.crash opened.synced c.run_opened-status.ensures.past _ _ c.args.script.now _ _ _
    (c.run_opened-status.ensures.runs h holds)

pub returns-in-Ok-clause-same : goal.returns-in-Ok-clause-same
returns-in-Ok-clause-same g c =
    subst (λ (d : g.row.C.Denot). g.C.Slots.same c.args.slots d) (sym c.into_slots.ensures) (g.met.C.Slots.same_trans _ _ _ c.in-Ok.ensures.same c.run_opened-status.ensures.same)
