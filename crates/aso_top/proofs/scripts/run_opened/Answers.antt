use Rattle.std.proofs.Common.{◌∙◌, List, ℕ, Option, ap, refl, rules, sym, subst}
use Rattle.aso_num.specs.declared.status.Status.TheVariants.{Refused, NoMemory}
use Rattle.aso_disk.specs.Causes.{Rose}
use Rattle.aso_script.specs.Script.{script_lines}
use Rattle.aso_catalog.specs.declared.catalog.Catalog.{Catalog}
use Rattle.aso_catalog.specs.View.{IsTold, device_of}
use Rattle.aso_stage.specs.Runs.{Ran, left_of, now_of}
use Rattle.aso_top.specs.Lines.{memory_line}
use Rattle.aso_top.specs.Ends.{Ends}
use Rattle.aso_top.specs.Scripts.{RunsScript}
use Rattle.aso_top.proofs.ScriptLemmas.{no_script, not_read, run_causes, script_runs}
use Rattle.aso_top.proofs.scripts.run_opened.Goals as goal

pub returns-in-Ok-clause-runs : goal.returns-in-Ok-clause-runs
returns-in-Ok-clause-runs g c = λ h holds.
    let catalog = c.args.catalog.now in
    no_script (IsTold catalog) (left_of catalog) (now_of catalog h) (Rose (g.L.Library.faults c.args.library.now) (g.L.Library.faults c.text.new.self)) (g.L.Library.texts c.args.library.now) c.args.script.now (g.K.Sink.written c.args.out.now) (g.K.Sink.written c.deliver-in-Ok.new.out) c.deliver-in-Ok.result (search rules)
    (subst (λ (l : List ℕ). Ends (g.K.Sink.written c.args.out.now) (g.K.Sink.written c.deliver-in-Ok.new.out) Refused c.deliver-in-Ok.result l) (c.deref.ensures.value ∙ c.in-Ok.ensures) c.deliver-in-Ok.ensures.ends)

pub returns-in-Ok-run_text-clause-runs : goal.returns-in-Ok-run_text-clause-runs
returns-in-Ok-run_text-clause-runs g c = λ h holds.
    let old = c.args.catalog.now in
    let new = c.run_text.new.catalog in
    let ran = subst (λ (l : List ℕ). Ran (IsTold old) (left_of new) (script_lines l) (now_of old h) (g.C.Slots.moment (device_of new)) (g.C.Slots.faults (device_of new)) (g.K.Sink.written c.args.out.now) (g.K.Sink.written c.run_text.new.out) c.in-Ok-run_text.ended)
    c.deref-in-Ok-Some.ensures.value (c.in-Ok-run_text.ensures.ran h holds) in
    script_runs (IsTold old) (left_of new) (now_of old h) (Rose (g.L.Library.faults c.args.library.now) (g.L.Library.faults c.text.new.self)) (g.L.Library.texts c.args.library.now) c.args.script.now (g.K.Sink.written c.args.out.now) (g.K.Sink.written c.run_text.new.out) c.ended_as.result
    (g.C.Slots.moment (device_of new)) (g.C.Slots.faults (device_of new)) c.in-Ok-Some.text.items c.in-Ok-run_text.ended (search rules) ran c.ended_as.ensures

pub returns-in-Ok-run_text-clause-causes : goal.returns-in-Ok-run_text-clause-causes
returns-in-Ok-run_text-clause-causes g c = λ h holds.
    let old = c.args.catalog.now in
    let new = c.run_text.new.catalog in
    run_causes (IsTold old) (left_of new) (script_lines c.deref-in-Ok-Some.result.now) (now_of old h) (g.C.Slots.moment (device_of new)) (g.C.Slots.faults (device_of new)) (g.K.Sink.written c.args.out.now) (g.K.Sink.written c.run_text.new.out) c.in-Ok-run_text.ended c.ended_as.result
    (g.L.Library.faults c.args.library.now) (g.L.Library.faults c.text.new.self) (g.K.Sink.faults c.args.out.now) (g.K.Sink.faults c.run_text.new.out) (c.in-Ok-run_text.ensures.ran h holds) c.ended_as.ensures c.in-Ok-run_text.ensures.cause

pub returns-clause-runs : goal.returns-clause-runs
returns-clause-runs g c = λ h holds.
    let old = c.args.catalog.now in
    let stays = c.in-Err-run_text.ensures.stays in
    let failed = Rose (g.L.Library.faults c.args.library.now) (g.L.Library.faults c.text.new.self) in
    let ends = subst (λ (o : Option (List ℕ)). Ends o (g.K.Sink.written c.deliver-in-Err-run_text.new.out) NoMemory c.deliver-in-Err-run_text.result memory_line) (ap g.K.Sink.written stays.1) c.deliver-in-Err-run_text.ensures.ends in
    subst (λ (x : Catalog g.row.C.Denot g.C.Slots). RunsScript (IsTold old) (left_of x) (now_of old h) (g.C.Slots.moment (device_of x)) (g.C.Slots.faults (device_of x)) failed (g.L.Library.texts c.args.library.now) c.args.script.now (g.K.Sink.written c.args.out.now) (g.K.Sink.written c.deliver-in-Err-run_text.new.out) c.deliver-in-Err-run_text.result)
    (sym stays.0)
    (not_read (IsTold old) (left_of old) (now_of old h) failed (g.L.Library.texts c.args.library.now) c.args.script.now (g.K.Sink.written c.args.out.now) (g.K.Sink.written c.deliver-in-Err-run_text.new.out) c.deliver-in-Err-run_text.result NoMemory memory_line refl ends)
