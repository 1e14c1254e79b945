use Rattle.std.proofs.Common.{◌≡◌, ◌≤◌, map, take}
use Rattle.aso_catalog.specs.View.{TellsAlike, Throughout}
use Rattle.aso_script.specs.Lines.{line as line_of}
use Rattle.aso_machine.specs.Machine.{Held}
use Rattle.aso_stage.specs.Runs.{SoFar}
use Rattle.aso_stage.specs.Taking.{Holds, IsReady}
use Rattle.aso_stage.proofs.running.run_lines.Given as goal

abbrev pub invariant-loop-line : goal.invariant-loop-line
invariant-loop-line g l = record {
  ready : IsReady l.catalog l.store;
  number : l.number ≡ l.line-index;
  told : TellsAlike l.fn.catalog l.catalog;
  later : g.C.Slots.faults l.fn.catalog.slots ≤ g.C.Slots.faults l.catalog.slots;
  same : g.C.Slots.same l.fn.catalog.slots l.catalog.slots;
  sink : g.K.Sink.faults l.fn.out ≤ g.K.Sink.faults l.out;
  past : Throughout l.fn.catalog l.catalog (λ c. Unit {0});
  so_far : (h : Held) → Holds l.fn.catalog l.fn.store h → SoFar l.fn.catalog l.catalog l.store h (map line_of (take l.line-index l.lines)) (g.K.Sink.written l.fn.out) (g.K.Sink.written l.out) l.status;
}
