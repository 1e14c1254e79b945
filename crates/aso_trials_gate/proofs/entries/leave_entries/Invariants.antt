use Rattle.aso_gate.specs.Passes.{IsPassOf, IsFree}
use Rattle.aso_trials_gate.proofs.entries.leave_entries.Given as goal

abbrev pub invariant-loop-before : goal.invariant-loop-before
invariant-loop-before g l = record {
  own : IsPassOf (λ _. tt) l.gate l.pass;
  free : IsFree l.pass;
}
