use Rattle.aso_gate.specs.Passes.{IsPassOf, IsIdle}
use Rattle.aso_trials_gate.proofs.pins.sweep.Given as goal

abbrev pub invariant-loop : goal.invariant-loop
invariant-loop g l = record {
  own : IsPassOf (λ _. tt) l.gate l.pass;
  idle : IsIdle l.pass;
}
