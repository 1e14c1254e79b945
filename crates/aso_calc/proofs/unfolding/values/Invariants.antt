use Rattle.std.proofs.Common.{◌≡◌, map, take}
use Rattle.std.specs.Prelude.{Ok}
use Rattle.aso_calc.specs.Known.{Knows}
use Rattle.aso_calc.specs.Stored.{given, given_at}
use Rattle.aso_calc.specs.Values.{value}
use Rattle.aso_calc.proofs.unfolding.values.Given as goal

abbrev pub invariant-loop-tuple : goal.invariant-loop-tuple
invariant-loop-tuple l = record {
  known : Knows l.outline l.extra.members.items (given_at l.stored) l.known;
  values : map (λ x. Ok x) l.all.items ≡ map (value l.outline l.extra.members.items (given l.stored)) (take l.tuple-index l.tuples);
}
