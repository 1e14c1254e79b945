use Rattle.std.proofs.Common.{◌≡◌, ◌++◌, take}
use Rattle.aso_outline.specs.Ranks.{operands_in}
use Rattle.aso_outline.proofs.needs.push_atom.Given as goal

abbrev pub invariant-loop-name : goal.invariant-loop-name
invariant-loop-name l = l.needs.items ≡ l.initial.needs.items ++ operands_in l.draft l.dim (take l.name-index l.wanted)
