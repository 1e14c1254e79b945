use Rattle.std.proofs.Common.{◌≡◌, take, None}
use Rattle.std.specs.List.{filter, last_or}
use Rattle.aso_outline.specs.Ranks.{at_number, is_of_dim}
use Rattle.aso_calc.proofs.operands.last_of_dim.Given as goal

abbrev pub invariant-loop-member : goal.invariant-loop-member
invariant-loop-member l = l.found ≡ last_or None (filter (at_number (is_of_dim l.dim) l.outline) (take l.member-index l.members))
