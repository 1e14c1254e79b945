use Rattle.std.proofs.Common.{◌≡◌, ℕ, ◌+◌, ◌-◌, length}
use Rattle.aso_outtext.specs.Tables.{last_in}
use Rattle.aso_outtext.proofs.drafting.lengthen.Given as goal

abbrev pub invariant-loop-last : goal.invariant-loop-last
invariant-loop-last l = (e : ℕ) → last_in l.last.items e ≡ last_in l.initial.last.items e

abbrev pub decreases-loop-last : goal.decreases-loop-last
decreases-loop-last l = l.depth + 1 - length l.last.items
