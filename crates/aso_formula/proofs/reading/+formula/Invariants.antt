use Rattle.std.proofs.Common.{◌≡◌, length, ◌+◌, ◌*◌}
use Rattle.aso_token.specs.Reads.{tokens_of, onward}
use Rattle.aso_formula.specs.Formula.{sum_mark, product_mark, operated}
use Rattle.aso_formula.specs.Reading.{read_term, read_sum, read_factor}
use Rattle.aso_formula.proofs.reading.+formula.Given as goal

abbrev pub decreases-factor : goal.decreases-factor
decreases-factor l = 6 * l.nested

abbrev pub decreases-inside : goal.decreases-inside
decreases-inside l = 6 * l.nested + 3

abbrev pub decreases-sum : goal.decreases-sum
decreases-sum l = 6 * l.nested + 2

abbrev pub decreases-term : goal.decreases-term
decreases-term l = 6 * l.nested + 1

abbrev pub invariant-sum-loop-op : goal.invariant-sum-loop-op
invariant-sum-loop-op l = read_sum (read_factor l.nested) (tokens_of l.tokens) ≡ onward operated sum_mark (read_term (read_factor l.nested)) l.left (tokens_of l.rest)

abbrev pub decreases-sum-loop-op : goal.decreases-sum-loop-op
decreases-sum-loop-op l = length l.rest

abbrev pub invariant-term-loop-op : goal.invariant-term-loop-op
invariant-term-loop-op l = read_term (read_factor l.nested) (tokens_of l.tokens) ≡ onward operated product_mark (read_factor l.nested) l.left (tokens_of l.rest)

abbrev pub decreases-term-loop-op : goal.decreases-term-loop-op
decreases-term-loop-op l = length l.rest

abbrev pub decreases-negated : goal.decreases-negated
decreases-negated l = 6 * l.nested + 1

abbrev pub decreases-closed : goal.decreases-closed
decreases-closed l = 6 * l.nested + 4
