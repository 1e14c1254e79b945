use Rattle.std.proofs.Common.{◌≡◌, length}
use Rattle.aso_token.specs.Reads.{tokens_of, onward, read_one}
use Rattle.aso_token.specs.Marks.{comma, name}
use Rattle.aso_formula.specs.Reading.{read_behind, grown}
use Rattle.aso_formula.proofs.reading.names.Given as goal

abbrev pub invariant-loop-after : goal.invariant-loop-after
invariant-loop-after l = read_behind l.fn.first (tokens_of l.tokens) ≡ onward grown comma (read_one name) l.all.items (tokens_of l.rest)

abbrev pub decreases-loop-after : goal.decreases-loop-after
decreases-loop-after l = length l.rest
