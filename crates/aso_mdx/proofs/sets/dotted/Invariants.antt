use Rattle.std.proofs.Common.{◌≡◌, length}
use Rattle.aso_token.specs.Reads.{tokens_of, ◌>>=◌}
use Rattle.aso_mdx.specs.Reading.{read_dotted, read_tails, finish}
use Rattle.aso_mdx.proofs.sets.dotted.Given as goal

abbrev pub invariant-loop-after : goal.invariant-loop-after
invariant-loop-after l = read_dotted (tokens_of l.tokens) ≡ (read_tails (tokens_of l.rest) >>= finish l.parts.items)

abbrev pub decreases-loop-after : goal.decreases-loop-after
decreases-loop-after l = length l.rest
