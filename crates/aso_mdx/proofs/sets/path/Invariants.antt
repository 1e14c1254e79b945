use Rattle.std.proofs.Common.{◌≡◌, length}
use Rattle.aso_token.specs.Reads.{tokens_of, onward, read_one}
use Rattle.aso_token.specs.Words.{dot}
use Rattle.aso_mdx.specs.Grammar.{later_part}
use Rattle.aso_mdx.specs.Reading.{read_path, grown}
use Rattle.aso_mdx.proofs.sets.path.Given as goal

abbrev pub invariant-loop-after : goal.invariant-loop-after
invariant-loop-after l = read_path (tokens_of l.tokens) ≡ onward grown dot (read_one later_part) l.parts.items (tokens_of l.rest)

abbrev pub decreases-loop-after : goal.decreases-loop-after
decreases-loop-after l = length l.rest
