use Rattle.std.proofs.Common.{◌≡◌, length}
use Rattle.aso_token.specs.Reads.{tokens_of, onward}
use Rattle.aso_token.specs.Marks.{comma}
use Rattle.aso_mdx.specs.Reading.{read_listed, read_path, grown}
use Rattle.aso_mdx.proofs.sets.members.Given as goal

abbrev pub invariant-loop-after : goal.invariant-loop-after
invariant-loop-after l = read_listed read_path (tokens_of l.tokens) ≡ onward grown comma read_path l.all.items (tokens_of l.rest)

abbrev pub decreases-loop-after : goal.decreases-loop-after
decreases-loop-after l = length l.rest
