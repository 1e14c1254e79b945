use Rattle.std.proofs.Common.{◌≡◌, length, ◌+◌, ◌*◌}
use Rattle.aso_token.specs.Reads.{tokens_of, onward}
use Rattle.aso_token.specs.Marks.{comma}
use Rattle.aso_mdx.specs.Reading.{read_listed, read_nested, grown}
use Rattle.aso_mdx.proofs.sets.+sets.Given as goal

abbrev pub decreases-set : goal.decreases-set
decreases-set l = 4 * l.nested

abbrev pub decreases-items : goal.decreases-items
decreases-items l = 4 * l.nested + 1

abbrev pub decreases-braced : goal.decreases-braced
decreases-braced l = 4 * l.nested + 2

abbrev pub decreases-crossed : goal.decreases-crossed
decreases-crossed l = 4 * l.nested + 1

abbrev pub invariant-items-loop-after : goal.invariant-items-loop-after
invariant-items-loop-after l = read_listed (read_nested l.nested) (tokens_of l.tokens) ≡ onward grown comma (read_nested l.nested) l.all.items (tokens_of l.rest)

abbrev pub decreases-items-loop-after : goal.decreases-items-loop-after
decreases-items-loop-after l = length l.rest
