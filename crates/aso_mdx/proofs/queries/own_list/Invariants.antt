use Rattle.std.proofs.Common.{◌≡◌, codes}
use Rattle.aso_token.specs.Reads.{tokens_of, ◌>>=◌, read_upto, passes}
use Rattle.aso_token.specs.Words.{key}
use Rattle.aso_mdx.specs.Reading.{read_own, read_own_list, put_behind}
use Rattle.aso_mdx.proofs.queries.own_list.Given as goal

abbrev pub invariant-loop-left : goal.invariant-loop-left
invariant-loop-left l = read_own_list (tokens_of l.tokens) ≡ (read_upto (passes (key (codes "member"))) read_own l.left (tokens_of l.rest) >>= put_behind l.all.items)

abbrev pub decreases-loop-left : goal.decreases-loop-left
decreases-loop-left l = l.left
