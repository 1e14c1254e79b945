use Rattle.std.proofs.Common.{true}
use Rattle.aso_token.specs.Reads.{tokens_of}
use Rattle.aso_token.specs.Cutting.{cut}
use Rattle.aso_token.proofs.Wholes.{text_one}
use Rattle.aso_mdx.specs.Grammar.{QueryTokens}
use Rattle.aso_mdx.specs.Reading.{read_query}
use Rattle.aso_mdx.proofs.QueryLaws.{query_goes, query_law}
use Rattle.aso_mdx.proofs.single.spells_one_query.Goals as goal

pub returns : goal.returns
returns c = λ text q r h k. text_one QueryTokens query_goes read_query query_law (tokens_of (cut true text).placed) q r h.1 k.1
