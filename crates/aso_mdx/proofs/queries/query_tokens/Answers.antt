use Rattle.aso_token.specs.Reads.{tokens_of}
use Rattle.aso_mdx.specs.Grammar.{QueryTokens}
use Rattle.aso_mdx.specs.Reading.{read_query}
use Rattle.aso_mdx.proofs.QueryLaws.{query_goes, query_law}
use Rattle.aso_mdx.proofs.Answered.{found_of, only_of, fault_of}
use Rattle.aso_mdx.proofs.queries.query_tokens.Goals as goal

pub returns : goal.returns
returns c =
    let ts = tokens_of c.args.tokens.now in
    record {
      found = found_of QueryTokens query_goes read_query query_law ts c.whole.result c.whole.ensures;
      only = only_of QueryTokens query_goes read_query query_law ts c.whole.result c.whole.ensures;
      fault = fault_of QueryTokens query_goes read_query query_law ts c.whole.result c.whole.ensures;
    }
