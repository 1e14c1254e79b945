use Rattle.aso_token.specs.Reads.{tokens_of}
use Rattle.aso_mdx.specs.Grammar.{SetTokens}
use Rattle.aso_mdx.specs.Reading.{read_nested}
use Rattle.aso_mdx.proofs.Laws.{set_goes, set_law}
use Rattle.aso_mdx.proofs.Answered.{found_of, only_of, fault_of}
use Rattle.aso_mdx.proofs.sets.set_tokens.Goals as goal

pub returns : goal.returns
returns c =
    let ts = tokens_of c.args.tokens.now in
    record {
      found = found_of SetTokens set_goes (read_nested 32) set_law ts c.whole.result c.whole.ensures;
      only = only_of SetTokens set_goes (read_nested 32) set_law ts c.whole.result c.whole.ensures;
      fault = fault_of SetTokens set_goes (read_nested 32) set_law ts c.whole.result c.whole.ensures;
    }
