use Rattle.std.proofs.Common.{arith, None}
use Rattle.std.proofs.lemmas.Str.Pattern.{strip_prefix_char}
use Rattle.aso_mdx.proofs.Parts.{past_none}
use Rattle.aso_mdx.proofs.names.past_quote.Goals as goal

pub returns-in-None-clause-value : goal.returns-in-None-clause-value
returns-in-None-clause-value c = past_none c.args.text.now (strip_prefix_char 39 c.args.text.now None c.in-None.ensures.cases (omega arith))
