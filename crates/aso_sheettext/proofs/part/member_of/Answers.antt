use Rattle.std.proofs.Common.{lit<, None}
use Rattle.std.proofs.lemmas.Str.Pattern.{strip_prefix_char}
use Rattle.aso_sheettext.proofs.Codes.{dots_end}
use Rattle.aso_sheettext.proofs.part.member_of.Goals as goal

pub returns : goal.returns
returns c =
    let dots = c.loop-deeper.invariant.0 in
    dots_end c.loop-deeper.depth dots.0 c.args.text.now c.loop-deeper.name.now dots.1 dots.2 (strip_prefix_char 46 c.loop-deeper.name.now None c.in_default.ensures.cases (lit< tt))
