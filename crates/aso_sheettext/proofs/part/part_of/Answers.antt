use Rattle.std.proofs.Common.{lit<, None}
use Rattle.std.proofs.lemmas.Str.Pattern.{strip_prefix_char}
use Rattle.aso_sheettext.proofs.Codes.{no_part}
use Rattle.aso_sheettext.proofs.part.part_of.Goals as goal

pub returns : goal.returns
returns c =
    no_part c.args.line.now c.in_default.ensures.cases c.in_default-strip_prefix.ensures.cases (strip_prefix_char 46 c.args.line.now None c.in_default-strip_prefix-2.ensures.cases (lit< tt))
    c.in_default-strip_prefix-3.ensures.cases c.in_default-strip_prefix-4.ensures.cases c.in_default-strip_prefix-5.ensures.cases
