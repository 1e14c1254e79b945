use Rattle.std.proofs.Common.{List, ℕ, Option, subst}
use Rattle.aso_sheettext.specs.declared.text.PartText.{PartText}
use Rattle.aso_sheettext.specs.Answer.{SaysPart}
use Rattle.aso_sheettext.specs.Texts.{part}
use Rattle.aso_sheettext.specs.Written.{IsWritten}
use Rattle.aso_sheettext.specs.Reading.{outline_with}
use Rattle.aso_sheettext.specs.Held.{outline_so_far}
use Rattle.aso_sheettext.proofs.Parts.{takes_result}
use Rattle.aso_sheettext.proofs.outline.OutlineReading.read_line.Goals as goal

pub returns-in-Ok-Some : goal.returns-in-Ok-Some
returns-in-Ok-Some c =
    let p = part c.in-Ok-Some.part in
    let written = subst (λ (o : Option PartText). SaysPart c.in-Ok.line.now o) c.in-Ok-Some.field-0-is c.in-Ok-Some.ensures in
    takes_result outline_with (outline_so_far c.args.self.now) _ p c.args.line.now c.take.result c.in-Ok.ensures.cases.1
    (subst (λ (xs : List ℕ). IsWritten p xs) c.in-Ok.ensures.cases.0 written) c.take.ensures
