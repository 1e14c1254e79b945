use Rattle.aso_catalog.proofs.Fields.{numbers_of}
use Rattle.aso_catalog.proofs.reading.head_at.Goals as goal

pub returns-in_default-clause-none : goal.returns-in_default-clause-none
returns-in_default-clause-none c = λ l k o d n r h. c.in_default.ensures.none l k _ (numbers_of l k d n o r c.args.bytes.now h)
