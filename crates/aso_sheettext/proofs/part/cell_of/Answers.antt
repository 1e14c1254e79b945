use Rattle.aso_sheettext.specs.Texts.{names}
use Rattle.aso_sheettext.proofs.Codes.{no_cell, popped, no_amount}
use Rattle.aso_sheettext.proofs.part.cell_of.Goals as goal

pub returns : goal.returns
returns c =
    let rest = c.pop.new.self.items in
    let amount = c.in-Some.amount in
    no_cell c.args.text.now amount.now (names rest) (popped c.in_ok-names.names.items rest amount c.args.text.now c.in_ok-names.ensures c.in-Some.ensures.items)
    (λ d same some good. no_amount amount.now c.parse_amount.result c.in-Err.field-0 c.parse_amount.ensures c.in-Err.is d.amount good)
