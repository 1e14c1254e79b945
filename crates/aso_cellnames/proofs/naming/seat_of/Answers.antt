use Rattle.std.proofs.Common.{◌∙◌, ap, sym, Some}
use Rattle.std.specs.Prelude.{slice_get}
use Rattle.std.specs.Option.{option_and_then}
use Rattle.aso_outline.specs.declared.seat.Seat.{Seat}
use Rattle.aso_outline.specs.Members.{seats}
use Rattle.aso_outline.proofs.FoundNames.{number_within}
use Rattle.aso_cellnames.proofs.Numbered.{named_by_number}
use Rattle.aso_cellnames.proofs.Seats.{got_some}
use Rattle.aso_cellnames.proofs.naming.seat_of.Goals as goal

pub seat-requires : goal.seat-requires
seat-requires c = number_within c.args.outline.now c.args.name.now c.in-Some.number (sym c.find.ensures ∙ c.in-Some.is)

pub returns-in-Some : goal.returns-in-Some
returns-in-Some c =
    let o = c.args.outline.now in
    ap (λ (s : Seat). Some s) c.seat.ensures.value ∙ got_some (seats o) c.in-Some.number (number_within o c.args.name.now c.in-Some.number (sym c.find.ensures ∙ c.in-Some.is))
    ∙ ap (option_and_then (slice_get (seats o))) (sym c.in-Some.is ∙ c.find.ensures) ∙ named_by_number o c.args.name.now

pub returns-in-None : goal.returns-in-None
returns-in-None c =
    let o = c.args.outline.now in
    ap (option_and_then (slice_get (seats o))) (sym c.in-None.is ∙ c.find.ensures) ∙ named_by_number o c.args.name.now
