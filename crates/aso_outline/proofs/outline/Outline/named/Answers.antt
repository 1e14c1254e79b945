use Rattle.std.specs.Prelude.{slice_get}
use Rattle.std.specs.Option.{option_and_then}
use Rattle.std.proofs.Common.{◌∙◌, ◌<◌, ℕ, Some, ap, length, sym}
use Rattle.aso_outline.specs.declared.seat.Seat.{Seat}
use Rattle.aso_outline.specs.Members.{seats}
use Rattle.aso_outline.proofs.ByName.{named_by_number}
use Rattle.aso_outline.proofs.FoundNames.{number_within, seat_there}
use Rattle.aso_outline.proofs.outline.Outline.named.Goals as goal

pub seat-requires : goal.seat-requires
seat-requires c = number_within c.args.self.now c.args.name.now c.in-Some.number (sym c.in-Some.ensures)

pub returns-in-Some-clause-value : goal.returns-in-Some-clause-value
returns-in-Some-clause-value c =
    let o = c.args.self.now in
    let q = c.args.name.now in
    let low : c.in-Some.number < length (seats o) = number_within o q c.in-Some.number (sym c.in-Some.ensures) in
    ap (λ (s : Seat). Some s) c.seat.ensures.value ∙ (sym (seat_there o c.in-Some.number low) ∙ (ap (option_and_then (λ (k : ℕ). slice_get (seats o) k)) c.in-Some.ensures ∙ sym (named_by_number o q)))

pub returns-in-None-clause-value : goal.returns-in-None-clause-value
returns-in-None-clause-value c =
    let o = c.args.self.now in
    ap (option_and_then (λ (k : ℕ). slice_get (seats o) k)) c.in-None.ensures ∙ sym (named_by_number o c.args.name.now)
