use Rattle.std.proofs.Common.{◌≡◌, ◌∙◌, List, Some, get_or, sym, ap}
use Rattle.std.specs.Prelude.{slice_get}
use Rattle.std.proofs.lemmas.Option.{slice_get-get_or}
use Rattle.aso_outline.specs.declared.seat.Seat.{Seat}
use Rattle.aso_outline.specs.declared.seat.Seat.TheVariants.{Whole}
use Rattle.aso_outline.specs.Members.{seats}
use Rattle.aso_outline.proofs.Placed.{placed}
use Rattle.aso_outline.proofs.GraphRows.{is_row}
use Rattle.aso_outline.proofs.needs.row.Goals as goal

pub needs_of-requires-clause-placed : goal.needs_of-requires-clause-placed
needs_of-requires-clause-placed c =
    let n = c.args.number in
    let s : Seat = get_or c.args.table.now n (Whole 0) in
    placed c.args.draft.now n s (ap (λ (xs : List Seat). slice_get xs n) (sym c.requires.is) ∙ slice_get-get_or c.args.table.now n (Whole 0) c.requires.within)

pub returns : goal.returns
returns c =
    let o = c.args.draft.now in
    let n = c.args.number in
    let s : Seat = get_or c.args.table.now n (Whole 0) in
    let there : slice_get (seats o) n ≡ Some s = ap (λ (xs : List Seat). slice_get xs n) (sym c.requires.is) ∙ slice_get-get_or c.args.table.now n (Whole 0) c.requires.within in
    is_row o n s there _ _ c.standing_at-standing.ensures c.in_ok-needs.ensures
