use Rattle.std.proofs.Common.{◌≡◌, ◌∙◌, List, Some, get_or, ap, sym}
use Rattle.std.proofs.lemmas.Option.{slice_get-get_or}
use Rattle.aso_outline.specs.declared.seat.Seat.{Seat}
use Rattle.aso_outline.specs.Members.{seats}
use Rattle.aso_outline.proofs.Placed.{placed}
use Rattle.aso_outline.proofs.outline.Outline.seat.Goals as goal

pub returns-clause-there : goal.returns-clause-there
returns-clause-there c =
    let o = c.args.self.now in
    let s = c.index.result.now in
    let at : s ≡ get_or (seats o) c.args.m s = c.index.ensures ∙ ap (λ (xs : List Seat). get_or xs c.args.m s) c.tables-tables.ensures.seats in
    placed o c.args.m s (slice_get-get_or (seats o) c.args.m s c.requires ∙ ap (λ (x : Seat). Some x) (sym at))
