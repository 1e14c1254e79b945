use Rattle.std.proofs.Common.{◌≡◌, ◌∙◌, ℕ, List, Option, sym, ap}
use Rattle.std.specs.Prelude.{slice_get}
use Rattle.std.specs.Option.{option_and_then}
use Rattle.aso_outline.specs.declared.seat.Seat.{Seat}
use Rattle.aso_outline.specs.Members.{seats}
use Rattle.aso_outline.specs.Ranks.{named}
use Rattle.aso_outline.proofs.ByName.{named_by_number}
use Rattle.aso_outline.proofs.find.member_named.Goals as goal

pub returns-in-Some : goal.returns-in-Some
returns-in-Some c =
    let o = c.args._draft.now in
    let q : List ℕ = c.args.name.now in
    let at : named o q ≡ slice_get (seats o) c.in-Some.number = named_by_number o q ∙ ap (λ (k : Option ℕ). option_and_then (λ (k : ℕ). slice_get (seats o) k) k) (sym (c.requires.finds q) ∙ sym c.in-Some.ensures) in
    c.seat_at.ensures ∙ (ap (λ (xs : List Seat). slice_get xs c.in-Some.number) c.requires.is ∙ sym at)

pub returns-in-None : goal.returns-in-None
returns-in-None c =
    let o = c.args._draft.now in
    let q : List ℕ = c.args.name.now in
    sym (named_by_number o q ∙ ap (λ (k : Option ℕ). option_and_then (λ (k : ℕ). slice_get (seats o) k) k) (sym (c.requires.finds q) ∙ sym c.in-None.ensures))
