use Rattle.std.proofs.Common.{◌≡◌, ◌∙◌, ap, sym, Some}
use Rattle.std.specs.Prelude.{slice_get}
use Rattle.std.specs.Option.{option_and_then}
use Rattle.aso_outline.specs.Members.{seats}
use Rattle.aso_outline.specs.Numbers.{seat_of}
use Rattle.aso_outline.specs.Ranks.{named}
use Rattle.aso_outline.proofs.FoundNames.{number_within}
use Rattle.aso_spec.specs.Named.{ordinal_in}
use Rattle.aso_cellnames.proofs.Numbered.{named_by_number}
use Rattle.aso_cellnames.proofs.Seats.{got_some}
use Rattle.aso_cellnames.proofs.slots.leaf_named.Goals as goal

pub returns-in-Some-clause-leaf : goal.returns-in-Some-clause-leaf
returns-in-Some-clause-leaf c =
    let o = c.args.outline.now in
    let name = c.args.name.now in
    let within = number_within o name c.in-Some.number (sym c.find.ensures ∙ c.in-Some.is) in
    let found : named o name ≡ Some (seat_of o c.in-Some.number) =
    sym (named_by_number o name) ∙ ap (option_and_then (slice_get (seats o))) (sym c.find.ensures ∙ c.in-Some.is) ∙ sym (got_some (seats o) c.in-Some.number within) in
    λ d. ap (option_and_then (ordinal_in o d)) found ∙ c.leaf_at.ensures.leaf d

pub returns-in-None-clause-leaf : goal.returns-in-None-clause-leaf
returns-in-None-clause-leaf c =
    let o = c.args.outline.now in
    let name = c.args.name.now in
    λ d. ap (option_and_then (ordinal_in o d)) (sym (named_by_number o name) ∙ ap (option_and_then (slice_get (seats o))) (sym c.find.ensures ∙ c.in-None.is))
