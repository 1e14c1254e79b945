use Rattle.std.specs.Prelude.{IfOk}
use Rattle.std.specs.List.{flat_map}
use Rattle.std.proofs.Common.{◌≡◌, ◌∙◌, ℕ, List, Option, ap, subst}
use Rattle.aso_outline.specs.declared.draft.Tuple.{Tuple}
use Rattle.aso_grid.specs.declared.places.Place.{Place}
use Rattle.aso_grid.specs.Places.{base_places_of, tuples_of_row}
use Rattle.aso_grid.proofs.PlanLemmas.{cells_are}
use Rattle.aso_grid.proofs.cells.cells.Goals as goal

pub returns : goal.returns
returns c =
    let o = c.args.outline.now in
    let dims = c.args.dims.now in
    let columns = c.args.columns.now in
    let rows = c.args.rows.now in
    let slicer = c.args.slicer.now in
    subst (λ (cells : List Tuple). IfOk c.cells_at.result (λ v. v.items ≡ cells))
    (ap (λ (base : List Place). flat_map (tuples_of_row base c.in_ok-places.places.attrs.items columns slicer) rows) c.in_ok-places.ensures.base
    ∙ (ap (λ (attrs : List (Option ℕ)). flat_map (tuples_of_row (base_places_of o dims) attrs columns slicer) rows) c.in_ok-places.ensures.attrs
    ∙ cells_are o dims columns rows slicer))
    c.cells_at.ensures
