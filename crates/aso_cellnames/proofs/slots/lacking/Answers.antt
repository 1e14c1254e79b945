use Rattle.std.proofs.Common.{◌∙◌, List, Some, ap, sym}
use Rattle.std.specs.Option.{option_map}
use Rattle.aso_outline.specs.Members.{Name, dim_at}
use Rattle.aso_cellnames.specs.Names.{texts}
use Rattle.aso_cellnames.proofs.FirstLeaves.{lacking_is}
use Rattle.aso_cellnames.proofs.slots.lacking.Goals as goal

pub returns-in-Some : goal.returns-in-Some
returns-in-Some c =
    let o = c.args.outline.now in
    let names : List Name = texts c.args.names.now in
    let slots = c.in_ok-slots.slots.items in
    let first = rw c.deref.ensures.value at c.first_empty.ensures in
    ap (λ (n : Name). Some n) c.dim_name.ensures ∙ ap (option_map (λ d. (dim_at o d).name)) (sym c.in-Some.is ∙ first) ∙ lacking_is o names slots c.in_ok-slots.ensures

pub returns : goal.returns
returns c =
    let o = c.args.outline.now in
    let names : List Name = texts c.args.names.now in
    let slots = c.in_ok-slots.slots.items in
    let first = rw c.deref.ensures.value at c.first_empty.ensures in
    ap (option_map (λ d. (dim_at o d).name)) (sym c.in-None.is ∙ first) ∙ lacking_is o names slots c.in_ok-slots.ensures
