use Rattle.std.proofs.Common.{◌∙◌, ap, subst, sym}
use Rattle.aso_outline.specs.declared.seat.DimRef.{DimRef}
use Rattle.aso_outline.specs.Numbers.{IsDim, dim_ref, root_of}
use Rattle.aso_outline.specs.Targets.{number_of}
use Rattle.aso_axes.proofs.BelowLemmas.{has_dim}
use Rattle.aso_axes.proofs.members.own_number.Goals as goal

pub root-requires : goal.root-requires
root-requires c = subst (IsDim c.args.outline.now) (sym c.dim_of_seat-dim.ensures) (has_dim c.args.outline.now c.seat-seat.result c.seat-seat.ensures.there)

pub returns : goal.returns
returns c =
    let o = c.args.outline.now in
    c.keeps_numbers.ensures (root_of o c.dim_of_seat-dim.result) c.root.result c.root.ensures
    ∙ ap (λ (d : DimRef). number_of o (root_of o d)) (c.dim_of_seat-dim.ensures ∙ ap dim_ref c.seat-seat.ensures.value)
