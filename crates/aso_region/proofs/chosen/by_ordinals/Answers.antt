use Rattle.std.proofs.Common.{◌∙◌, ap, subst}
use Rattle.aso_outline.specs.Members.{dim_of}
use Rattle.aso_outline.specs.Numbers.{IsSeat}
use Rattle.aso_region.proofs.ChosenLemmas.{by_ordinals}
use Rattle.aso_region.proofs.chosen.by_ordinals.Goals as goal

pub returns-clause-exact : goal.returns-clause-exact
returns-clause-exact c =
    let o = c.args.outline.now in
    by_ordinals o c.keeps.ensures c.args.m c.requires.may (subst (IsSeat o) c.seat-seat.ensures.value c.seat-seat.ensures.there) c.dim_of-dim.result c.class_range-range.result.0 c.class_range-range.result.1
    (c.dim_of-dim.ensures ∙ ap dim_of c.seat-seat.ensures.value) c.class_range-range.ensures.exactly
