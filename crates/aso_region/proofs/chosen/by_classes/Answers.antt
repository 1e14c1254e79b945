use Rattle.std.proofs.Common.{◌∙◌, ap, subst}
use Rattle.aso_outline.specs.Members.{dim_of}
use Rattle.aso_outline.specs.Numbers.{IsSeat}
use Rattle.aso_region.proofs.ChosenLemmas.{by_classes, has_classes}
use Rattle.aso_region.proofs.chosen.by_classes.Goals as goal

pub class_range-range-requires-clause-range : goal.class_range-range-requires-clause-range
class_range-range-requires-clause-range c =
    let o = c.args.outline.now in
    has_classes o c.keeps.ensures c.args.m c.requires.may (subst (IsSeat o) c.seat-seat.ensures.value c.seat-seat.ensures.there) c.requires.no_row

pub returns-clause-exact : goal.returns-clause-exact
returns-clause-exact c =
    let o = c.args.outline.now in
    by_classes o c.keeps.ensures c.args.m c.requires.may (subst (IsSeat o) c.seat-seat.ensures.value c.seat-seat.ensures.there) c.requires.no_row c.dim_of-dim.result c.hier_of-hier.result c.class_range-range.result.0 c.class_range-range.result.1
    (c.dim_of-dim.ensures ∙ ap dim_of c.seat-seat.ensures.value) c.hier_of-hier.ensures c.class_range-range.ensures.exactly
