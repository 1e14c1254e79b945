use Rattle.std.proofs.Common.{subst, sym}
use Rattle.aso_outline.specs.Numbers.{IsSeat}
use Rattle.aso_outline.proofs.Kept.{has_trees}
use Rattle.aso_outline.proofs.Rooted.{kept_labels, kept_trees, resolved_there}
use Rattle.aso_outline.proofs.outline.Outline.has_range.Goals as goal

pub has_range_at-requires : goal.has_range_at-requires
has_range_at-requires c =
    let o = c.args.self.now in
    let kept = c.keeps.ensures in
    subst (IsSeat o) (sym c.in-Inner.ensures) (resolved_there o (has_trees o kept) (kept_trees o kept) (kept_labels o kept) c.seat.result c.seat.ensures.there)
