use Rattle.std.proofs.Common.{◌∙◌, ap, subst, sym}
use Rattle.aso_outline.specs.declared.seat.Seat.{Seat}
use Rattle.aso_outline.specs.Members.{holds}
use Rattle.aso_outline.specs.Numbers.{IsSeat}
use Rattle.aso_outline.proofs.HoldLemmas.{holds_carried, holds_resolved, holds_whole}
use Rattle.aso_outline.proofs.Kept.{has_trees}
use Rattle.aso_outline.proofs.Rooted.{kept_labels, kept_trees, resolved_there}
use Rattle.aso_outline.proofs.outline.Outline.holds.Goals as goal

pub holds_at-requires : goal.holds_at-requires
holds_at-requires c =
    let o = c.args.self.now in
    let kept = c.keeps.ensures in
    subst (IsSeat o) (sym c.in-Inner.ensures) (resolved_there o (has_trees o kept) (kept_trees o kept) (kept_labels o kept) c.seat.result c.seat.ensures.there)

pub returns-in-Inner : goal.returns-in-Inner
returns-in-Inner c =
    let o = c.args.self.now in
    c.holds_at.ensures ∙ (sym (holds_resolved o c.seat.result c.args.leaf c.in-Inner.dim c.in-Inner.hier c.in-Inner.at (sym c.in-Inner.ensures)) ∙ ap (λ (s : Seat). holds o s c.args.leaf) c.seat.ensures.value)

pub returns-in-Whole : goal.returns-in-Whole
returns-in-Whole c =
    let o = c.args.self.now in
    sym (holds_whole o c.seat.result c.args.leaf c.in-Whole.dim (sym c.in-Whole.ensures)) ∙ ap (λ (s : Seat). holds o s c.args.leaf) c.seat.ensures.value

pub returns-in-Carried : goal.returns-in-Carried
returns-in-Carried c =
    let o = c.args.self.now in
    sym (holds_carried o c.seat.result c.args.leaf c.in-Carried.attr c.in-Carried.at (sym c.in-Carried.ensures)) ∙ ap (λ (s : Seat). holds o s c.args.leaf) c.seat.ensures.value
