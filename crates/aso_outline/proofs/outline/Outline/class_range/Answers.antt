use Rattle.std.proofs.Common.{◌≡◌, ◌∙◌, ◌<◌, ℕ, ap, arith, subst, sym}
use Rattle.aso_outline.specs.declared.seat.Seat.{Seat}
use Rattle.aso_outline.specs.Classes.{class_at, classes_at, leaf_count}
use Rattle.aso_outline.specs.declared.seat.Seat.TheVariants.{Inner}
use Rattle.aso_outline.specs.Members.{dim_of, resolve}
use Rattle.aso_outline.specs.Numbers.{IsSeat, hier_of, seat_of}
use Rattle.aso_outline.proofs.HoldLemmas.{holds_resolved}
use Rattle.aso_outline.proofs.Kept.{has_trees}
use Rattle.aso_outline.proofs.LeafRows.{resolved_dim}
use Rattle.aso_outline.proofs.Rooted.{kept_labels, kept_trees, resolved_there}
use Rattle.aso_outline.proofs.outline.Outline.class_range.Goals as goal

pub range_at-requires-clause-there : goal.range_at-requires-clause-there
range_at-requires-clause-there c =
    let o = c.args.self.now in
    let kept = c.keeps.ensures in
    subst (IsSeat o) (sym c.in-Inner.ensures) (resolved_there o (has_trees o kept) (kept_trees o kept) (kept_labels o kept) c.seat.result c.seat.ensures.there)

pub returns-clause-exactly : goal.returns-clause-exactly
returns-clause-exactly c leaf class low has =
    let o = c.args.self.now in
    let s : Seat = seat_of o c.args.m in
    let d = c.in-Inner.dim in
    let h = c.in-Inner.hier in
    let is : resolve o s ≡ Inner d h c.in-Inner.at = ap (resolve o) (sym c.seat.ensures.value) ∙ sym c.in-Inner.ensures in
    let dim : dim_of s ≡ d = resolved_dim o s d h c.in-Inner.at is in
    c.range_at.ensures.exactly leaf class (subst (λ (k : ℕ). leaf < leaf_count o k) dim low)
    (sym (ap (λ (k : ℕ). class_at o k (hier_of (resolve o s)) c.args.level leaf) dim ∙ ap (λ (t : Seat). class_at o d (hier_of t) c.args.level leaf) is) ∙ has)
    ∙ sym (holds_resolved o s leaf d h c.in-Inner.at is)

pub returns-clause-within : goal.returns-clause-within
returns-clause-within c =
    let o = c.args.self.now in
    let s : Seat = seat_of o c.args.m in
    let d = c.in-Inner.dim in
    let h = c.in-Inner.hier in
    let is : resolve o s ≡ Inner d h c.in-Inner.at = ap (resolve o) (sym c.seat.ensures.value) ∙ sym c.in-Inner.ensures in
    let dim : dim_of s ≡ d = resolved_dim o s d h c.in-Inner.at is in
    let same : classes_at o (dim_of s) (hier_of (resolve o s)) c.args.level ≡ classes_at o d h c.args.level = ap (λ (k : ℕ). classes_at o k (hier_of (resolve o s)) c.args.level) dim ∙ ap (λ (t : Seat). classes_at o d (hier_of t) c.args.level) is in
    omega (arith, same, c.range_at.ensures.within)
