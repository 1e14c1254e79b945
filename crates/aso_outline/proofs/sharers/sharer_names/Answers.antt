use Rattle.std.specs.Option.{option_map}
use Rattle.std.specs.List.{position}
use Rattle.std.proofs.Common.{◌∙◌, ◌<◌, ◌≤◌, ℕ, Bool, Option, Some, None, ap, arith, cond, length, sym, take}
use Rattle.std.proofs.lemmas.List.{take_all}
use Rattle.aso_tree.proofs.Positions.{first_of}
use Rattle.aso_outline.specs.Leaves.{name_in}
use Rattle.aso_outline.specs.Members.{Name, member_is}
use Rattle.aso_outline.specs.Rules.{same_own, shares}
use Rattle.aso_outline.proofs.LeafNames.{own_if, sharer_found}
use Rattle.aso_outline.proofs.sharers.sharer_names.Goals as goal

pub loop-place-preserved : goal.loop-place-preserved
loop-place-preserved c =
    let ms = c.args.members.now in
    let n = c.loop-place.place in
    let low : n < length ms = omega arith in λ q.
    c.in_ok-note.ensures q
    ∙ (ap (λ (x : Option ℕ). first_of x (cond (same_own (Some q) (option_map (λ r. r.now) c.sharer_name.result)) (Some n) None)) (c.loop-place.invariant q)
    ∙ (ap (λ (x : Option Name). first_of (position (shares q) (take n ms)) (cond (same_own (Some q) x) (Some n) None)) c.sharer_name.ensures
    ∙ (ap (λ (b : Bool). first_of (position (shares q) (take n ms)) (cond b (Some n) None)) (own_if q (member_is (λ m. m.shared) ms n) (name_in ms n))
    ∙ sym (sharer_found ms q n low))))

pub returns : goal.returns
returns c =
    let ms = c.args.members.now in
    let all : length ms ≤ c.loop-place.place = omega arith in λ q.
    c.loop-place.invariant q ∙ ap (position (shares q)) (take_all c.loop-place.place ms all)
