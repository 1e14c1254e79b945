use Rattle.std.specs.List.{filter, list_any, range_with_len}
use Rattle.std.proofs.Common.{◌≡◌, ◌∙◌, ◌<◌, ◌&&◌, ◌||◌, ℕ, Bool, true, ap, arith, length, sym}
use Rattle.aso_tree.specs.Trees.{is_under}
use Rattle.aso_outline.specs.Leaves.{name_in}
use Rattle.aso_outline.specs.Members.{names_at, parents_of, same_name}
use Rattle.aso_outline.specs.Parents.{one_parent_each}
use Rattle.aso_outline.proofs.HoldLemmas.{any_more, any_there}
use Rattle.aso_outline.proofs.Smalls.{and_left, and_right}
use Rattle.aso_outline.proofs.holds.any_named_below.Goals as goal

pub returns-then-is_named_below : goal.returns-then-is_named_below
returns-then-is_named_below c =
    let ms = c.args.members.now in
    let p : ℕ → Bool = is_under (parents_of ms) c.args.top in
    let q = c.args.name.now in
    let n = c.loop-place.place in
    let both : (p n && same_name q (name_in ms n)) ≡ true = sym c.is_named_below.ensures ∙ c.if-is_named_below.true in
    let low : n < length ms = omega arith in
    sym (any_there ms p q (length (parents_of ms)) n (omega (arith, one_parent_each ms)) (omega (arith, low, one_parent_each ms)) (and_left (p n) _ both) (and_right (p n) _ both))

pub loop-place-preserved : goal.loop-place-preserved
loop-place-preserved c =
    let ms = c.args.members.now in
    let p : ℕ → Bool = is_under (parents_of ms) c.args.top in
    let q = c.args.name.now in
    let n = c.loop-place.place in
    let low : n < length ms = omega arith in
    any_more ms p q n low ∙ (ap (λ (b : Bool). b || (p n && same_name q (name_in ms n))) c.loop-place.invariant ∙ (sym c.is_named_below.ensures ∙ c.if-is_named_below.false))

pub returns : goal.returns
returns c =
    let ms = c.args.members.now in
    let p : ℕ → Bool = is_under (parents_of ms) c.args.top in
    let all : length (parents_of ms) ≡ c.loop-place.place = omega (arith, one_parent_each ms) in
    sym (ap (λ (k : ℕ). list_any (same_name c.args.name.now) (names_at ms (filter p (range_with_len 0 k)))) all ∙ c.loop-place.invariant)
