use Rattle.std.proofs.Common.{◌∙◌, ◌<◌, ◌≤◌, ℕ, sym, ap, arith, Option}
use Rattle.std.specs.Prelude.{slice_index, unwrap_or}
use Rattle.aso_tree.specs.Trees.{height, class_number}
use Rattle.aso_tree.proofs.Rows.{in_list, at_list}
use Rattle.aso_tree.proofs.Classes.{class_of_high, class_of_top, class_of_below}
use Rattle.aso_tree.proofs.level.class_number.Goals as goal

pub returns-then-height_at-level : goal.returns-then-height_at-level
returns-then-height_at-level c =
    let parents = c.args.parents.now in
    let high : c.args.level < height parents c.args.node = omega (arith, c.height_at.ensures, c.if-height_at-level.true) in
    sym (ap (λ (o : Option ℕ). unwrap_or o 0) (class_of_high parents c.args.level c.args.node c.requires.within high))

pub returns-then-parent-node : goal.returns-then-parent-node
returns-then-parent-node c =
    let parents = c.args.parents.now in
    let low : height parents c.args.node ≤ c.args.level = omega (arith, c.height_at.ensures, c.if-height_at-level.false) in
    c.requires.counted ∙ sym (ap (λ (o : Option ℕ). unwrap_or o 0) (class_of_top parents c.args.level c.args.node c.requires.within low (λ below. absurd (omega (arith, below, c.if-parent-node.true)))))

pub returns-then-height_at-level-2 : goal.returns-then-height_at-level-2
returns-then-height_at-level-2 c =
    let parents = c.args.parents.now in
    let low : height parents c.args.node ≤ c.args.level = omega (arith, c.height_at.ensures, c.if-height_at-level.false) in
    let high : c.args.level < height parents (slice_index parents c.args.node) = omega (arith, c.height_at-2.ensures, c.if-height_at-level-2.true) in
    c.requires.counted ∙ sym (ap (λ (o : Option ℕ). unwrap_or o 0) (class_of_top parents c.args.level c.args.node c.requires.within low (λ _. high)))

pub bounds-numbers-parent : goal.bounds-numbers-parent
bounds-numbers-parent c =
    in_list (class_number c.args.parents.now c.args.level) c.args.numbers.now c.args.node c.requires.before (slice_index c.args.parents.now c.args.node) (omega (arith, c.if-parent-node.false))

pub returns : goal.returns
returns c =
    let parents = c.args.parents.now in
    let below : slice_index parents c.args.node < c.args.node = omega (arith, c.if-parent-node.false) in
    let low : height parents c.args.node ≤ c.args.level = omega (arith, c.height_at.ensures, c.if-height_at-level.false) in
    let parent_low : height parents (slice_index parents c.args.node) ≤ c.args.level = omega (arith, c.height_at-2.ensures, c.if-height_at-level-2.false) in
    at_list (class_number parents c.args.level) c.args.numbers.now c.args.node c.requires.before (slice_index parents c.args.node) below 0
    ∙ sym (ap (λ (o : Option ℕ). unwrap_or o 0) (class_of_below parents c.args.level c.args.node low below parent_low))
