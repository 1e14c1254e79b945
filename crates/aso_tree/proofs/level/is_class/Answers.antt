use Rattle.std.proofs.Common.{◌∙◌, ◌<◌, ◌≤◌, sym, ap, arith, ltb}
use Rattle.std.specs.Prelude.{slice_index}
use Rattle.aso_tree.specs.Trees.{height}
use Rattle.aso_tree.proofs.Classes.{no_class_high, class_by_parent, class_top}
use Rattle.aso_tree.proofs.level.is_class.Goals as goal

pub returns-then-height_at-level : goal.returns-then-height_at-level
returns-then-height_at-level c =
    let high : c.args.level < height c.args.parents.now c.args.node = omega (arith, c.height_at.ensures, c.if-height_at-level.true) in
    sym (no_class_high c.args.parents.now c.args.level c.args.node c.requires.within high)

pub returns-then-parent-node : goal.returns-then-parent-node
returns-then-parent-node c =
    let low : height c.args.parents.now c.args.node ≤ c.args.level = omega (arith, c.height_at.ensures, c.if-height_at-level.false) in
    sym (class_top c.args.parents.now c.args.level c.args.node c.requires.within low (λ below. absurd (omega (arith, below, c.if-parent-node.true))))

pub returns : goal.returns
returns c =
    let parents = c.args.parents.now in
    let below : slice_index parents c.args.node < c.args.node = omega (arith, c.if-parent-node.false) in
    let low : height parents c.args.node ≤ c.args.level = omega (arith, c.height_at.ensures, c.if-height_at-level.false) in
    ap (ltb c.args.level) c.height_at-2.ensures ∙ sym (class_by_parent parents c.args.level c.args.node c.requires.within low below)
