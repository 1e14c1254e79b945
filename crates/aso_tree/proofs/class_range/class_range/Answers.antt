use Rattle.std.proofs.Common.{◌∙◌, ◌≤◌, ◌&&◌, ℕ, length, arith, ap, subst, sym, refl}
use Rattle.std.specs.Prelude.{nat_le, nat_lt}
use Rattle.aso_tree.specs.Trees.{class_count, height, under}
use Rattle.aso_tree.specs.Levels.{classes_before}
use Rattle.aso_tree.proofs.ClassRanges.{height_root, in_class_range, open_behind, open_here, range_fits, range_some}
use Rattle.aso_tree.proofs.Ends.{ends_by_count, EndsAt}
use Rattle.aso_tree.proofs.class_range.class_range.Goals as goal

pub classes_before-requires-clause-level : goal.classes_before-requires-clause-level
classes_before-requires-clause-level c =
    let most : height c.args.parents.now c.args.node ≤ height c.args.parents.now 0 = height_root c.args.parents.now c.requires.tree c.requires.short c.args.node c.args.node (omega arith) c.requires.within in
    omega (arith, most, c.requires.level)

pub classes_before-requires-clause-outside : goal.classes_before-requires-clause-outside
classes_before-requires-clause-outside c = open_here c.args.parents.now c.requires.tree c.requires.short c.args.level c.args.node c.requires.level

pub classes_before-requires-2-clause-level : goal.classes_before-requires-2-clause-level
classes_before-requires-2-clause-level c =
    let most : height c.args.parents.now c.args.node ≤ height c.args.parents.now 0 = height_root c.args.parents.now c.requires.tree c.requires.short c.args.node c.args.node (omega arith) c.requires.within in
    omega (arith, most, c.requires.level)

pub classes_before-requires-2-clause-outside : goal.classes_before-requires-2-clause-outside
classes_before-requires-2-clause-outside c =
    let parents = c.args.parents.now in
    let node = c.args.node in
    let here = subst (λ e. EndsAt parents c.requires.tree node e) (sym c.end_of-end.ensures.end) (ends_by_count parents c.requires.tree node (length (under parents node)) c.requires.within refl) in
    open_behind parents c.requires.tree c.requires.short c.args.level node c.end_of-end.result c.requires.within here c.requires.level

pub returns-clause-exactly : goal.returns-clause-exactly
returns-clause-exactly c i class low has =
    let parents = c.args.parents.now in
    let node = c.args.node in
    let here = subst (λ e. EndsAt parents c.requires.tree node e) (sym c.end_of-end.ensures.end) (ends_by_count parents c.requires.tree node (length (under parents node)) c.requires.within refl) in
    ap (λ (n : ℕ). nat_le n class && nat_lt class c.classes_before-2.result) c.classes_before.ensures
    ∙ (ap (λ (n : ℕ). nat_le (classes_before parents c.args.level node) class && nat_lt class n) c.classes_before-2.ensures
    ∙ in_class_range parents c.requires.tree c.requires.short c.args.level node c.end_of-end.result c.requires.within here c.requires.level i class low has)

pub returns-clause-in_order : goal.returns-clause-in_order
returns-clause-in_order c =
    let parents = c.args.parents.now in
    let node = c.args.node in
    let here = subst (λ e. EndsAt parents c.requires.tree node e) (sym c.end_of-end.ensures.end) (ends_by_count parents c.requires.tree node (length (under parents node)) c.requires.within refl) in
    let some = range_some parents c.requires.tree c.requires.short c.args.level node c.end_of-end.result c.requires.within here c.requires.level in
    omega (arith, some, c.classes_before.ensures, c.classes_before-2.ensures)

pub returns-clause-within : goal.returns-clause-within
returns-clause-within c =
    let parents = c.args.parents.now in
    let node = c.args.node in
    let here = subst (λ e. EndsAt parents c.requires.tree node e) (sym c.end_of-end.ensures.end) (ends_by_count parents c.requires.tree node (length (under parents node)) c.requires.within refl) in
    let fits : classes_before parents c.args.level c.end_of-end.result ≤ class_count parents c.args.level = range_fits parents c.requires.tree c.requires.short c.args.level node c.end_of-end.result c.requires.within here c.requires.level in
    omega (arith, fits, c.classes_before-2.ensures)
