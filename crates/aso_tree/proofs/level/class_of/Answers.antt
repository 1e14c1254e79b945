use Rattle.std.proofs.Common.{◌≡◌, ◌∙◌, ◌≤◌, ◌+◌, ℕ, Option, Some, None, true, length, map, ap, sym, refl, arith}
use Rattle.std.specs.Prelude.{is_some, unwrap_or}
use Rattle.aso_tree.specs.declared.level.Level.{Level}
use Rattle.aso_tree.specs.Trees.{class_number, class_of, height, places_of}
use Rattle.aso_tree.proofs.Classes.{has_class}
use Rattle.aso_tree.proofs.Heights.{leaf_height}
use Rattle.aso_tree.proofs.Rows.{in_list, at_list, in_rows, at_row}
use Rattle.aso_tree.proofs.level.class_of.Goals as goal

pub bounds-levels-level : goal.bounds-levels-level
bounds-levels-level c =
    let parents = c.args.parents.now in
    in_rows (λ k. map (class_number parents k) (places_of parents)) (λ (l : Level). l.numbers.items) c.args.levels.now (height parents 0 + 1) c.requires.known.0 c.args.level (omega (arith, c.requires.level))

pub bounds-numbers-leaf : goal.bounds-numbers-leaf
bounds-numbers-leaf c =
    let parents = c.args.parents.now in
    let row : c.as_slice-numbers.result.now ≡ map (class_number parents c.args.level) (places_of parents) =
    c.as_slice-numbers.ensures.value
    ∙ at_row (λ k. map (class_number parents k) (places_of parents)) (λ (l : Level). l.numbers.items) c.args.levels.now (height parents 0 + 1) c.requires.known.0 c.args.level (omega (arith, c.requires.level)) c.index-levels-level.result in
    in_list (class_number parents c.args.level) c.as_slice-numbers.result.now (length parents) row c.args.leaf c.requires.within

there : (o : Option ℕ) → is_some o ≡ true → o ≡ Some (unwrap_or o 0)
there None h = cc
there (Some k) h = refl

pub returns : goal.returns
returns c =
    let parents = c.args.parents.now in
    let row : c.as_slice-numbers.result.now ≡ map (class_number parents c.args.level) (places_of parents) =
    c.as_slice-numbers.ensures.value
    ∙ at_row (λ k. map (class_number parents k) (places_of parents)) (λ (l : Level). l.numbers.items) c.args.levels.now (height parents 0 + 1) c.requires.known.0 c.args.level (omega (arith, c.requires.level)) c.index-levels-level.result in
    let low : height parents c.args.leaf ≤ c.args.level = omega (arith, leaf_height parents c.requires.tree c.args.leaf c.requires.within c.requires.leaf) in
    there (class_of parents c.args.level c.args.leaf) (has_class parents c.args.level c.args.leaf c.args.leaf (omega arith) c.requires.within low)
    ∙ ap (λ (n : ℕ). Some n) (sym (at_list (class_number parents c.args.level) c.as_slice-numbers.result.now (length parents) row c.args.leaf c.requires.within 0))
