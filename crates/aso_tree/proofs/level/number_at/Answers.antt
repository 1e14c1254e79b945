use Rattle.std.proofs.Common.{◌≡◌, ◌∙◌, ◌+◌, length, map, arith}
use Rattle.aso_tree.specs.declared.level.Level.{Level}
use Rattle.aso_tree.specs.Trees.{class_number, height, places_of}
use Rattle.aso_tree.proofs.Rows.{in_list, at_list, in_rows, at_row}
use Rattle.aso_tree.proofs.level.number_at.Goals as goal

pub bounds-levels-level : goal.bounds-levels-level
bounds-levels-level c =
    let parents = c.args.parents.now in
    in_rows (λ k. map (class_number parents k) (places_of parents)) (λ (l : Level). l.numbers.items) c.args.levels.now (height parents 0 + 1) c.requires.known.0 c.args.level (omega (arith, c.requires.level))

pub bounds-row-node : goal.bounds-row-node
bounds-row-node c =
    let parents = c.args.parents.now in
    let row : c.as_slice-row.result.now ≡ map (class_number parents c.args.level) (places_of parents) =
    c.as_slice-row.ensures.value
    ∙ at_row (λ k. map (class_number parents k) (places_of parents)) (λ (l : Level). l.numbers.items) c.args.levels.now (height parents 0 + 1) c.requires.known.0 c.args.level (omega (arith, c.requires.level)) c.index-levels-level.result in
    in_list (class_number parents c.args.level) c.as_slice-row.result.now (length parents) row c.args.node c.requires.within

pub returns : goal.returns
returns c =
    let parents = c.args.parents.now in
    let row : c.as_slice-row.result.now ≡ map (class_number parents c.args.level) (places_of parents) =
    c.as_slice-row.ensures.value
    ∙ at_row (λ k. map (class_number parents k) (places_of parents)) (λ (l : Level). l.numbers.items) c.args.levels.now (height parents 0 + 1) c.requires.known.0 c.args.level (omega (arith, c.requires.level)) c.index-levels-level.result in
    at_list (class_number parents c.args.level) c.as_slice-row.result.now (length parents) row c.args.node c.requires.within 0
