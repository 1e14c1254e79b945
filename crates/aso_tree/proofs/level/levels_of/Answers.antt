use Rattle.std.proofs.Common.{◌∙◌, ap, map}
use Rattle.aso_tree.specs.declared.level.Level.{Level}
use Rattle.aso_tree.specs.Trees.{class_count, class_number, places_of}
use Rattle.aso_tree.proofs.Rows.{row_push}
use Rattle.aso_tree.proofs.level.levels_of.Goals as goal

pub loop-level-preserved : goal.loop-level-preserved
loop-level-preserved c =
    let parents = c.args.parents.now in
    let level = c.loop-level.level in
    let new = c.in_ok-level_of.field-0 in
    let pushed = c.in_ok-push.ensures.items in (
      ap (map (λ (l : Level). l.numbers.items)) pushed ∙ row_push (λ k. map (class_number parents k) (places_of parents)) (λ (l : Level). l.numbers.items) c.loop-level.levels.items level c.loop-level.invariant.0 new c.in_ok-level_of.ensures.numbers,
      ap (map (λ (l : Level). l.count)) pushed ∙ row_push (class_count parents) (λ (l : Level). l.count) c.loop-level.levels.items level c.loop-level.invariant.1 new c.in_ok-level_of.ensures.count,
    )
