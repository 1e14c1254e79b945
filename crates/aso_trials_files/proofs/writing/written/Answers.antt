use Rattle.std.proofs.Common.{rules, ◌≡◌, ◌∙◌, [], ◌∷◌, ◌++◌}
use Rattle.aso_trials_files.proofs.writing.written.Goals as goal

pub loop-cell-preserved : goal.loop-cell-preserved
loop-cell-preserved g c =
    let k = c.loop-cell.invariant.1 in
    let cells = k.0 in
    (c.add.ensures.bits ∙ c.loop-cell.invariant.0, (_, c.in-Ok-add.ensures.added cells k.1))
