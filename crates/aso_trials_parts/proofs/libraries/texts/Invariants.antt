use Rattle.std.specs.Prelude.{All}
use Rattle.aso_disk.specs.Texts.{IsShort}
use Rattle.aso_trials_parts.proofs.libraries.texts.Given as goal

abbrev pub invariant-loop-item : goal.invariant-loop-item
invariant-loop-item l = All IsShort l.all.items
