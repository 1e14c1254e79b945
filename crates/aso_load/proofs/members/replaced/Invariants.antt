use Rattle.std.proofs.Common.{◌≡◌, drop}
use Rattle.aso_load.specs.Fields.{replaced}
use Rattle.aso_load.proofs.members.replaced.Given as goal

abbrev pub invariant-loop-pair : goal.invariant-loop-pair
invariant-loop-pair l = replaced l.pairs l.text ≡ replaced (drop l.pair-index l.pairs) l.text
