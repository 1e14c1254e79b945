use Rattle.std.proofs.Common.{◌-◌, reverse}
use Rattle.aso_keys.proofs.MakingLemmas.{Building}
use Rattle.aso_keys.proofs.layout.Layout.new.Given as goal

abbrev pub invariant-loop-back : goal.invariant-loop-back
invariant-loop-back l = Building l.outline l.view.choices (l.dims - l.back) l.back l.bits (reverse l.axes.items)
