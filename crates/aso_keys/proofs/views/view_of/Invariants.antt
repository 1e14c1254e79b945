use Rattle.std.proofs.Common.{◌-◌, ◌≤◌, drop, reverse}
use Rattle.aso_keys.specs.Views.{all_choices}
use Rattle.aso_keys.proofs.ViewLemmas.{Numbering}
use Rattle.aso_keys.proofs.views.view_of.Given as goal

abbrev pub invariant-loop-back : goal.invariant-loop-back
invariant-loop-back l = record {
  numbering : Numbering (drop (l.dims - l.back) (all_choices l.outline)) l.number l.rest l.views (reverse l.choices.items);
  few : l.views ≤ 4096;
}
