use Rattle.std.proofs.Common.{◌≡◌, length}
use Rattle.aso_sums.proofs.Asking.{AreNowhere}
use Rattle.aso_sums.proofs.asked.Asked.new.Given as goal

abbrev pub invariant-loop-member : goal.invariant-loop-member
invariant-loop-member l = record {
  long : length l.places.items ≡ l._member;
  none : AreNowhere l.places.items;
}
