use Rattle.std.proofs.Common.{◌≡◌, ◌<◌, ◌∷◌, ℕ, List, get_or, false}
use Rattle.std.specs.Prelude.{is_some}
use Rattle.std.specs.List.{list_any}
use Rattle.std.specs.HashMap.{get_by_text}
use Rattle.aso_outline.specs.declared.seat.Seat.TheVariants.{Whole}
use Rattle.aso_outline.specs.Members.{seats}
use Rattle.aso_outline.specs.Rules.{breaks_sharing, shares}
use Rattle.aso_outline.proofs.SharedNames.{up_to}
use Rattle.aso_outline.proofs.sharing.least_wrong_sharing.Given as goal

abbrev pub invariant-loop-number : goal.invariant-loop-number
invariant-loop-number l = record {
  known : (q : List ℕ) → is_some (get_by_text l.shared.map q) ≡ list_any (shares q) (up_to l.draft (get_or (Whole 0 ∷ seats l.draft) l.number (Whole 0)));
  none : (k : ℕ) → k < l.number → breaks_sharing l.draft (get_or (seats l.draft) k (Whole 0)) ≡ false;
}
