use Rattle.std.proofs.Common.{◌≡◌, ℕ, List, take}
use Rattle.std.specs.HashMap.{get_by_text}
use Rattle.std.specs.List.{position}
use Rattle.aso_outline.specs.Rules.{shares}
use Rattle.aso_outline.proofs.sharers.sharer_names.Given as goal

abbrev pub invariant-loop-place : goal.invariant-loop-place
invariant-loop-place l = (q : List ℕ) → get_by_text l.names.map q ≡ position (shares q) (take l.place l.members)
