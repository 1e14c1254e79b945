use Rattle.std.proofs.Common.{◌≡◌, drop}
use Rattle.std.specs.List.{position_from}
use Rattle.aso_outline.specs.declared.draft.DraftDim.{DraftDim}
use Rattle.aso_outline.specs.Members.{same_name}
use Rattle.aso_rules.proofs.known.place_named.Given as goal

abbrev pub invariant-loop-i : goal.invariant-loop-i
invariant-loop-i l = position_from (λ (d : DraftDim). same_name d.name l.name) 0 l.dims ≡ position_from (λ (d : DraftDim). same_name d.name l.name) l.i (drop l.i l.dims)
