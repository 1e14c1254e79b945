use Rattle.std.proofs.Common.{◌≡◌, map, take}
use Rattle.aso_outline.specs.declared.draft.DraftMember.{DraftMember}
use Rattle.aso_outline.proofs.build.parents.Given as goal

abbrev pub invariant-loop-member : goal.invariant-loop-member
invariant-loop-member l = l.parents.items ≡ map (λ (m : DraftMember). m.parent) (take l.member-index l.members)
