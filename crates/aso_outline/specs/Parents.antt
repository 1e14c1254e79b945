-- Each member of a tree has one parent.
use Rattle.std.specs.Prelude.{◌≡◌, List, length}
use Rattle.std.proofs.lemmas.List.{length-map}
use Rattle.aso_outline.specs.declared.draft.DraftMember.{DraftMember}
use Rattle.aso_outline.specs.Members.{parents_of}

pub one_parent_each : (members : List DraftMember) → length (parents_of members) ≡ length members
one_parent_each members = length-map members (λ m. m.parent)
