-- The outline that lines say, as a draft.
use Rattle.std.specs.Prelude.{ℕ, ◌-◌, false, List, [], ◌∷◌, map, length, None, ◌==◌, if◌then◌else◌, codes, slice_get, slice_index, unwrap_or}
use Rattle.std.specs.Option.{option_map}
use Rattle.std.specs.List.{filter, last_or, range_with_len}
use Rattle.aso_tree.specs.Trees.{places_of, no_parent}
use Rattle.aso_outline.specs.declared.draft.Draft.{Draft}
use Rattle.aso_outline.specs.declared.draft.DraftDim.{DraftDim}
use Rattle.aso_outline.specs.declared.draft.DraftMember.{DraftMember}
use Rattle.aso_outline.specs.declared.draft.Aggregate.TheVariants.{All}
use Rattle.aso_outline.specs.declared.draft.Op.TheVariants.{Plus}
use Rattle.aso_outline.specs.Members.{Name}

-- a line of the outline: a dimension is its member of depth 0
pub record Member : Type 0 where
  pub depth : ℕ
  pub name : Name

-- a member stands before the lines of its dimension that follow it; one of depth 0 begins the next dimension
abbrev pub joined : Member → List (List Member) → List (List Member)
joined m [] = (m ∷ []) ∷ []
joined m ([] ∷ dims) = (m ∷ []) ∷ dims
joined m ((n ∷ ns) ∷ dims) = if n.depth == 0 then (m ∷ []) ∷ (n ∷ ns) ∷ dims else (m ∷ n ∷ ns) ∷ dims

-- the lines of each dimension, its own first
abbrev pub dims_of : List Member → List (List Member)
dims_of [] = []
dims_of (m ∷ ms) = joined m (dims_of ms)

abbrev pub name_of : List Member → ℕ → Name
name_of ms i = unwrap_or (option_map (λ (m : Member). m.name) (slice_get ms i)) []

abbrev pub depths_of : List Member → List ℕ
depths_of ms = map (λ (m : Member). m.depth) ms

-- the last place before i of this depth
abbrev pub last_at : List ℕ → ℕ → ℕ → ℕ
last_at depths i depth = unwrap_or (last_or None (filter (λ j. slice_index depths j == depth) (range_with_len 0 i))) 0

-- the last place before i that is one less deep; a root has none
abbrev pub parent_at : List ℕ → ℕ → ℕ
parent_at depths i = if slice_index depths i == 0 then no_parent else last_at depths i (slice_index depths i - 1)

abbrev pub draft_member : ℕ → Name → DraftMember
draft_member parent name = record { name = name; parent = parent; shared = false; label_only = false; op = Plus; solve = None; formula = None; carries = [] }

abbrev pub member_of : List Member → ℕ → DraftMember
member_of ms i = draft_member (parent_at (depths_of ms) i) (name_of ms i)

-- one stored hierarchy, whose root has the dimension's name
abbrev pub draft_dim : List Member → DraftDim
draft_dim ms = record { name = name_of ms 0; aggregate = All; hiers = record { dynamic = false; members = map (member_of ms) (places_of ms) } ∷ [] }

unfoldable pub draft_of : List Member → Draft
draft_of ms = record { app = codes "Sample"; db = codes "Basic"; dims = map draft_dim (dims_of ms); attrs = [] }
