-- The data leaves of a tree of members.
use Rattle.std.specs.Prelude.{ℕ, Bool, ◌&&◌, is_none, List, [], length, Option, Some, None, if◌then◌else◌, slice_get, unwrap_or}
use Rattle.std.specs.Option.{option_map}
use Rattle.std.specs.List.{filter, range_with_len}
use Rattle.aso_tree.specs.Trees.{is_leaf}
use Rattle.aso_outline.specs.declared.draft.DraftMember.{DraftMember}
use Rattle.aso_outline.specs.Members.{Name, parents_of, member_is}

-- a leaf without a formula
abbrev pub is_data_place : List DraftMember → ℕ → Bool
is_data_place ms i = is_leaf (parents_of ms) i && member_is (λ m. is_none m.formula) ms i

-- the ordinal of the data leaf at a place: how many stand before it
abbrev pub ordinal_in : List DraftMember → ℕ → Option ℕ
ordinal_in ms i = if is_data_place ms i then Some (length (filter (is_data_place ms) (range_with_len 0 i))) else None

-- how many data leaves stand before a place
abbrev pub leaves_before : List DraftMember → ℕ → ℕ
leaves_before ms i = length (filter (is_data_place ms) (range_with_len 0 i))

-- the name at a place
abbrev pub name_in : List DraftMember → ℕ → Name
name_in ms i = unwrap_or (option_map (λ (m : DraftMember). m.name) (slice_get ms i)) []

-- what is found for the name that is shared at a place
abbrev pub shared_in : (Name → Option ℕ) → List DraftMember → ℕ → Option ℕ
shared_in found ms i = if member_is (λ m. m.shared) ms i then found (name_in ms i) else None
