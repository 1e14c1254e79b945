-- Data leaves by their ordinals, and their classes.
use Rattle.std.specs.Prelude.{ℕ, zero, suc, ◌==◌, ◌||◌, nat_le, nat_lt, Bool, false, not, ◌&&◌, List, [], length, Option, Some, None, if◌then◌else◌, slice_get, slice_index, unwrap_or}
use Rattle.std.specs.Option.{option_map, option_and_then}
use Rattle.std.specs.List.{list_any, position}
use Rattle.aso_tree.specs.Trees.{class_count, class_of, height, is_under}
use Rattle.aso_outline.specs.declared.draft.Draft.{Draft}
use Rattle.aso_outline.specs.declared.draft.DraftMember.{DraftMember}
use Rattle.aso_outline.specs.declared.seat.Seat.{Seat}
use Rattle.aso_outline.specs.declared.seat.Seat.TheVariants.{Inner, Carried}
use Rattle.aso_outline.specs.Leaves.{ordinal_in}
use Rattle.aso_outline.specs.Members.{Name, attr_tree, data_leaves, dim_at, has_under, is_computed, is_dynamic, leaf_names, member_at, parents_of, same_name, tree}
use Rattle.aso_outline.specs.Ranks.{named}
use Rattle.aso_outline.specs.Rules.{is_shared, name_at, shares}

-- a member that isn't computed
abbrev pub is_stored : Draft → Seat → Bool
is_stored o s = not (is_computed o s)

-- ---- data leaves

abbrev pub leaf_count : Draft → ℕ → ℕ
leaf_count o d = length (data_leaves (dim_at o d))

-- the data leaf of an ordinal
abbrev pub leaf_seat : Draft → ℕ → ℕ → Seat
leaf_seat o d leaf = Inner d 0 (slice_index (data_leaves (dim_at o d)) leaf)

-- the ordinal of the data leaf at a place of a dimension's first hierarchy
abbrev pub leaf_ordinal : Draft → ℕ → ℕ → Option ℕ
leaf_ordinal o d i = ordinal_in (tree (dim_at o d) 0) i

-- the ordinal of the data leaf of a name
abbrev pub leaf_named : Draft → ℕ → Name → Option ℕ
leaf_named o d name = position (same_name name) (leaf_names (dim_at o d))

-- the data leaf that is shared at a place of a hierarchy
abbrev pub shared_leaf : Draft → ℕ → ℕ → ℕ → Option ℕ
shared_leaf o d h i = if is_shared o (Inner d h i) then leaf_named o d (name_at o (Inner d h i)) else None

-- the data leaf that a member is: itself, or the one that it shares
abbrev pub leaf_of : Draft → Seat → Option ℕ
leaf_of o (Inner d zero i) = leaf_ordinal o d i
leaf_of o (Inner d (suc h) i) = shared_leaf o d (suc h) i
leaf_of o s = None

-- ---- classes

-- the place of the first member of a hierarchy that shares a data leaf
abbrev pub sharer_of : Draft → ℕ → ℕ → ℕ → Option ℕ
sharer_of o d h leaf = option_and_then (λ name. position (shares name) (tree (dim_at o d) h)) (slice_get (leaf_names (dim_at o d)) leaf)

-- the place of a data leaf in a hierarchy: in the first its own, in another that of the member which shares it
abbrev pub leaf_place : Draft → ℕ → ℕ → ℕ → Option ℕ
leaf_place o d zero leaf = slice_get (data_leaves (dim_at o d)) leaf
leaf_place o d (suc h) leaf = sharer_of o d (suc h) leaf

-- The class of a data leaf at a level of a hierarchy: the leaf itself at level 0, else the highest member at or above it
-- whose height is at most the level, numbered in the hierarchy's order. A leaf that the hierarchy doesn't have has none.
abbrev pub class_at : Draft → ℕ → ℕ → ℕ → ℕ → Option ℕ
class_at o d h zero leaf = Some leaf
class_at o d h (suc level) leaf = option_and_then (class_of (parents_of (tree (dim_at o d) h)) (suc level)) (leaf_place o d h leaf)

-- how many classes a level has
abbrev pub classes_at : Draft → ℕ → ℕ → ℕ → ℕ
classes_at o d h zero = leaf_count o d
classes_at o d h (suc level) = class_count (parents_of (tree (dim_at o d) h)) (suc level)

-- the data leaf lies at or below a place of a hierarchy
abbrev pub holds_place : Draft → ℕ → ℕ → ℕ → ℕ → Bool
holds_place o d h i leaf = unwrap_or (option_map (has_under (tree (dim_at o d) h) i) (slice_get (leaf_names (dim_at o d)) leaf)) false

-- The classes of a level that a member holds stand in a row. Above level 0 the member stands in a stored hierarchy, at least as
-- high as the level; at level 0 it stands in the first hierarchy, or is a shared member, which counts as its data leaf.
abbrev pub has_range : Draft → Seat → ℕ → Bool
has_range o (Inner d h i) zero = h == 0 || is_shared o (Inner d h i)
has_range o (Inner d h i) (suc level) = nat_le (suc level) (height (parents_of (tree (dim_at o d) h)) i) && not (is_dynamic o (Inner d h i))
has_range o s level = false

-- the number is in the range
abbrev pub is_in : ℕ × ℕ → ℕ → Bool
is_in range n = nat_le range.0 n && nat_lt n range.1

-- ---- attributes

-- the attributes that a data leaf carries
abbrev pub carried_names : Draft → ℕ → ℕ → List Name
carried_names o d leaf = unwrap_or (option_map (λ (m : DraftMember). m.carries) (member_at o (leaf_seat o d leaf))) []

-- a member of an attribute dimension is the other, or lies below it
abbrev pub is_attr_below : Draft → Seat → Seat → Bool
is_attr_below o (Carried a i) (Carried b j) = a == b && is_under (parents_of (attr_tree o a)) i j
is_attr_below o s t = false

-- the leaf carries the attribute member or one below it
abbrev pub carries : Draft → ℕ → ℕ → Seat → Bool
carries o d leaf (Carried a i) = list_any (λ name. unwrap_or (option_map (is_attr_below o (Carried a i)) (named o name)) false) (carried_names o d leaf)
carries o d leaf s = false
