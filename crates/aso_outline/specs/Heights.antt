-- Heights of members, the top of a hierarchy, and children.
use Rattle.std.specs.Prelude.{ℕ, zero, suc, ◌+◌, not, List, map, length, Option, Some, None, nat_lt, if◌then◌else◌}
use Rattle.std.specs.Option.{option_map}
use Rattle.std.specs.List.{filter}
use Rattle.aso_tree.specs.Trees.{greatest, height, places_of, first_child, next_child}
use Rattle.aso_outline.specs.declared.draft.Draft.{Draft}
use Rattle.aso_outline.specs.declared.draft.DraftMember.{DraftMember}
use Rattle.aso_outline.specs.declared.seat.Seat.{Seat}
use Rattle.aso_outline.specs.declared.seat.Seat.TheVariants.{Whole, Inner, Carried}
use Rattle.aso_outline.specs.Members.{attr_tree, dim_at, member_is, parents_of, place_of, tree, tree_of}

-- the height of a hierarchy's root
abbrev pub root_height : Draft → ℕ → ℕ → ℕ
root_height o d h = height (parents_of (tree (dim_at o d) h)) 0

-- The height of a leaf is 0, that of another member one more than the greatest of its children. The children of a
-- dimension's own member above several hierarchies are their roots.
abbrev pub height_of : Draft → Seat → ℕ
height_of o (Whole d) = greatest (map (root_height o d) (places_of (dim_at o d).hiers)) + 1
height_of o s = height (parents_of (tree_of o s)) (place_of s)

-- the greatest height of a tree's members that aren't label only
abbrev pub top_height : List DraftMember → ℕ
top_height ms = greatest (map (height (parents_of ms)) (filter (member_is (λ m. not m.label_only) ms) (places_of ms)))

abbrev pub top_of : Draft → ℕ → ℕ → ℕ
top_of o d h = top_height (tree (dim_at o d) h)

abbrev pub first_child_of : Draft → Seat → Option Seat
first_child_of o (Whole d) = Some (Inner d 0 0)
first_child_of o (Inner d h i) = option_map (Inner d h) (first_child (parents_of (tree (dim_at o d) h)) i)
first_child_of o (Carried a i) = option_map (Carried a) (first_child (parents_of (attr_tree o a)) i)

-- behind a root comes that of the next hierarchy
abbrev pub next_child_of : Draft → Seat → Option Seat
next_child_of o (Whole d) = None
next_child_of o (Inner d h zero) = if nat_lt (h + 1) (length (dim_at o d).hiers) then Some (Inner d (h + 1) 0) else None
next_child_of o (Inner d h (suc i)) = option_map (Inner d h) (next_child (parents_of (tree (dim_at o d) h)) (suc i))
next_child_of o (Carried a i) = option_map (Carried a) (next_child (parents_of (attr_tree o a)) i)
