-- The lines as the code has them, and its table of the last place at each depth.
use Rattle.std.specs.Prelude.{ℕ, ◌-◌, Bool, not, List, ◌==◌, if◌then◌else◌, slice_index_or}
use Rattle.aso_tree.specs.Trees.{no_parent}
use Rattle.aso_spec.specs.Drafts.{Member as Line}
use Rattle.aso_sheettext.specs.declared.text.MemberText.{MemberText}

abbrev pub line_of : MemberText → Line
line_of m = record { depth = m.depth; name = m.name.now }

-- it begins no dimension
abbrev pub is_deeper : Line → Bool
is_deeper m = not (m.depth == 0)

-- the place in the table, 0 where it has none
abbrev pub last_in : List ℕ → ℕ → ℕ
last_in last depth = slice_index_or last depth 0

-- the parent of a line of some depth
abbrev pub parent_by : List ℕ → ℕ → ℕ
parent_by last depth = if depth == 0 then no_parent else last_in last (depth - 1)
