-- Cells as the code keeps them.
use Rattle.std.specs.Prelude.{◌≡◌, ℕ, ℤ, true, List, map}
use Rattle.std.specs.List.{list_all}
use Rattle.std.specs.Ordering.{nat_cmp}
use Rattle.std.specs.Cmp.Lexicographic.{slice_cmp}
use Rattle.std.specs.declared.cmp.Ordering.{Ordering}
use Rattle.std.specs.Global.{Vec}
use Rattle.aso_outline.specs.declared.draft.Draft.{Draft}
use Rattle.aso_spec.specs.Cells.{Cells, Key}
use Rattle.aso_cellnames.specs.Leaves.{are_leaves, leaf_counts}

abbrev pub Entry : Type 0
Entry = Vec ℕ × ℤ

abbrev pub cell_in : Entry → Key × ℤ
cell_in e = (e.0.items, e.1)

abbrev pub cells_in : List Entry → Cells
cells_in es = map cell_in es

-- the order of cells, leaf by leaf
abbrev pub vec_order : Vec ℕ → Vec ℕ → Ordering
vec_order x y = slice_cmp nat_cmp x.items y.items

-- each stands at a leaf of each base dimension
abbrev pub AreAtLeaves : Draft → Cells → Type 0
AreAtLeaves o cells = list_all (λ (c : Key × ℤ). are_leaves (leaf_counts o) c.0) cells ≡ true
