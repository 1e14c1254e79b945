-- The state of a store, and the one that a record has over its outline.
use Rattle.std.specs.Prelude.{ℕ, ◌+◌, ◌^◌, Bool, ◌&&◌, List, [], map, length, ℤ, unsigned_abs, nat_lt, ◌==◌}
use Rattle.std.specs.List.{list_all}
use Rattle.aso_outline.specs.declared.draft.Draft.{Draft}
use Rattle.aso_spec.specs.Cells.{Key, Cells}
use Rattle.aso_catalog.specs.declared.record.LeafCell.{LeafCell}
use Rattle.aso_catalog.specs.declared.record.Record.{Record}
use Rattle.aso_cellnames.specs.Leaves.{are_leaves, leaf_counts}

pub record State : Type 0 where
  -- the outline's text, and the outline that it gives
  pub text : List ℕ
  pub outline : Draft
  pub cells : Cells
  -- how many commits it has seen, and how many publishes
  pub commit : ℕ
  pub layout : ℕ

-- a store as it is created
abbrev pub new_store : List ℕ → Draft → State
new_store text o = record { text = text; outline = o; cells = []; commit = 0; layout = 1 }

-- the state after a commit that makes these its cells
abbrev pub committed : State → Cells → State
committed s cells = record { text = s.text; outline = s.outline; cells = cells; commit = s.commit + 1; layout = s.layout + 1 }

-- ---- records

abbrev pub entry : LeafCell → Key × ℤ
entry c = (c.leaves, c.amount)

-- a data leaf of each dimension, and an amount in range
abbrev pub is_cell_of : List ℕ → Key × ℤ → Bool
is_cell_of counts c = are_leaves counts c.0 && nat_lt (unsigned_abs c.1) (10 ^ 18)

-- the record's cells are cells of the outline
abbrev pub fits_outline : Record → Draft → Bool
fits_outline r o = (r.dimensions == length o.dims) && list_all (λ c. is_cell_of (leaf_counts o) (entry c)) r.cells

abbrev pub state_with : Record → Draft → State
state_with r o = record { text = r.outline; outline = o; cells = map entry r.cells; commit = r.commit; layout = r.layout }
