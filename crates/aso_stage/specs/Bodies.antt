-- How long the body of a record may be whose amounts are in range.
use Rattle.std.specs.Prelude.{ℕ, ◌+◌, ◌*◌, length}
use Rattle.aso_catalog.specs.declared.record.Record.{Record}

-- the greatest length of such a cell: four bytes a leaf, and 9 for an amount below 10^18
abbrev pub longest_cell_in_range : ℕ → ℕ
longest_cell_in_range dimensions = 4 * dimensions + 9

abbrev pub longest_in_range : Record → ℕ
longest_in_range r = 29 + length r.outline + length r.cells * longest_cell_in_range r.dimensions
