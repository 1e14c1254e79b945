-- The cells of a record where an amount is added to one.
use Rattle.std.specs.Prelude.{◌≡◌, ◌<◌, ◌^◌, ℤ, ◌+ℤ◌, unsigned_abs, Bool, false, List, [], ◌∷◌}
use Rattle.std.specs.Ordering.{is_eq, is_gt, match_ordering}
use Rattle.aso_spec.specs.Cells.{Key, key_order}
use Rattle.aso_catalog.specs.declared.record.LeafCell.{LeafCell}

abbrev pub cell_at : Key → ℤ → LeafCell
cell_at key z = record { leaves = key; amount = z }

-- a cell that stands before the key
abbrev pub is_before : Key → LeafCell → Bool
is_before key cell = is_gt (key_order key cell.leaves)

-- the first of these cells is the key's
abbrev pub is_first : Key → List LeafCell → Bool
is_first key [] = false
is_first key (c ∷ cs) = is_eq (key_order key c.leaves)

-- the cell becomes its old amount, 0 where it is missing, plus the amount
abbrev pub add_cell : Key → ℤ → List LeafCell → List LeafCell
add_cell key z [] = cell_at key z ∷ []
add_cell key z (c ∷ cs) = match_ordering (key_order key c.leaves) (cell_at key z ∷ c ∷ cs) (cell_at c.leaves (c.amount +ℤ z) ∷ cs) (c ∷ add_cell key z cs)

-- the amount that it then has
abbrev pub sum_in : Key → ℤ → List LeafCell → ℤ
sum_in key z [] = z
sum_in key z (c ∷ cs) = match_ordering (key_order key c.leaves) z (c.amount +ℤ z) (sum_in key z cs)

-- the first of these cells doesn't stand before the key
abbrev pub IsPlace : Key → List LeafCell → Type 0
IsPlace key [] = Unit {0}
IsPlace key (c ∷ cs) = is_before key c ≡ false

-- the amount is in range
abbrev pub IsSmall : LeafCell → Type 0
IsSmall c = unsigned_abs c.amount < 10 ^ 18

-- so is that of the first of these cells, if there is one
abbrev pub IsSmallFirst : List LeafCell → Type 0
IsSmallFirst [] = Unit {0}
IsSmallFirst (c ∷ cs) = IsSmall c
