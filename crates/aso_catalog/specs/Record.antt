-- How a record is spelled in the bytes of a body: each record has one spelling, and nothing follows it.
use Rattle.std.specs.Prelude.{ℕ, ◌+◌, ◌*◌, ◌<◌, ◌≤◌, ◌≡◌, ◌^◌, ◌⊎◌, ◌-◌, List, slice_get, option_map, [], ◌∷◌, ◌++◌, length, Option, Some, None, FitsSigned}
use Rattle.std.specs.Int.{to_be_bytes, w32, w64, w128}
use Rattle.aso_bytes.specs.Spelling.{IsZig}
use Rattle.aso_catalog.specs.declared.record.LeafCell.{LeafCell}
use Rattle.aso_catalog.specs.declared.record.Record.{Record}

-- the bytes ASO0
abbrev pub magic : List ℕ
magic = 65 ∷ 83 ∷ 79 ∷ 48 ∷ []

-- leaves, each in four bytes
abbrev pub leaves_text : List ℕ → List ℕ
leaves_text [] = []
leaves_text (leaf ∷ leaves) = to_be_bytes w32 leaf ++ leaves_text leaves

abbrev pub AreSmall : List ℕ → Type 0
AreSmall [] = Unit {0}
AreSmall (leaf ∷ leaves) = (leaf < 2 ^ 32) × AreSmall leaves

-- a leaf of each dimension, and behind them the amount
pub record IsCell (dimensions : ℕ) (cell : LeafCell) (bytes : List ℕ) : Type 0 where
  pub count : length cell.leaves ≡ dimensions
  pub small : AreSmall cell.leaves
  pub fits : FitsSigned w128 cell.amount
  pub amount : List ℕ
  pub spelled : IsZig amount cell.amount
  pub joined : bytes ≡ leaves_text cell.leaves ++ amount

-- of two lists of one length, the first has the lesser number at the first place where they differ
abbrev pub IsBelow : List ℕ → List ℕ → Type 0
IsBelow [] others = ⊥
IsBelow (leaf ∷ leaves) [] = ⊥
IsBelow (leaf ∷ leaves) (other ∷ others) = (leaf < other) ⊎ ((leaf ≡ other) × IsBelow leaves others)

abbrev pub IsAbove : Option (List ℕ) → List ℕ → Type 0
IsAbove None leaves = Unit {0}
IsAbove (Some before) leaves = IsBelow before leaves

-- cells whose lists of leaves rise, from above the list before
abbrev pub AreCells : ℕ → Option (List ℕ) → List LeafCell → List ℕ → Type 0
AreCells dimensions before [] bytes = bytes ≡ []
AreCells dimensions before (cell ∷ cells) bytes = (front rest : List ℕ) × IsCell dimensions cell front × IsAbove before cell.leaves × (bytes ≡ front ++ rest) × AreCells dimensions (Some cell.leaves) cells rest

-- the leaves of the last of these cells
abbrev pub last_leaves : List LeafCell → Option (List ℕ)
last_leaves cells = option_map (λ (cell : LeafCell). cell.leaves) (slice_get cells (length cells - 1))

-- the magic, the layout and the commit, and then the rest
pub record AreNumbers (layout commit : ℕ) (rest bytes : List ℕ) : Type 0 where
  pub below : layout < 2 ^ 64
  pub older : commit < layout
  pub joined : bytes ≡ magic ++ (to_be_bytes w64 layout ++ (to_be_bytes w64 commit ++ rest))

-- what stands before the cells, and then the rest
pub record IsHead (layout commit : ℕ) (outline : List ℕ) (dimensions count : ℕ) (rest bytes : List ℕ) : Type 0 where
  pub below : layout < 2 ^ 64
  pub older : commit < layout
  pub short : length outline < 2 ^ 32
  pub least : 1 ≤ dimensions
  pub most : dimensions ≤ 16
  pub few : count < 2 ^ 32
  pub joined : bytes ≡ magic ++ (to_be_bytes w64 layout ++ (to_be_bytes w64 commit ++ (to_be_bytes w32 (length outline) ++ (outline ++ (dimensions ∷ (to_be_bytes w32 count ++ rest))))))

pub record IsRecord (r : Record) (bytes : List ℕ) : Type 0 where
  pub cells : List ℕ
  pub head : IsHead r.layout r.commit r.outline r.dimensions (length r.cells) cells bytes
  pub spelled : AreCells r.dimensions None r.cells cells

-- cells that have a spelling: each has a leaf of each dimension, and their lists of leaves rise
abbrev pub AreRising : ℕ → Option (List ℕ) → List LeafCell → Type 0
AreRising dimensions before [] = Unit {0}
AreRising dimensions before (cell ∷ cells) = (length cell.leaves ≡ dimensions) × IsAbove before cell.leaves × AreRising dimensions (Some cell.leaves) cells

-- a record that has a spelling
pub record IsStorable (r : Record) : Type 0 where
  pub older : r.commit < r.layout
  pub short : length r.outline < 2 ^ 32
  pub least : 1 ≤ r.dimensions
  pub most : r.dimensions ≤ 16
  pub few : length r.cells < 2 ^ 32
  pub rising : AreRising r.dimensions None r.cells

-- the greatest length of a cell: four bytes a leaf, and 19 for an amount
abbrev pub longest_cell : ℕ → ℕ
longest_cell dimensions = 4 * dimensions + 19

-- the greatest length of a record that has so long an outline, so many dimensions and so many cells
abbrev pub longest : Record → ℕ
longest r = 29 + length r.outline + length r.cells * longest_cell r.dimensions
