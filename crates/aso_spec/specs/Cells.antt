-- The cells of a database: a finite map from lists of leaf ordinals, one for each base dimension in outline order, to
-- amounts in units of 1/10000. It is the list of its entries in the order of the keys, so equal maps are equal lists.
use Rattle.std.specs.Prelude.{ℕ, Bool, true, false, ◌&&◌, List, [], ◌∷◌, map, Option, ℤ, ◌+ℤ◌, IsTrue}
use Rattle.std.specs.Ordering.{nat_cmp, match_ordering}
use Rattle.std.specs.Cmp.Lexicographic.{slice_cmp}
use Rattle.std.specs.declared.cmp.Ordering.{Ordering}
use Rattle.std.specs.FinMap.{is_sorted}
use Rattle.std.specs.FinMap as map
use Rattle.std.specs.List.{filter, fold}
use Rattle.aso_num.specs.declared.value.Val.{Val}
use Rattle.aso_num.specs.declared.value.Val.TheVariants.{Missing, Num}
use Rattle.aso_num.specs.Numbers.{sum_of}
use Rattle.aso_outline.specs.declared.draft.Draft.{Draft}
use Rattle.aso_outline.specs.declared.seat.Seat.{Seat}
use Rattle.aso_outline.specs.Members.{holds}

abbrev pub Key : Type 0
Key = List ℕ

abbrev pub key_order : Key → Key → Ordering
key_order a b = slice_cmp nat_cmp a b

abbrev pub Cells : Type 0
Cells = List (Key × ℤ)

abbrev pub IsCells : Cells → Type 0
IsCells cells = IsTrue (is_sorted key_order cells)

-- the amount at a key, if the cell is present; a present zero differs from a missing cell
abbrev pub amount_at : Cells → Key → Option ℤ
amount_at cells key = map.find key_order key cells

-- the cell becomes its old amount, 0 where it is missing, plus the amount
abbrev pub add_at : Key → ℤ → Cells → Cells
add_at key z [] = (key, z) ∷ []
add_at key z (c ∷ cs) = match_ordering (key_order key c.0) ((key, z) ∷ c ∷ cs) ((c.0, c.1 +ℤ z) ∷ cs) (c ∷ add_at key z cs)

abbrev pub added : Cells → Key × ℤ → Cells
added cells c = add_at c.0 c.1 cells

-- the cells of a list of records, summed at each key
unfoldable pub summed : List (Key × ℤ) → Cells
summed records = fold added [] records

-- every coordinate of a key is a leaf that the tuple's member of that dimension holds
abbrev pub selects : Draft → List Seat → Key → Bool
selects o [] [] = true
selects o (s ∷ ss) (leaf ∷ leaves) = holds o s leaf && selects o ss leaves
selects o _ _ = false

-- the sum of the cells whose keys pass a test, or missing where none does
abbrev pub total : (Key → Bool) → Cells → Val
total test cells = fold sum_of Missing (map (λ c. Num c.1) (filter (λ c. test c.0) cells))

-- the stored value of a tuple, one member for each base dimension: the sum of the cells that it selects
unfoldable pub stored : Draft → List Seat → Cells → Val
stored o tuple cells = total (selects o tuple) cells
