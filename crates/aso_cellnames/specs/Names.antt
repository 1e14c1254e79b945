-- What names come to as those of a cell: the first that is unknown or wrong, and the cell.
use Rattle.std.specs.Prelude.{ℕ, Bool, not, ◌&&◌, List, [], ◌∷◌, ◌++◌, map, length, Option, Some, None, is_none, ◌==◌, if◌then◌else◌, slice_index, slice_index_or}
use Rattle.std.specs.Option.{option_map, option_or}
use Rattle.std.specs.List.{find, list_any}
use Rattle.std.specs.Borrow.{Bor}
use Rattle.aso_tree.specs.Trees.{places_of}
use Rattle.aso_outline.specs.declared.draft.Draft.{Draft}
use Rattle.aso_outline.specs.Members.{Name, dim_at, dim_of, is_data_leaf, leaf_names}
use Rattle.aso_outline.specs.Ranks.{named}
use Rattle.aso_spec.specs.Cells.{Key}
use Rattle.aso_spec.specs.Named.{names_one, ordinals_named}
use Rattle.aso_spec.specs.Named.{seat_of}

-- names as the code borrows them
abbrev pub texts : List (Bor (List ℕ)) → List Name
texts names = map (λ n. n.now) names

abbrev pub told : Option (Bor (List ℕ)) → Option Name
told name = option_map (λ n. n.now) name

abbrev pub is_unknown : Draft → Name → Bool
is_unknown o name = is_none (named o name)

-- the dimension of a name's member
abbrev pub dim_named : Draft → Name → ℕ
dim_named o name = dim_of (seat_of o name)

abbrev pub has : List ℕ → ℕ → Bool
has dims d = list_any (λ x. x == d) dims

-- the first of a cell's names that is no data leaf's, or whose dimension one before it has taken
abbrev pub misplaced : Draft → List ℕ → List Name → Option Name
misplaced o taken [] = None
misplaced o taken (n ∷ ns) =
    if names_one (is_data_leaf o) o n && not (has taken (dim_named o n)) then misplaced o (taken ++ dim_named o n ∷ []) ns else Some n

-- the first dimension of which the names name no data leaf
abbrev pub lacking : Draft → List Name → Option Name
lacking o names = option_map (λ d. (dim_at o d).name) (find (λ d. length (ordinals_named o names d) == 0) (places_of o.dims))

-- the name that keeps some names from being those of a cell
abbrev pub wrong_in_cell : Draft → List Name → Option Name
wrong_in_cell o names = option_or (misplaced o [] names) (lacking o names)

-- the names of a cell's leaves, in the order of the dimensions
abbrev pub cell_names : Draft → Key → List Name
cell_names o key = map (λ d. slice_index_or (leaf_names (dim_at o d)) (slice_index key d) []) (places_of o.dims)
