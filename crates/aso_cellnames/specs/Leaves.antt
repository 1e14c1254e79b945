-- Lists of leaves.
use Rattle.std.specs.Prelude.{ℕ, Bool, true, false, ◌&&◌, List, [], ◌∷◌, map, length, nat_lt}
use Rattle.aso_tree.specs.Trees.{places_of}
use Rattle.aso_outline.specs.declared.draft.Draft.{Draft}
use Rattle.aso_outline.specs.Members.{data_leaves, dim_at}

-- for each dimension how many data leaves it has
abbrev pub leaf_counts : Draft → List ℕ
leaf_counts o = map (λ d. length (data_leaves (dim_at o d))) (places_of o.dims)

-- a leaf for each count, and below it
abbrev pub are_leaves : List ℕ → List ℕ → Bool
are_leaves [] [] = true
are_leaves (count ∷ counts) (leaf ∷ leaves) = nat_lt leaf count && are_leaves counts leaves
are_leaves _ _ = false
