-- What a draft is known to have once it keeps the rules.
use Rattle.std.specs.Prelude.{◌≡◌, ◌<◌, ◌≤◌, ℕ, length, map, Some}
use Rattle.std.specs.List.{Contains}
use Rattle.aso_outline.specs.declared.draft.Draft.{Draft}
use Rattle.aso_outline.specs.declared.row.Standing.TheVariants.{Stored, Label, Computed}
use Rattle.aso_outline.specs.Members.{attr_tree, data_leaves, dim_at, seats, tree}
use Rattle.aso_outline.specs.Ranks.{greatest_rank, needs, rank, rank_of, standing_of}

-- 1 to 16 base dimensions, at most 16 attribute dimensions, at most 1,048,576 members
pub record HasCounts (o : Draft) : Type 0 where
  pub some_dim : 1 ≤ length o.dims
  pub few_dims : length o.dims ≤ 16
  pub few_attrs : length o.attrs ≤ 16
  pub few_members : length (seats o) ≤ 1048576

-- each base dimension has a data leaf
abbrev pub HasDataLeaves : Draft → Type 0
HasDataLeaves o = (d : ℕ) → d < length o.dims → 0 < length (data_leaves (dim_at o d))

-- each base dimension has 1 to 8 hierarchies, and each hierarchy and each attribute dimension has a root
pub record HasRoots (o : Draft) : Type 0 where
  pub some_hier : (d : ℕ) → d < length o.dims → 1 ≤ length (dim_at o d).hiers
  pub few_hiers : (d : ℕ) → d < length o.dims → length (dim_at o d).hiers ≤ 8
  pub trees : (d h : ℕ) → d < length o.dims → h < length (dim_at o d).hiers → 0 < length (tree (dim_at o d) h)
  pub attrs : (a : ℕ) → a < length o.attrs → 0 < length (attr_tree o a)

-- Each member has a rank, of at most 64. A stored member's is 0, a label-only member's is that of what it stands for, and that of
-- a computed member is above those of all that it needs.
pub record HasRanks (o : Draft) : Type 0 where
  pub known : (n : ℕ) → rank o n ≡ Some (rank_of o n)
  pub bound : (n : ℕ) → n < length (seats o) → rank_of o n ≤ 64
  pub stored : (n : ℕ) → standing_of o n ≡ Stored → rank_of o n ≡ 0
  pub label : (n : ℕ) → standing_of o n ≡ Label → greatest_rank (map (rank o) (needs o n)) ≡ Some (rank_of o n)
  pub falls : (n k : ℕ) → standing_of o n ≡ Computed → Contains (needs o n) k → rank_of o k < rank_of o n
