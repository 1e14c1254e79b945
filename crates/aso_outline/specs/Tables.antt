-- What the tables of an outline say of its draft.
use Rattle.std.specs.Prelude.{◌≡◌, ◌<◌, ℕ, ◌+◌, List, map, length, slice_index_or}
use Rattle.std.specs.HashMap.{get_by_text}
use Rattle.std.specs.List.{flat_map, range_with_len}
use Rattle.aso_tree.specs.Trees.{places_of}
use Rattle.aso_outline.specs.declared.draft.Draft.{Draft}
use Rattle.aso_outline.specs.declared.table.NameTable.{NameTable}
use Rattle.aso_outline.specs.declared.tables.AttrTable.{AttrTable}
use Rattle.aso_outline.specs.declared.tables.DimTable.{DimTable}
use Rattle.aso_outline.specs.declared.tables.Tables.{Tables}
use Rattle.aso_outline.specs.declared.tables.TreeTable.{TreeTable}
use Rattle.aso_outline.specs.Classes.{leaf_count, leaf_named, leaf_ordinal, shared_leaf, sharer_of}
use Rattle.aso_outline.specs.Graph.{AreRanks}
use Rattle.aso_outline.specs.Heights.{top_of}
use Rattle.aso_outline.specs.Leaves.{leaves_before}
use Rattle.aso_outline.specs.Members.{Name, attr_seats, attr_tree, data_leaves, dim_at, dim_seats, hier_seats, parents_of, seats, tree, whole_seats}

-- how many members stand before a base dimension, before a hierarchy, and before an attribute dimension
unfoldable pub before_dim : Draft → ℕ → ℕ
before_dim o d = length (flat_map (λ k. dim_seats (dim_at o k) k) (range_with_len 0 d))

unfoldable pub before_hier : Draft → ℕ → ℕ → ℕ
before_hier o d h = before_dim o d + (length (whole_seats (dim_at o d) d) + length (flat_map (hier_seats (dim_at o d) d) (range_with_len 0 h)))

unfoldable pub before_attr : Draft → ℕ → ℕ
before_attr o a = before_dim o (length o.dims) + length (flat_map (attr_seats o) (range_with_len 0 a))

-- the table has the data leaves of a dimension under their names
abbrev pub AreLeafNames : Draft → ℕ → NameTable → Type 0
AreLeafNames o d names = (q : Name) → get_by_text names.map q ≡ leaf_named o d q

-- one for each number below the count
abbrev pub AreEach : {X : Type 0} → (ℕ → X → Type 0) → ℕ → List X → Type 0
AreEach {X = X} P count xs = (length xs ≡ count) × ((k : ℕ) (x : X) → k < count → P k (slice_index_or xs k x))

pub record IsTreeTable (o : Draft) (d h : ℕ) (t : TreeTable) : Type 0 where
  pub first : t.first ≡ before_hier o d h
  pub forest : t.forest ≡ parents_of (tree (dim_at o d) h)
  pub top : t.top ≡ top_of o d h
  pub sharers : t.sharers.items ≡ map (sharer_of o d h) (range_with_len 0 (leaf_count o d))
  pub shared : t.shared.items ≡ map (shared_leaf o d h) (places_of (tree (dim_at o d) h))

pub record IsDimTable (o : Draft) (d : ℕ) (t : DimTable) : Type 0 where
  pub first : t.first ≡ before_dim o d
  pub end : t.end ≡ before_dim o (d + 1)
  pub leaves : t.leaves.items ≡ data_leaves (dim_at o d)
  pub ordinals : t.ordinals.items ≡ map (leaf_ordinal o d) (places_of (tree (dim_at o d) 0))
  pub counts : t.counts.items ≡ map (leaves_before (tree (dim_at o d) 0)) (range_with_len 0 (length (tree (dim_at o d) 0) + 1))
  pub trees : AreEach (IsTreeTable o d) (length (dim_at o d).hiers) t.trees.items

pub record IsAttrTable (o : Draft) (a : ℕ) (t : AttrTable) : Type 0 where
  pub first : t.first ≡ before_attr o a
  pub forest : t.forest ≡ parents_of (attr_tree o a)

pub record AreTables (o : Draft) (t : Tables) : Type 0 where
  pub seats : t.seats.items ≡ seats o
  pub dims : AreEach (IsDimTable o) (length o.dims) t.dims.items
  pub attrs : AreEach (IsAttrTable o) (length o.attrs) t.attrs.items
  pub ranks : AreRanks o t.ranks.items
