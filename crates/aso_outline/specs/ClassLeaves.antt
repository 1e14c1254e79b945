-- Data leaves of classes.
use Rattle.std.specs.Prelude.{◌≡◌, ◌<◌, ℕ, Some}
use Rattle.aso_outline.specs.declared.draft.Draft.{Draft}
use Rattle.aso_outline.specs.Classes.{class_at, leaf_count}

-- the class of a level of a hierarchy is that of a data leaf
abbrev pub HasLeaf : Draft → ℕ → ℕ → ℕ → ℕ → Type 0
HasLeaf o d h level class = (leaf : ℕ) × (leaf < leaf_count o d) × (class_at o d h level leaf ≡ Some class)
