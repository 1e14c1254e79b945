-- The leaves that names name, dimension by dimension.
use Rattle.std.specs.Prelude.{◌≡◌, ◌<◌, ℕ, List, map, Option, Some, None, IfSome, ◌==◌, if◌then◌else◌, slice_get, slice_index_or, unwrap_or, length}
use Rattle.aso_outline.specs.declared.draft.Draft.{Draft}
use Rattle.aso_outline.specs.Classes.{leaf_count}
use Rattle.aso_outline.specs.Members.{Name}
use Rattle.aso_spec.specs.Named.{ordinals_named}

-- what a leaf, its dimension and its ordinal, is in a dimension
abbrev pub leaf_in : ℕ → Option (ℕ × ℕ) → Option ℕ
leaf_in d None = None
leaf_in d (Some p) = if d == p.0 then Some p.1 else None

-- a leaf of the outline
abbrev pub IsLeaf : Draft → ℕ × ℕ → Type 0
IsLeaf o p = (p.0 < length o.dims) × (p.1 < leaf_count o p.0)

-- the first of the dimension's leaves that the names name, if they name one
abbrev pub IsFirst : Draft → List Name → ℕ → Option ℕ → Type 0
IsFirst o names d slot = (slot ≡ slice_get (ordinals_named o names d) 0) × IfSome slot (λ leaf. leaf < leaf_count o d)

abbrev pub slot_at : List (Option ℕ) → ℕ → Option ℕ
slot_at slots d = slice_index_or slots d None

-- of each dimension the first leaf that the names name
abbrev pub AreFirst : Draft → List Name → List (Option ℕ) → Type 0
AreFirst o names slots = (length slots ≡ length o.dims) × ((d : ℕ) → d < length o.dims → IsFirst o names d (slot_at slots d))

-- the leaves, 0 where there is none
abbrev pub leaves_in : List (Option ℕ) → List ℕ
leaves_in slots = map (λ slot. unwrap_or slot 0) slots
