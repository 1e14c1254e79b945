-- Views of an outline: what they may choose of each dimension, and their numbers.
use Rattle.std.specs.Prelude.{◌≡◌, ℕ, ◌+◌, ◌*◌, ◌<◌, ◌≤◌, ◌⊎◌, false, List, [], ◌∷◌, length, map, Some, nat_lt, if◌then◌else◌, slice_get, unwrap_or}
use Rattle.std.specs.List.{flat_map, range_with_len}
use Rattle.aso_tree.specs.Trees.{places_of}
use Rattle.aso_outline.specs.declared.draft.Draft.{Draft}
use Rattle.aso_outline.specs.declared.draft.Aggregate.{Aggregate}
use Rattle.aso_outline.specs.declared.draft.Aggregate.TheVariants.{All, Top, Bottom}
use Rattle.aso_outline.specs.declared.seat.Seat.TheVariants.{Inner}
use Rattle.aso_outline.specs.Members.{dim_at, is_dynamic}
use Rattle.aso_outline.specs.Heights.{top_of}

-- a hierarchy and a level of it; (0, 0) is level 0
abbrev pub Choice : Type 0
Choice = ℕ × ℕ

-- which of the levels from 1 to the top are offered
abbrev pub levels : Aggregate → ℕ → List ℕ
levels All top = range_with_len 1 top
levels Top top = if nat_lt 0 top then top ∷ [] else []
levels Bottom top = []

-- a stored hierarchy with each of its levels that are offered
abbrev pub hier_choices : Draft → ℕ → ℕ → List Choice
hier_choices o d h = if is_dynamic o (Inner d h 0) then [] else map (λ (level : ℕ). (h, level)) (levels (dim_at o d).aggregate (top_of o d h))

-- what views choose of a dimension
abbrev pub choices : Draft → ℕ → List Choice
choices o d = (0, 0) ∷ flat_map (hier_choices o d) (places_of (dim_at o d).hiers)

unfoldable pub all_choices : Draft → List (List Choice)
all_choices o = map (choices o) (places_of o.dims)

-- how many views there are
abbrev pub views : List (List Choice) → ℕ
views [] = 1
views (c ∷ cs) = length c * views cs

-- The number of a view: the place of each choice among those of its dimension, read as a number with one digit for each
-- dimension, the last the fastest.
abbrev pub IsNumbered : List (List Choice) → ℕ → List Choice → Type 0
IsNumbered [] n [] = n ≡ 0
IsNumbered [] n (x ∷ xs) = ⊥
IsNumbered (c ∷ cs) n [] = ⊥
IsNumbered (c ∷ cs) n (x ∷ xs) = (place : ℕ) × (rest : ℕ) × (slice_get c place ≡ Some x) × (n ≡ place * views cs + rest) × IsNumbered cs rest xs

-- ---- views that a layout is made of, whether or not the outline offers them

abbrev pub choice_at : List Choice → ℕ → Choice
choice_at xs d = unwrap_or (slice_get xs d) (0, 0)

-- level 0, or one of the levels of a stored hierarchy from 1 to its top
abbrev pub IsChoice : Draft → ℕ → Choice → Type 0
IsChoice o d x = ((x.0 ≡ 0) × (x.1 ≡ 0)) ⊎ ((x.0 < length (dim_at o d).hiers) × (is_dynamic o (Inner d x.0 0) ≡ false) × (1 ≤ x.1) × (x.1 ≤ top_of o d x.0))

pub record IsView (o : Draft) (xs : List Choice) : Type 0 where
  pub long : length xs ≡ length o.dims
  pub choice : (d : ℕ) → d < length o.dims → IsChoice o d (choice_at xs d)

-- of a dimension: the finer is at level 0, or both are in one hierarchy and the coarser at no lower a level
abbrev pub IsCoarserChoice : Choice → Choice → Type 0
IsCoarserChoice coarse fine = (fine.1 ≡ 0) ⊎ ((coarse.0 ≡ fine.0) × (fine.1 ≤ coarse.1))

-- a view that is coarser at each dimension, or the same
abbrev pub IsCoarserView : List Choice → List Choice → Type 0
IsCoarserView [] [] = Unit {0}
IsCoarserView [] (v ∷ vs) = ⊥
IsCoarserView (w ∷ ws) [] = ⊥
IsCoarserView (w ∷ ws) (v ∷ vs) = IsCoarserChoice w v × IsCoarserView ws vs

-- level 0 of each dimension
abbrev pub IsBase : List Choice → Type 0
IsBase [] = Unit {0}
IsBase (x ∷ xs) = (x.1 ≡ 0) × IsBase xs
