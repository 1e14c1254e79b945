-- What a layout of a view is to its outline.
use Rattle.std.specs.Prelude.{◌≡◌, ℕ, ◌+◌, ◌<◌, List, [], ◌∷◌, length, map}
use Rattle.std.specs.List.{range_with_len}
use Rattle.aso_outline.specs.declared.draft.Draft.{Draft}
use Rattle.aso_outline.specs.Classes.{class_at, classes_at, leaf_count}
use Rattle.aso_keys.specs.declared.axis.Axis.{Axis}
use Rattle.aso_keys.specs.Axes.{range_at, range_in}
use Rattle.aso_keys.specs.Ranges.{IsRangeOf}
use Rattle.aso_keys.specs.Views.{Choice, choice_at}

-- a dimension at a level of a hierarchy: its classes, the class of each data leaf, and the range of each member
pub record IsAxisOf (o : Draft) (d : ℕ) (choice : Choice) (a : Axis) : Type 0 where
  pub count : a.count ≡ classes_at o d choice.0 choice.1
  pub classes : a.classes ≡ map (class_at o d choice.0 choice.1) (range_with_len 0 (leaf_count o d))
  pub ranges : (m : ℕ) → IsRangeOf o d choice m (range_at a.ranges m)

-- the dimensions from one on, at a view's choices
abbrev pub AreAxes : Draft → List Choice → ℕ → List Axis → Type 0
AreAxes o xs d [] = Unit {0}
AreAxes o xs d (a ∷ axes) = IsAxisOf o d (choice_at xs d) a × AreAxes o xs (d + 1) axes

-- the dimensions of an outline at a view's choices
pub record IsLayout (o : Draft) (xs : List Choice) (axes : List Axis) : Type 0 where
  pub long : length axes ≡ length o.dims
  pub parts : AreAxes o xs 0 axes

-- the ranges of the members at a view's choices
abbrev pub AreRanges : Draft → List Choice → List Axis → Type 0
AreRanges o xs axes = (d m : ℕ) → d < length o.dims → IsRangeOf o d (choice_at xs d) m (range_in axes d m)
