-- Data leaves of classes.
use Rattle.std.specs.Prelude.{◌≡◌, ℕ, List, Some}
use Rattle.aso_keys.specs.declared.axis.Axis.{Axis}
use Rattle.aso_keys.specs.Axes.{AreClasses, classes_of}

-- whatever classes are chosen, one of each dimension, some data leaves have them
abbrev pub HaveLeaves : List Axis → Type 0
HaveLeaves axes = (classes : List ℕ) → AreClasses axes classes → (leaves : List ℕ) × (classes_of axes leaves ≡ Some classes)
