-- The range of classes that a member of an outline holds at a view.
use Rattle.std.specs.Prelude.{◌≡◌, ◌<◌, ◌≤◌, ◌==◌, ◌&&◌, ◌||◌, ℕ, Bool, false, Option, Some, IfSome, is_some, nat_lt, slice_get, unwrap_or}
use Rattle.std.specs.Option.{option_map}
use Rattle.aso_outline.specs.declared.draft.Draft.{Draft}
use Rattle.aso_outline.specs.declared.seat.Seat.{Seat}
use Rattle.aso_outline.specs.declared.seat.Seat.TheVariants.{Whole, Inner, Carried}
use Rattle.aso_outline.specs.Classes.{class_at, classes_at, has_range, is_in, is_stored, leaf_count}
use Rattle.aso_outline.specs.Members.{holds, resolve, seats}
use Rattle.aso_outline.specs.Numbers.{hier_of, seat_of}
use Rattle.aso_outline.specs.Ranks.{is_of_dim}
use Rattle.aso_keys.specs.Views.{Choice}

-- a member of a base dimension before this one
abbrev pub stands_before : ℕ → Seat → Bool
stands_before d (Whole e) = nat_lt e d
stands_before d (Inner e h i) = nat_lt e d
stands_before d (Carried a i) = false

-- A stored member of the dimension, where what it stands for is in the chosen hierarchy and at least as high as the level. At
-- level 0 that is the first hierarchy, and a shared member counts as its data leaf.
abbrev pub is_ranged_seat : Draft → ℕ → Choice → Seat → Bool
is_ranged_seat o d x s = is_of_dim d s && (is_stored o s && (has_range o (resolve o s) x.1 && (x.1 == 0 || hier_of (resolve o s) == x.0)))

abbrev pub is_ranged : Draft → ℕ → Choice → ℕ → Bool
is_ranged o d x m = unwrap_or (option_map (is_ranged_seat o d x) (slice_get (seats o) m)) false

-- the classes from the first on, before the second, are those of the data leaves that the member holds
pub record IsRange (o : Draft) (d : ℕ) (x : Choice) (s : Seat) (range : ℕ × ℕ) : Type 0 where
  pub exactly : (leaf class : ℕ) → leaf < leaf_count o d → class_at o d x.0 x.1 leaf ≡ Some class → is_in range class ≡ holds o s leaf
  pub in_order : range.0 ≤ range.1
  pub within : range.1 ≤ classes_at o d x.0 x.1

-- the range of a member, if it has one
pub record IsRangeOf (o : Draft) (d : ℕ) (x : Choice) (m : ℕ) (range : Option (ℕ × ℕ)) : Type 0 where
  pub there : is_some range ≡ is_ranged o d x m
  pub exact : IfSome range (IsRange o d x (seat_of o m))
