-- Member numbers, and the dimensions' own members.
use Rattle.std.specs.Prelude.{◌≡◌, ◌<◌, ℕ, length, Option, Some, nat_lt, if◌then◌else◌, slice_get, unwrap_or}
use Rattle.std.specs.Option.{option_map}
use Rattle.aso_outline.specs.declared.draft.Draft.{Draft}
use Rattle.aso_outline.specs.declared.seat.Seat.{Seat}
use Rattle.aso_outline.specs.declared.seat.Seat.TheVariants.{Whole, Inner, Carried}
use Rattle.aso_outline.specs.declared.seat.DimRef.{DimRef}
use Rattle.aso_outline.specs.declared.seat.DimRef.TheVariants.{Base, Attr}
use Rattle.aso_outline.specs.Members.{attr_tree, dim_at, seats, tree}

-- what a member number stands for
abbrev pub seat_of : Draft → ℕ → Seat
seat_of o m = unwrap_or (slice_get (seats o) m) (Whole 0)

-- the number is that of the member
abbrev pub IsNumberOf : Draft → Seat → ℕ → Type 0
IsNumberOf o s m = slice_get (seats o) m ≡ Some s

-- the number of the member, if there is one
abbrev pub IsNumberIf : Draft → Option Seat → Option ℕ → Type 0
IsNumberIf o found m = option_map (slice_get (seats o)) m ≡ option_map (λ s. Some s) found

-- the dimension of a member
abbrev pub dim_ref : Seat → DimRef
dim_ref (Whole d) = Base d
dim_ref (Inner d h i) = Base d
dim_ref (Carried a i) = Attr a

-- the hierarchy in which a member of a base dimension stands
abbrev pub hier_of : Seat → ℕ
hier_of (Inner d h i) = h
hier_of s = 0

-- a base dimension's own member
abbrev pub own_seat : Draft → ℕ → Seat
own_seat o d = if nat_lt 1 (length (dim_at o d).hiers) then Whole d else Inner d 0 0

-- a dimension's own member
abbrev pub root_of : Draft → DimRef → Seat
root_of o (Base d) = own_seat o d
root_of o (Attr a) = Carried a 0

-- the outline has the dimension
abbrev pub IsDim : Draft → DimRef → Type 0
IsDim o (Base d) = d < length o.dims
IsDim o (Attr a) = a < length o.attrs

-- the outline has the member
abbrev pub IsSeat : Draft → Seat → Type 0
IsSeat o (Whole d) = (d < length o.dims) × (1 < length (dim_at o d).hiers)
IsSeat o (Inner d h i) = (d < length o.dims) × (h < length (dim_at o d).hiers) × (i < length (tree (dim_at o d) h))
IsSeat o (Carried a i) = (a < length o.attrs) × (i < length (attr_tree o a))
