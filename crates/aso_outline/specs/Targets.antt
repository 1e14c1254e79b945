-- What a member number stands for among the coordinates of a tuple.
use Rattle.std.specs.Prelude.{ℕ, ◌+◌, if◌then◌else◌, unwrap_or}
use Rattle.aso_outline.specs.declared.draft.Draft.{Draft}
use Rattle.aso_outline.specs.declared.seat.Seat.{Seat}
use Rattle.aso_outline.specs.declared.seat.Seat.TheVariants.{Whole, Inner, Carried}
use Rattle.aso_outline.specs.Members.{find, resolve}
use Rattle.aso_outline.specs.Numbers.{seat_of}
use Rattle.aso_outline.specs.Rules.{is_shared, name_at}
use Rattle.aso_outline.specs.Tables.{before_attr, before_dim, before_hier}

-- the number of a member: how many stand before it
abbrev pub number_of : Draft → Seat → ℕ
number_of o (Whole d) = before_dim o d
number_of o (Inner d h i) = before_hier o d h + i
number_of o (Carried a i) = before_attr o a + i

-- a label-only member stands for its first child, and a shared one for the data leaf of its name
abbrev pub target_of : Draft → ℕ → ℕ
target_of o n =
    if is_shared o (resolve o (seat_of o n)) then unwrap_or (find o (name_at o (resolve o (seat_of o n)))) n
    else number_of o (resolve o (seat_of o n))
