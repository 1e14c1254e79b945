-- What is answered of a set.
use Rattle.std.specs.Prelude.{◌≡◌, ◌<◌, ◌≤◌, ◌-◌, ◌^◌, ℕ, List, [], length, min, Option, Some, None}
use Rattle.aso_outline.specs.declared.draft.Draft.{Draft}
use Rattle.aso_mdx.specs.declared.query.SetText.{SetText}
use Rattle.aso_axes.specs.declared.fault.AxisFault.{AxisFault}
use Rattle.aso_axes.specs.declared.fault.AxisFault.TheVariants.{UnknownMember, Dimension, TooLarge, NoMemory}
use Rattle.aso_axes.specs.declared.fault.AxisTuples.{AxisTuples}
use Rattle.aso_axes.specs.declared.part.Purpose.{Purpose}
use Rattle.aso_axes.specs.Members.{Own}
use Rattle.aso_axes.specs.Sets.{first_unknown, paths_of, rows_of, said_of}

-- a number, or the greatest of 64 bits where it is less
abbrev pub counted : ℕ → ℕ
counted n = min n (2 ^ 64 - 1)

abbrev pub tuples_of : Draft → Own → Purpose → SetText → AxisTuples
tuples_of o own purpose set = record { dims = (said_of o own purpose set).dims; rows = rows_of o own set }

-- each name is that of a member
abbrev pub IsKnown : Draft → Own → SetText → Type 0
IsKnown o own set = first_unknown o own (paths_of set) ≡ None

-- and no member breaks a rule of dimensions
abbrev pub IsPlaced : Draft → Own → Purpose → SetText → Type 0
IsPlaced o own purpose set = IsKnown o own set × ((said_of o own purpose set).wrong [] None ≡ None)

-- and there are at most 100,000 tuples
abbrev pub IsTaken : Draft → Own → Purpose → SetText → Type 0
IsTaken o own purpose set = IsPlaced o own purpose set × (length (rows_of o own set) ≤ 100000)

-- why a set isn't taken: the first of these that holds
abbrev pub IsSetRefusal : Draft → Own → Purpose → SetText → AxisFault → Type 0
IsSetRefusal o own purpose set (UnknownMember name) = first_unknown o own (paths_of set) ≡ Some name
IsSetRefusal o own purpose set (Dimension name) = IsKnown o own set × ((said_of o own purpose set).wrong [] None ≡ Some name)
IsSetRefusal o own purpose set (TooLarge cells) = IsPlaced o own purpose set × (100000 < length (rows_of o own set)) × (cells ≡ counted (length (rows_of o own set)))
IsSetRefusal o own purpose set (NoMemory e) = Unit {0}
