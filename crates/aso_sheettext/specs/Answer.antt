-- What the reading of a line and of a text answers.
use Rattle.std.specs.Prelude.{ℕ, List, Option, Some, None}
use Rattle.aso_sheettext.specs.declared.fault.SheetFault.{SheetFault}
use Rattle.aso_sheettext.specs.declared.fault.SheetFault.TheVariants.{Line as AtLine, NoMemory as OutOfMemory}
use Rattle.aso_sheettext.specs.declared.text.PartText.{PartText}
use Rattle.aso_sheettext.specs.Sheet.{Part}
use Rattle.aso_sheettext.specs.Written.{IsWritten}
use Rattle.aso_sheettext.specs.Texts.{part}

-- a line says this part, or none
abbrev pub SaysPart : List ℕ → Option PartText → Type 0
SaysPart line None = (p : Part) → IsWritten p line → ⊥
SaysPart line (Some p) = IsWritten (part p) line

-- a place of such a fault, unless memory ran out
abbrev pub HasFault : (ℕ → Type 0) → SheetFault → Type 0
HasFault fault (AtLine at) = fault at
HasFault fault (OutOfMemory n) = Unit {0}
