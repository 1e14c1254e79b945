-- What a fault of reading a record says.
use Rattle.std.specs.Prelude.{◌≡◌, Result, Ok, Err}
use Rattle.aso_catalog.specs.declared.fault.RecordFault.{RecordFault}
use Rattle.aso_catalog.specs.declared.fault.RecordFault.TheVariants.{Bad, NoMemory}

abbrev pub BadIs : RecordFault → Type 0 → Type 0
BadIs (Bad at) P = (at ≡ 0) × P
BadIs NoMemory P = Unit {0}

-- where bytes are refused, this is so
abbrev pub OnBad : {T : Type 0} → Result T RecordFault → Type 0 → Type 0
OnBad (Ok value) P = Unit {0}
OnBad (Err fault) P = BadIs fault P
