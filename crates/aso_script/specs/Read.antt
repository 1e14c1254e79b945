-- What functions of the reader return: what is read, unless memory ran out.
use Rattle.std.specs.Prelude.{◌≡◌, Option, Some, None, Result, Ok, Err}
use Rattle.aso_script.specs.declared.stop.Stop.{Stop}
use Rattle.aso_script.specs.declared.stop.Stop.TheVariants.{NoMemory, Faulty}
use Rattle.aso_script.specs.declared.addition.Addition.{Addition as Read}
use Rattle.aso_script.specs.Script.{Addition}

-- the addition that a value of the reader stands for
abbrev pub addition : Read → Addition
addition a = record { app = a.app; db = a.db; names = a.names; amount = a.amount }

abbrev pub Fails : {A : Type 0} → Stop → Option A → Type 0
Fails NoMemory read = Unit {0}
Fails Faulty read = read ≡ None

abbrev pub Gives : {A B : Type 0} → (A → B) → Result A Stop → Option B → Type 0
Gives view (Ok a) read = read ≡ Some (view a)
Gives view (Err e) read = Fails e read
