-- The faults that are found in a formula that a text spells.
use Rattle.std.specs.Prelude.{◌≡◌, ℕ, List, Some, slice_get}
use Rattle.aso_token.specs.declared.token.Placed.{Placed}
use Rattle.aso_token.specs.declared.token.Token.TheVariants.{Name}
use Rattle.aso_formula.specs.declared.fault.FormulaFault.{FormulaFault}
use Rattle.aso_formula.specs.declared.fault.FormulaFault.TheVariants.{Unknown, Foreign, NoMemory}

-- the name of this token and its place
abbrev pub IsNameOf : Placed → FormulaFault → Type 0
IsNameOf p (Unknown name at) = p ≡ record { token = Name name; at = at }
IsNameOf p (NoMemory n) = Unit {0}
IsNameOf p fault = ⊥

-- the place of this number among some
abbrev pub IsPlaceAt : List ℕ → ℕ → FormulaFault → Type 0
IsPlaceAt places k (Foreign at) = slice_get places k ≡ Some at
IsPlaceAt places k (NoMemory n) = Unit {0}
IsPlaceAt places k fault = ⊥
