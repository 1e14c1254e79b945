-- What a table of values knows.
use Rattle.std.specs.Prelude.{◌≡◌, ℕ, Bool, true, false, List, ◌∷◌, Option, Some, Ok, Err, slice_index, set}
use Rattle.std.specs.List.{find as first}
use Rattle.aso_num.specs.declared.value.Val.{Val}
use Rattle.aso_outline.specs.declared.draft.Draft.{Draft}
use Rattle.aso_outline.specs.declared.draft.Expr.{Expr}
use Rattle.aso_outline.specs.declared.draft.Tuple.{Tuple}
use Rattle.aso_outline.specs.Marks.{op_of}
use Rattle.aso_outline.specs.Numbers.{seat_of}
use Rattle.aso_calc.specs.declared.fault.CalcFault.{CalcFault}
use Rattle.aso_calc.specs.declared.fault.CalcFault.TheVariants.{Range, NoMemory}
use Rattle.aso_calc.specs.declared.table.Table.{Table}
use Rattle.aso_calc.specs.Keys.{key_of}
use Rattle.aso_calc.specs.Tables.{at}
use Rattle.aso_calc.specs.Values.{Outcome, Own, children_at, children_value, formula_value, replaced, value_step, value_within}

-- under a bound on ranks, resolved coordinates and the attributes asked stands the value there
abbrev pub Knows : Draft → Own → (List (Option ℕ) → List ℕ → Val) → Table Outcome → Type 0
Knows o own stored table = (ranks : ℕ) (base : List ℕ) (attrs : List (Option ℕ)) (r : Outcome) → at table (ranks ∷ key_of base attrs) ≡ Some r
    → r ≡ value_step o own (stored attrs) (value_within ranks o own (stored attrs)) base

-- the parts of an unfolding
abbrev pub by_atoms : Draft → (List ℕ → Outcome) → List ℕ → Expr → Outcome
by_atoms o f base e = formula_value (λ names. f (replaced o base names)) e

abbrev pub by_children : Draft → (List ℕ → Outcome) → List ℕ → ℕ → Outcome
by_children o f base d = children_value (λ k. op_of o (seat_of o k)) (λ k. f (set base d k)) (children_at o (slice_index base d))

-- the fault names the tuple that was asked
abbrev pub IsAt : Tuple → CalcFault → Type 0
IsAt t (Range tuple) = tuple ≡ t
IsAt t (NoMemory e) = Unit {0}

-- only a value out of range is a fault, and want of memory
abbrev pub IsRangeOf : Outcome → Type 0
IsRangeOf (Ok v) = ⊥
IsRangeOf (Err e) = Unit {0}

abbrev pub IsFault : Tuple → Outcome → CalcFault → Type 0
IsFault t r (Range tuple) = (tuple ≡ t) × IsRangeOf r
IsFault t r (NoMemory e) = Unit {0}

-- of some tuples the first whose value is out of range
abbrev pub is_out : Outcome → Bool
is_out (Ok v) = false
is_out (Err e) = true

abbrev pub IsFirstFault : (Tuple → Outcome) → List Tuple → CalcFault → Type 0
IsFirstFault f ts (Range tuple) = first (λ t. is_out (f t)) ts ≡ Some tuple
IsFirstFault f ts (NoMemory e) = Unit {0}
