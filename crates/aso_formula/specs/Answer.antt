-- What the reading of a text answers.
use Rattle.std.specs.Prelude.{◌≡◌, ℕ, true, List, Option, Some, None, Result, Ok, Err, slice_get}
use Rattle.std.specs.List.{list_all}
use Rattle.aso_token.specs.declared.token.Token.TheVariants.{Name}
use Rattle.aso_outline.specs.declared.draft.Draft.{Draft}
use Rattle.aso_outline.specs.declared.draft.Expr.{Expr}
use Rattle.aso_outline.specs.Atoms.{atoms}
use Rattle.aso_outline.specs.Extend.{first_foreign}
use Rattle.aso_outline.specs.Rules.{is_atom}
use Rattle.aso_formula.specs.declared.fault.FormulaFault.{FormulaFault}
use Rattle.aso_formula.specs.declared.fault.FormulaFault.TheVariants.{Syntax, Unknown, Foreign, NoMemory}
use Rattle.aso_formula.specs.Formula.{IsFormulaFault, SpellsFormula}
use Rattle.aso_formula.specs.Places.{atom_places, first_unknown}

-- this formula, unless memory ran out
abbrev pub Reads : Result Expr FormulaFault → Expr → Type 0
Reads (Ok e) f = e ≡ f
Reads (Err (NoMemory n)) f = Unit {0}
Reads (Err fault) f = ⊥

-- the place of the text's fault, unless memory ran out
abbrev pub HasFault : List ℕ → FormulaFault → Type 0
HasFault text (Syntax at) = IsFormulaFault text at
HasFault text (NoMemory n) = Unit {0}
HasFault text fault = ⊥

-- ---- a text of a formula in a dimension of an outline

-- each name is that of a member, and each atom one of a formula in the dimension
pub record IsRight (o : Draft) (d : ℕ) (text : List ℕ) (e : Expr) : Type 0 where
  pub known : first_unknown o text ≡ None
  pub atoms : list_all (is_atom o d) (atoms e) ≡ true

-- the place of the atom of this number
abbrev pub IsPlaceOf : List ℕ → Option ℕ → ℕ → Type 0
IsPlaceOf places atom at = (k : ℕ) × (atom ≡ Some k) × (slice_get places k ≡ Some at)

-- What is wrong with the formula that the text spells: the first name that no member has; else the first atom that isn't one of a
-- formula in the dimension.
abbrev pub IsWrong : Draft → ℕ → List ℕ → Expr → FormulaFault → Type 0
IsWrong o d text e (Unknown name at) = first_unknown o text ≡ Some (record { token = Name name; at = at })
IsWrong o d text e (Foreign at) = (first_unknown o text ≡ None) × IsPlaceOf (atom_places text) (first_foreign o d (atoms e)) at
IsWrong o d text e (NoMemory n) = Unit {0}
IsWrong o d text e (Syntax at) = ⊥

-- the formula, where it is right, or what is wrong with it
abbrev pub Judges : Draft → ℕ → List ℕ → Expr → Result Expr FormulaFault → Type 0
Judges o d text e (Ok f) = (f ≡ e) × IsRight o d text e
Judges o d text e (Err fault) = IsWrong o d text e fault

-- why a text is refused: it spells no formula, or one that is wrong
abbrev pub IsRefusal : Draft → ℕ → List ℕ → FormulaFault → Type 0
IsRefusal o d text (Syntax at) = IsFormulaFault text at
IsRefusal o d text (NoMemory n) = Unit {0}
IsRefusal o d text fault = (e : Expr) × SpellsFormula text e × IsWrong o d text e fault
