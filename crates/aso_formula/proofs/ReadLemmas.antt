-- What is wrong with a formula, from what was found.
use Rattle.std.proofs.Common.{◌≡◌, ◌∙◌, ℕ, ◌<◌, not, List, length, Some, None, Err, sym, ap, arith}
use Rattle.aso_token.specs.declared.token.Placed.{Placed}
use Rattle.aso_outline.specs.declared.draft.Draft.{Draft}
use Rattle.aso_outline.specs.declared.draft.Expr.{Expr}
use Rattle.aso_outline.specs.Atoms.{Atom, atoms}
use Rattle.aso_outline.specs.Extend.{first_foreign}
use Rattle.aso_outline.specs.Rules.{is_atom}
use Rattle.aso_outline.proofs.ExtendLemmas.{all_pass}
use Rattle.aso_outline.proofs.Nexts.{position_within}
use Rattle.aso_formula.specs.declared.fault.FormulaFault.{FormulaFault}
use Rattle.aso_formula.specs.declared.fault.FormulaFault.TheVariants.{Syntax, Unknown, Foreign, NoMemory}
use Rattle.aso_formula.specs.Formula.{SpellsFormula}
use Rattle.aso_formula.specs.Answer.{HasFault, IsRefusal, IsRight, IsWrong, Reads}
use Rattle.aso_formula.specs.Found.{IsNameOf, IsPlaceAt}
use Rattle.aso_formula.specs.Places.{atom_places, first_unknown}
use Rattle.aso_formula.proofs.PlaceLemmas.{atoms_placed}

module _ (o : Draft) (d : ℕ) (text : List ℕ) (e : Expr) where
  pub wrong_name : (p : Placed) (fault : FormulaFault) → first_unknown o text ≡ Some p → IsNameOf p fault → IsWrong o d text e fault
  wrong_name p (Unknown name at) found is = found ∙ ap Some is
  wrong_name p (NoMemory n) found is = tt
  wrong_name p (Syntax at) found is = absurd is
  wrong_name p (Foreign at) found is = absurd is

  pub wrong_atom : (k : ℕ) (fault : FormulaFault) → first_unknown o text ≡ None → first_foreign o d (atoms e) ≡ Some k → IsPlaceAt (atom_places text) k fault → IsWrong o d text e fault
  wrong_atom k (Foreign at) none found is = (none, (k, found, is))
  wrong_atom k (NoMemory n) none found is = tt
  wrong_atom k (Syntax at) none found is = absurd is
  wrong_atom k (Unknown name at) none found is = absurd is

  -- an atom of the formula has a place
  pub atom_within : (k : ℕ) → SpellsFormula text e → first_foreign o d (atoms e) ≡ Some k → k < length (atom_places text)
  atom_within k spelled found =
      let low : k < length (atoms e) = position_within (λ (a : Atom). not (is_atom o d a)) (atoms e) k (sym found) in
      omega (arith, low, atoms_placed text e spelled)

  pub all_right : first_unknown o text ≡ None → first_foreign o d (atoms e) ≡ None → IsRight o d text e
  all_right known none = record { known = known; atoms = all_pass (is_atom o d) (atoms e) none }

  pub refused_if_wrong : (fault : FormulaFault) → SpellsFormula text e → IsWrong o d text e fault → IsRefusal o d text fault
  refused_if_wrong (Syntax at) spelled is = absurd is
  refused_if_wrong (Unknown name at) spelled is = (e, spelled, is)
  refused_if_wrong (Foreign at) spelled is = (e, spelled, is)
  refused_if_wrong (NoMemory n) spelled is = tt

  -- a fault of a text that spells a formula is want of memory
  pub memory_alone : (fault : FormulaFault) → Reads (Err fault) e → IsWrong o d text e fault
  memory_alone (NoMemory n) is = tt
  memory_alone (Syntax at) is = absurd is
  memory_alone (Unknown name at) is = absurd is
  memory_alone (Foreign at) is = absurd is

pub refused_if_faulty : (o : Draft) (d : ℕ) (text : List ℕ) (fault : FormulaFault) → HasFault text fault → IsRefusal o d text fault
refused_if_faulty o d text (Syntax at) is = is
refused_if_faulty o d text (NoMemory n) is = tt
refused_if_faulty o d text (Unknown name at) is = absurd is
refused_if_faulty o d text (Foreign at) is = absurd is
