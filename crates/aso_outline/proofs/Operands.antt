-- The operands of a formula in its own dimension, from those of its parts.
use Rattle.std.specs.List.{cons_option, filter, filter_map}
use Rattle.std.proofs.Common.{◌≡◌, ◌∙◌, ℕ, ◌+◌, ◌<◌, Bool, List, [], ◌∷◌, ◌++◌, length, take, get_or, ap, append-nil}
use Rattle.std.proofs.lemmas.Grind.{flat_map-append}
use Rattle.std.proofs.lemmas.List.{take_more}
use Rattle.std.proofs.lemmas.List.Elements.{filter-append, filter_map-append}
use Rattle.aso_outline.specs.declared.draft.Draft.{Draft}
use Rattle.aso_outline.specs.declared.draft.Op.{Op}
use Rattle.aso_outline.specs.declared.draft.Expr.{Expr}
use Rattle.aso_outline.specs.declared.draft.Expr.TheVariants.{Cell, Neg, Bin}
use Rattle.aso_outline.specs.declared.draft.Expr.TheBlock.{hidden-the_row-Expr-0}
use Rattle.aso_outline.specs.Atoms.{Atom, atoms}
use Rattle.aso_outline.specs.Members.{find as number_of}
use Rattle.aso_outline.specs.Ranks.{at_number, is_of_dim, operands_in, own_operands}
use Rattle.aso_outline.proofs.AtomSteps.{atoms_bin, atoms_neg}

module _ (o : Draft) (d : ℕ) where
  pub operands_cell : (names : Atom) → own_operands o d (atoms (Cell names)) ≡ operands_in o d names
  unfolding hidden-the_row-Expr-0 denote.Hole.Carrier.hidden
  operands_cell names = append-nil (operands_in o d names)

  pub operands_neg : (e : Expr) → own_operands o d (atoms (Neg e)) ≡ own_operands o d (atoms e)
  operands_neg e = ap (own_operands o d) (atoms_neg e)

  pub operands_bin : (op : Op) (e f : Expr) → own_operands o d (atoms (Bin op e f)) ≡ own_operands o d (atoms e) ++ own_operands o d (atoms f)
  operands_bin op e f = ap (own_operands o d) (atoms_bin op e f) ∙ flat_map-append (operands_in o d) (atoms e) (atoms f)

  -- one name more
  pub operands_more : (names : Atom) (i : ℕ) (name : List ℕ) → i < length names → get_or names i name ≡ name
      → operands_in o d (take (i + 1) names) ≡ operands_in o d (take i names) ++ filter (at_number (is_of_dim d) o) (cons_option (number_of o name) [])
  operands_more names i name low is =
      let test : ℕ → Bool = at_number (is_of_dim d) o in
      ap (operands_in o d) (take_more names i name low ∙ ap (λ (x : List ℕ). take i names ++ x ∷ []) is)
      ∙ (ap (filter test) (filter_map-append (number_of o) (take i names) (name ∷ [])) ∙ filter-append test (filter_map (number_of o) (take i names)) (cons_option (number_of o name) []))
