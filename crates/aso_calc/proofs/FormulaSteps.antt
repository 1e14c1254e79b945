-- The value of a formula from those of its operands, and from those of its atoms.
use Rattle.std.proofs.Common.{◌≡◌, ◌∙◌, ◌++◌, List, [], ◌∷◌, map, refl, sym, ap, append-nil, append_assoc}
use Rattle.std.specs.Prelude.{Ok}
use Rattle.std.proofs.lemmas.List.{map-append}
use mathlib.Core.Former.{Count}
use Rattle.aso_num.specs.declared.value.Val.{Val}
use Rattle.aso_num.specs.Numbers.{IsInRange, ranged}
use Rattle.aso_outline.specs.declared.draft.Op.{Op}
use Rattle.aso_outline.specs.declared.draft.Expr.{Expr, Num, Cell, Neg', Bin'}
use Rattle.aso_outline.specs.declared.draft.Expr.TheVariants.{Neg, Bin}
use Rattle.aso_outline.specs.declared.draft.Expr.TheBlock.{Row_of-Expr, end_of-Expr, more_of-Expr, hidden-the_row-Expr-0}
use Rattle.aso_outline.specs.Atoms.{Atom, atoms, atoms_of_row}
use Rattle.aso_calc.specs.Values.{Outcome, applied, formula_value, negated, row_value}
use Rattle.aso_calc.specs.Positions.{Read, checked, row_from, value_from}

pub from_neg : (e : Expr) (vs : List Outcome) → value_from (Neg e) vs ≡ (negated (value_from e vs).0, (value_from e vs).1)
unfolding hidden-the_row-Expr-0 denote.Hole.Carrier.hidden
from_neg e vs = refl

pub from_bin : (op : Op) (e f : Expr) (vs : List Outcome) → value_from (Bin op e f) vs ≡ (applied op (value_from e vs).0 (value_from f (value_from e vs).1).0, (value_from f (value_from e vs).1).1)
unfolding hidden-the_row-Expr-0 denote.Hole.Carrier.hidden
from_bin op e f vs = refl

-- from the readings of both operands
pub bin_value : (op : Op) (e f : Expr) (vs : List Outcome) (first second : Read) (r : Outcome) → first ≡ value_from e vs → second ≡ value_from f first.1 → r ≡ applied op first.0 second.0
    → (r, second.1) ≡ value_from (Bin op e f) vs
bin_value op e f vs first second r left right is =
    ap (λ (x : Outcome). (x, second.1)) is
    ∙ (ap (λ (x : Read). (applied op first.0 x.0, x.1)) right
    ∙ (ap (λ (x : Read). (applied op x.0 (value_from f x.1).0, (value_from f x.1).1)) left ∙ sym (from_bin op e f vs)))

-- read in order, the atoms' values are those of the atoms
module _ (f : Atom → Outcome) (fine : (names : Atom) → checked (f names) ≡ f names) where
  mutual
    pub in_order : (e : Expr) (vs : List Outcome) → value_from e (map f (atoms e) ++ vs) ≡ (formula_value f e, vs)
    in_order (Num z) vs = refl
    in_order (Cell names) vs = ap (λ (r : Outcome). (r, vs)) (fine names)
    in_order (Neg' p e) vs = ap (λ (x : Read). (negated x.0, x.1)) (row_in_order 1 e vs)
    in_order (Bin' op p left q right) vs =
        let before : List Outcome = map f (atoms_of_row 1 right) ++ vs in
        ap (λ (ws : List Outcome). value_from (Bin' op p left q right) ws) (ap (λ (ws : List Outcome). ws ++ vs) (map-append f (atoms_of_row 1 left) (atoms_of_row 1 right)) ∙ append_assoc (map f (atoms_of_row 1 left)) (map f (atoms_of_row 1 right)) vs)
        ∙ (ap (λ (x : Read). (applied op x.0 (row_from 1 right x.1).0, (row_from 1 right x.1).1)) (row_in_order 1 left before)
        ∙ ap (λ (x : Read). (applied op (row_value f 1 left) x.0, x.1)) (row_in_order 1 right vs))

    pub row_in_order : (k : Count) (row : Row_of-Expr k) (vs : List Outcome) → row_from k row (map f (atoms_of_row k row) ++ vs) ≡ (row_value f k row, vs)
    row_in_order _ end_of-Expr vs = refl
    row_in_order _ (more_of-Expr e rest) vs =
        let behind : List Outcome = map f (atoms_of_row _ rest) ++ vs in
        ap (λ (ws : List Outcome). row_from _ (more_of-Expr e rest) ws) (ap (λ (ws : List Outcome). ws ++ vs) (map-append f (atoms e) (atoms_of_row _ rest)) ∙ append_assoc (map f (atoms e)) (map f (atoms_of_row _ rest)) vs)
        ∙ (ap (λ (x : Read). (x.0, (row_from _ rest x.1).1)) (in_order e behind)
        ∙ ap (λ (x : Read). (formula_value f e, x.1)) (row_in_order _ rest vs))
