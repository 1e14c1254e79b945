-- What a fold over a formula gives at each kind of formula.
use Rattle.std.proofs.Common.{◌≡◌, ℕ, List, ℤ, sym, ◌∙◌, ap}
use Rattle.aso_outline.specs.declared.draft.Op.{Op}
use Rattle.aso_outline.specs.declared.draft.Expr.{Expr}
use Rattle.aso_outline.specs.declared.draft.Expr.TheOpen.{Expr-F}
use Rattle.aso_outline.specs.declared.draft.Expr.TheFolds.{fold-Expr, fold-roll-Expr}
use Rattle.aso_outline.specs.declared.draft.Expr.TheVariants.{Num, Cell, Neg, Bin, rolls-Num, rolls-Cell, rolls-Neg, rolls-Bin}

pub fold_num : (A : Type 0) (step : Expr-F A → A) (z : ℤ) → fold-Expr A step (Num z) ≡ step (Expr-F.Num z)
fold_num A step z = ap (fold-Expr A step) (sym (rolls-Num z)) ∙ fold-roll-Expr A step (Expr-F.Num z)

pub fold_cell : (A : Type 0) (step : Expr-F A → A) (names : List (List ℕ)) → fold-Expr A step (Cell names) ≡ step (Expr-F.Cell names)
fold_cell A step names = ap (fold-Expr A step) (sym (rolls-Cell names)) ∙ fold-roll-Expr A step (Expr-F.Cell names)

pub fold_neg : (A : Type 0) (step : Expr-F A → A) (e : Expr) → fold-Expr A step (Neg e) ≡ step (Expr-F.Neg (fold-Expr A step e))
fold_neg A step e = ap (fold-Expr A step) (sym (rolls-Neg e)) ∙ fold-roll-Expr A step (Expr-F.Neg e)

pub fold_bin : (A : Type 0) (step : Expr-F A → A) (op : Op) (l r : Expr) → fold-Expr A step (Bin op l r) ≡ step (Expr-F.Bin op (fold-Expr A step l) (fold-Expr A step r))
fold_bin A step op l r = ap (fold-Expr A step) (sym (rolls-Bin op l r)) ∙ fold-roll-Expr A step (Expr-F.Bin op l r)
