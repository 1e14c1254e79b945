use Rattle.std.proofs.Common.{◌∙◌, ◌++◌, ℕ, List, sym, ap, append_assoc}
use Rattle.aso_outline.specs.declared.draft.Expr.{Expr}
use Rattle.aso_outline.specs.Atoms.{atoms}
use Rattle.aso_outline.specs.Ranks.{own_operands}
use Rattle.aso_outline.proofs.Operands.{operands_bin}
use Rattle.aso_outline.proofs.needs.+push_operands.Goals as goal

pub returns-in_ok-push_operands-in-Bin-2 : goal.returns-in_ok-push_operands-in-Bin-2
returns-in_ok-push_operands-in-Bin-2 t c =
    let of : Expr → List ℕ = λ e. own_operands c.args.draft.now c.args.dim (atoms e) in
    let before : List ℕ = c.args.needs.now.items in
    let left : Expr = c.in-Bin.left in
    let right : Expr = c.in-Bin.right in
    c.in_ok-push_operands-in-Bin-2.ensures
    ∙ (ap (λ (xs : List ℕ). xs ++ of c.get-in-Bin-2.result.now) c.in_ok-push_operands-in-Bin.ensures
    ∙ (append_assoc before (of c.get-in-Bin.result.now) (of c.get-in-Bin-2.result.now)
    ∙ (ap (λ (e : Expr). before ++ (of e ++ of c.get-in-Bin-2.result.now)) c.get-in-Bin.ensures
    ∙ (ap (λ (e : Expr). before ++ (of left ++ of e)) c.get-in-Bin-2.ensures
    ∙ ap (λ (xs : List ℕ). before ++ xs) (sym (ap of c.in-Bin.is ∙ operands_bin c.args.draft.now c.args.dim c.in-Bin.op left right))))))
