use Rattle.std.proofs.Common.{◌∙◌, ◌++◌, List, map, sym, ap, append_assoc}
use Rattle.aso_outline.specs.declared.draft.Expr.{Expr}
use Rattle.aso_outline.specs.Atoms.{Atom, atoms}
use Rattle.aso_outline.proofs.AtomSteps.{atoms_bin}
use Rattle.aso_outline.proofs.atoms.+push_atoms.Goals as goal

pub returns-in_ok-push_atoms-in-Bin-2 : goal.returns-in_ok-push_atoms-in-Bin-2
returns-in_ok-push_atoms-in-Bin-2 t c =
    let before : List Atom = map (λ a. a.now) c.args.all.now.items in
    let left : Expr = c.in-Bin.left in
    let right : Expr = c.in-Bin.right in
    c.in_ok-push_atoms-in-Bin-2.ensures
    ∙ (ap (λ (xs : List Atom). xs ++ atoms c.get-in-Bin-2.result.now) c.in_ok-push_atoms-in-Bin.ensures
    ∙ (append_assoc before (atoms c.get-in-Bin.result.now) (atoms c.get-in-Bin-2.result.now)
    ∙ (ap (λ (e : Expr). before ++ (atoms e ++ atoms c.get-in-Bin-2.result.now)) c.get-in-Bin.ensures
    ∙ (ap (λ (e : Expr). before ++ (atoms left ++ atoms e)) c.get-in-Bin-2.ensures
    ∙ ap (λ (xs : List Atom). before ++ xs) (sym (ap atoms c.in-Bin.is ∙ atoms_bin c.in-Bin.op left right))))))
