use Rattle.std.proofs.Common.{◌≡◌, ◌∙◌, ◌&&◌, Bool, sym, ap}
use Rattle.std.specs.List.{list_all}
use Rattle.aso_outline.specs.declared.draft.Expr.{Expr}
use Rattle.aso_outline.specs.Atoms.{Atom, atoms}
use Rattle.aso_outline.specs.Rules.{is_atom}
use Rattle.aso_outline.proofs.AtomSteps.{all_bin}
use Rattle.aso_outline.proofs.formulas.+are_atoms.Goals as goal

pub returns-in_ok-second-in-Bin : goal.returns-in_ok-second-in-Bin
returns-in_ok-second-in-Bin t c =
    let test : Atom → Bool = is_atom c.args.draft.now c.args.dim in
    let left : Expr = c.in-Bin.left in
    let right : Expr = c.in-Bin.right in
    let first : c.in_ok-first-in-Bin.first ≡ list_all test (atoms left) = c.in_ok-first-in-Bin.ensures ∙ ap (λ (e : Expr). list_all test (atoms e)) c.get-in-Bin.ensures in
    let second : c.in_ok-second-in-Bin.second ≡ list_all test (atoms right) = c.in_ok-second-in-Bin.ensures ∙ ap (λ (e : Expr). list_all test (atoms e)) c.get-in-Bin-2.ensures in
    c.both.ensures
    ∙ (ap (λ (b : Bool). b && c.in_ok-second-in-Bin.second) first
    ∙ (ap (λ (b : Bool). list_all test (atoms left) && b) second ∙ sym (ap (λ (e : Expr). list_all test (atoms e)) c.in-Bin.is ∙ all_bin test c.in-Bin.op left right)))
