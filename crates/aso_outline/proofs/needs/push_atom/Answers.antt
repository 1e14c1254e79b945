use Rattle.std.proofs.Common.{◌≡◌, ◌∙◌, ◌++◌, [], ℕ, List, Option, Bool, take, sym, ap, append_assoc}
use Rattle.std.specs.List.{cons_option, filter}
use Rattle.aso_outline.specs.Members.{find as number_of}
use Rattle.aso_outline.specs.Ranks.{at_number, is_of_dim, operands_in}
use Rattle.aso_outline.proofs.Operands.{operands_more}
use Rattle.aso_outline.proofs.needs.push_atom.Goals as goal

pub loop-name-preserved : goal.loop-name-preserved
loop-name-preserved c =
    let o = c.args.draft.now in
    let ws = c.args.wanted.now in
    let i = c.loop-name.name-index in
    let name = c.name-item.result in
    let before : List ℕ = c.args.needs.now.items in
    let test : ℕ → Bool = at_number (is_of_dim c.args.dim) o in
    let number : c.find.result ≡ number_of o name = c.find.ensures ∙ (c.requires.finds _ ∙ ap (number_of o) c.as_str.ensures) in
    c.in_ok-push_operand.ensures
    ∙ (ap (λ (xs : List ℕ). xs ++ filter test (cons_option c.find.result [])) c.loop-name.invariant
    ∙ (append_assoc before (operands_in o c.args.dim (take i ws)) (filter test (cons_option c.find.result []))
    ∙ (ap (λ (k : Option ℕ). before ++ (operands_in o c.args.dim (take i ws) ++ filter test (cons_option k []))) number
    ∙ ap (λ (xs : List ℕ). before ++ xs) (sym (operands_more o c.args.dim ws i name c.loop-name-test.true (sym c.name-item.is))))))
