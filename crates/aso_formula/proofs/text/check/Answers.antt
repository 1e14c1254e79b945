use Rattle.std.proofs.Common.{◌≡◌, ◌∙◌, ◌<◌, List, None, Some, false, length, sym, ap, subst}
use Rattle.std.specs.List.{find as first}
use Rattle.aso_token.specs.declared.cutting.Cut.{Cut}
use Rattle.aso_token.specs.declared.token.Placed.{Placed}
use Rattle.aso_token.specs.Cutting.{cut}
use Rattle.aso_outline.specs.Atoms.{atoms}
use Rattle.aso_outline.specs.Extend.{first_foreign}
use Rattle.aso_formula.specs.Places.{begins_in, first_unknown, is_unknown}
use Rattle.aso_formula.proofs.ReadLemmas.{all_right, atom_within}
use Rattle.aso_formula.proofs.text.check.Goals as goal

pub foreign_fault-requires : goal.foreign_fault-requires
foreign_fault-requires c =
    let text = c.args._text.now in
    let tokens : c.items-tokens.result.now ≡ (cut false text).placed = c.items-tokens.ensures ∙ ap (λ (k : Cut). k.placed) c.requires.cut in
    let found : first_foreign c.args.outline.now c.args.dim (atoms c.args.formula.now) ≡ Some c.in-Ok-Some.atom = sym c.in-Ok-Some.ensures ∙ c.in-Ok-Some.field-0-is in
    subst (λ (ps : List Placed). c.in-Ok-Some.atom < length (begins_in false 0 ps)) (sym tokens)
    (atom_within c.args.outline.now c.args.dim text c.args.formula.now c.in-Ok-Some.atom c.requires.spelled found)

pub returns-in-Ok-None-clause-right : goal.returns-in-Ok-None-clause-right
returns-in-Ok-None-clause-right c =
    let o = c.args.outline.now in
    let text = c.args._text.now in
    let tokens : c.items-tokens.result.now ≡ (cut false text).placed = c.items-tokens.ensures ∙ ap (λ (k : Cut). k.placed) c.requires.cut in
    let known : first_unknown o text ≡ None = ap (first (is_unknown o)) (sym tokens) ∙ sym c.in_default.ensures.value in
    all_right o c.args.dim text c.args.formula.now known (sym c.in-Ok-None.ensures ∙ c.in-Ok-None.field-0-is)
