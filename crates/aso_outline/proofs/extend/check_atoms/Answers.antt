use Rattle.std.proofs.Common.{◌∙◌, Bool, not, map, sym, ap}
use Rattle.std.specs.List.{position}
use Rattle.aso_outline.specs.Atoms.{Atom, atoms}
use Rattle.aso_outline.specs.Rules.{is_atom}
use Rattle.aso_outline.proofs.ExtendLemmas.{all_pass}
use Rattle.aso_outline.proofs.extend.check_atoms.Goals as goal

pub returns-clause-right : goal.returns-clause-right
returns-clause-right c =
    let test : Atom → Bool = is_atom c.args.outline.now c.args.member.now.dim in
    all_pass test (atoms c.args.member.now.formula)
    (ap (position (λ (a : Atom). not (test a))) (sym c.in_ok-all.ensures ∙ ap (map (λ a. a.now)) (sym c.as_slice-2.ensures.value))
    ∙ (sym c.in_ok-foreign.ensures ∙ c.in-None.is))
