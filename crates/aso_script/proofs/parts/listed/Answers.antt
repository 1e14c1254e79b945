use Rattle.std.proofs.Common.{rules, refl, sym, ◌∙◌}
use Rattle.aso_script.proofs.ByteLemmas.{no_text, listed_is}
use Rattle.aso_script.proofs.parts.listed.Goals as goal

pub returns-in-Ok-clause-found : goal.returns-in-Ok-clause-found
returns-in-Ok-clause-found c = (c.in-Ok.ensures.cases.0, listed_is c.args.name.now c.in-Ok.ensures.cases.1 (sym c.is_empty.ensures ∙ c.if-is_empty.false) (search rules))

pub returns-in-Err-clause-none : goal.returns-in-Err-clause-none
returns-in-Err-clause-none c = rw (no_text c.args.name.now c.in-Err.ensures.cases.0) refl
