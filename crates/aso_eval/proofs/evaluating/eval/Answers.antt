use Rattle.std.proofs.Common.{◌≡◌, ◌∙◌, Some, ap, subst, sym}
use Rattle.std.proofs.lemmas.Result.{IfErr-weaker}
use Rattle.aso_sheettext.specs.Texts.{sheet}
use Rattle.aso_outline.specs.Refusals.{IsRefusal as IsRuleRefusal}
use Rattle.aso_outline.specs.Rules.{broken}
use Rattle.aso_outtext.specs.Drafts.{draft_of}
use Rattle.aso_eval.specs.Faults.{HasRefusal}
use Rattle.aso_eval.specs.Sheets.{IsFitRefusal, IsRefusal, IsSheet}
use Rattle.aso_eval.proofs.Wholes.{fit_refused}
use Rattle.aso_eval.proofs.evaluating.eval.Goals as goal

pub returns-in-Ok-clause-refused : goal.returns-in-Ok-clause-refused
returns-in-Ok-clause-refused c =
    let s = sheet c.in_ok-sheet.sheet in
    let text = c.args.text.now in
    let made = c.in-Ok.ensures.accepted in
    let is : c.in-Ok.outline ≡ draft_of s.outline = made.0 ∙ c.in_ok-draft.ensures in
    let said : IsSheet text s = record { said = c.in_ok-sheet.ensures.found; keeps = ap broken (sym c.in_ok-draft.ensures) ∙ made.1 } in
    IfErr-weaker c.grid_of.result (HasRefusal (IsFitRefusal c.in-Ok.outline s)) (HasRefusal (IsRefusal text)) (fit_refused text s c.in-Ok.outline said is) c.grid_of.ensures.refused

pub returns-in-Err-Refused-clause-refused : goal.returns-in-Err-Refused-clause-refused
returns-in-Err-Refused-clause-refused c =
    let s = sheet c.in_ok-sheet.sheet in
    let broke : broken c.in_ok-draft.draft ≡ Some (c.in-Err-Refused.rule, c.in-Err-Refused.member) = subst (IsRuleRefusal c.in_ok-draft.draft) c.in-Err-Refused.field-0-is c.in-Err-Refused.ensures.refused in
    (s, c.in_ok-sheet.ensures.found, ap broken (sym c.in_ok-draft.ensures) ∙ rw (c.in-Err-Refused.rule-is, c.in-Err-Refused.member-is) broke)
