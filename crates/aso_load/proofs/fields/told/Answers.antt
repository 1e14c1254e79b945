use Rattle.std.proofs.Common.{◌≡◌, ◌∙◌, IfOk, IsUtf8, ap, subst, sym}
use Rattle.aso_load.specs.Fields.{told_text, trimmed}
use Rattle.aso_load.proofs.Steps.{is_text, no_text}
use Rattle.aso_load.proofs.fields.told.Goals as goal

pub returns-in-Ok : goal.returns-in-Ok
returns-in-Ok c =
    let o = c.args.outline.now in
    let same = c.in-Ok.ensures.cases.0 ∙ c.trimmed.ensures in
    let utf8 = subst IsUtf8 c.trimmed.ensures c.in-Ok.ensures.cases.1 in
    subst (λ x. IfOk c.told_text.result (λ t. t ≡ x)) (ap (told_text o c.args.column.now) same ∙ sym (is_text o c.args.column.now c.args.field.now utf8)) c.told_text.ensures

pub returns-in-Err : goal.returns-in-Err
returns-in-Err c =
    sym (no_text c.args.outline.now c.args.column.now c.args.field.now (sym c.is_ignored.ensures ∙ c.if-is_ignored.false)
    (λ utf8. c.in-Err.ensures.cases.0 (subst IsUtf8 (sym c.trimmed.ensures) utf8)))
