use Rattle.std.proofs.lemmas.Result.{err_from_is_err_and}
use Rattle.serde_json.specs.View.{view}
use Rattle.aso_outjson.proofs.Once.{found_outline, only, only_fault, refused_field, refused_formula, refused_json, refused_outline, writes}
use Rattle.aso_outjson.proofs.reading.read.Goals as goal

pub returns-in_err-value-clause-refused : goal.returns-in_err-value-clause-refused
returns-in_err-value-clause-refused c =
    let p = err_from_is_err_and c.from_residual.result c.from_residual.ensures.1 in
    let text = c.args.text.now in
    let f = c.in_err-value.field-0.0 in
    rw (p.1, p.2) (refused_json text f c.in_err-value.ensures.refused)

pub returns-in_err-value-clause-only : goal.returns-in_err-value-clause-only
returns-in_err-value-clause-only c =
    let p = err_from_is_err_and c.from_residual.result c.from_residual.ensures.1 in
    let text = c.args.text.now in
    let f = c.in_err-value.field-0.0 in
    rw (p.1, p.2) (only_fault text f (refused_json text f c.in_err-value.ensures.refused))

pub returns-in_err-written-clause-refused : goal.returns-in_err-written-clause-refused
returns-in_err-written-clause-refused c =
    let p = err_from_is_err_and c.from_residual-in_err-written.result c.from_residual-in_err-written.ensures.1 in
    let text = c.args.text.now in
    let f = c.in_err-written.field-0.0 in
    rw (p.1, p.2) (refused_field text (view c.in_ok-value.value) f c.in_ok-value.ensures.found c.in_err-written.ensures.refused)

pub returns-in_err-written-clause-only : goal.returns-in_err-written-clause-only
returns-in_err-written-clause-only c =
    let p = err_from_is_err_and c.from_residual-in_err-written.result c.from_residual-in_err-written.ensures.1 in
    let text = c.args.text.now in
    let f = c.in_err-written.field-0.0 in
    rw (p.1, p.2) (only_fault text f (refused_field text (view c.in_ok-value.value) f c.in_ok-value.ensures.found c.in_err-written.ensures.refused))

pub returns-in_err-draft-clause-refused : goal.returns-in_err-draft-clause-refused
returns-in_err-draft-clause-refused c =
    let p = err_from_is_err_and c.from_residual-in_err-draft.result c.from_residual-in_err-draft.ensures.1 in
    let text = c.args.text.now in
    let f = c.in_err-draft.field-0.0 in
    rw (p.1, p.2) (refused_formula text (view c.in_ok-value.value) c.in_ok-written.written f c.in_ok-value.ensures.found c.in_ok-written.ensures.found c.in_err-draft.ensures.refused)

pub returns-in_err-draft-clause-only : goal.returns-in_err-draft-clause-only
returns-in_err-draft-clause-only c =
    let p = err_from_is_err_and c.from_residual-in_err-draft.result c.from_residual-in_err-draft.ensures.1 in
    let text = c.args.text.now in
    let f = c.in_err-draft.field-0.0 in
    rw (p.1, p.2) (only_fault text f (refused_formula text (view c.in_ok-value.value) c.in_ok-written.written f c.in_ok-value.ensures.found c.in_ok-written.ensures.found c.in_err-draft.ensures.refused))

pub returns-clause-found : goal.returns-clause-found
returns-clause-found c =
    let text = c.args.text.now in
    found_outline text c.in_ok-draft.draft c.verified.result
    (writes text (view c.in_ok-value.value) c.in_ok-written.written c.in_ok-draft.draft c.in_ok-value.ensures.found c.in_ok-written.ensures.found c.in_ok-draft.ensures.found)
    c.verified.ensures.found

pub returns-clause-refused : goal.returns-clause-refused
returns-clause-refused c =
    let text = c.args.text.now in
    refused_outline text c.in_ok-draft.draft c.verified.result
    (writes text (view c.in_ok-value.value) c.in_ok-written.written c.in_ok-draft.draft c.in_ok-value.ensures.found c.in_ok-written.ensures.found c.in_ok-draft.ensures.found)
    c.verified.ensures.refused

pub returns-clause-only : goal.returns-clause-only
returns-clause-only c = λ o is.
    let text = c.args.text.now in
    let written =
    writes text (view c.in_ok-value.value) c.in_ok-written.written c.in_ok-draft.draft c.in_ok-value.ensures.found c.in_ok-written.ensures.found c.in_ok-draft.ensures.found in
    only text o c.verified.result (found_outline text c.in_ok-draft.draft c.verified.result written c.verified.ensures.found)
    (refused_outline text c.in_ok-draft.draft c.verified.result written c.verified.ensures.refused) is
