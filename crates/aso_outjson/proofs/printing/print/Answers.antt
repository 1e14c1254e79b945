use Rattle.std.proofs.Common.{◌≡◌, ◌∙◌, ◌≤◌, Some, ap, arith, false, subst, sym}
use Rattle.std.proofs.lemmas.Str.{IsUtf8-string_bytes}
use Rattle.std.specs.Prelude.{string_bytes}
use Rattle.serde_json.specs.Data.{depth}
use Rattle.serde_json.specs.Read.{max_depth, read}
use Rattle.serde_json.specs.View.{view}
use Rattle.serde_json.specs.Written.{compact_text, has_float}
use Rattle.aso_outjson.specs.Answers.{IsOutline}
use Rattle.aso_outjson.specs.Printing.{AreSpelled, outline_value}
use Rattle.aso_outjson.proofs.Flat.{flat_outline}
use Rattle.aso_outjson.proofs.OutlineReads.{writes_again, written_spelled}
use Rattle.aso_outjson.proofs.Sound.{plain_attrs, plain_dims}
use Rattle.aso_outjson.proofs.printing.print.Goals as goal

pub returns-clause-text : goal.returns-clause-text
returns-clause-text c =
    let is : view c.in_ok-value.value ≡ outline_value c.args.outline.now = c.in_ok-value.ensures ∙ ap outline_value c.sound_draft-draft.ensures.value in
    let whole : has_float (view c.in_ok-value.value) ≡ false = ap has_float is ∙ (flat_outline c.args.outline.now).0 in
    c.in_ok-to_string.ensures.text whole ∙ ap compact_text is

pub returns-clause-reads_again : goal.returns-clause-reads_again
returns-clause-reads_again c =
    let o = c.args.outline.now in
    let bytes = string_bytes c.in_ok-to_string.field-0 in
    let is : view c.in_ok-value.value ≡ outline_value o = c.in_ok-value.ensures ∙ ap outline_value c.sound_draft-draft.ensures.value in
    let shallow : depth (view c.in_ok-value.value) ≤ max_depth = subst (λ d. depth d ≤ max_depth) (sym is) (omega (arith, (flat_outline o).1)) in
    let reads : read bytes ≡ Some (outline_value o) = c.in_ok-to_string.ensures.reads_back shallow ∙ ap (λ d. Some d) is in
    let kept = c.sound_draft-draft.ensures.kept in
    let dims = c.sound_draft-draft.ensures.dims in
    let attrs = c.sound_draft-draft.ensures.attrs in
    λ spelled. writes_again o bytes kept (plain_dims o kept dims attrs) (plain_attrs o kept dims attrs) (IsUtf8-string_bytes c.in_ok-to_string.field-0) reads spelled

pub returns-clause-as_it_was_read : goal.returns-clause-as_it_was_read
returns-clause-as_it_was_read c = λ text is. returns-clause-reads_again c (written_spelled text c.args.outline.now is)
