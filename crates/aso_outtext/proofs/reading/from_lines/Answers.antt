use Rattle.aso_outtext.proofs.Given.{broken_given, none_given, one_given}
use Rattle.aso_outtext.proofs.reading.from_lines.Goals as goal

pub returns-in-Err-Line-clause-only : goal.returns-in-Err-Line-clause-only
returns-in-Err-Line-clause-only c = none_given c.args.text.now c.requires (rw c.in-Err-Line.field-0-is at c.in-Err-Line.ensures.none)

pub returns-in-Ok-verify-clause-only : goal.returns-in-Ok-verify-clause-only
returns-in-Ok-verify-clause-only c = one_given c.args.text.now _ c.in_ok-draft.draft c.in-Ok-verify.outline c.requires c.in-Ok.ensures.only c.in_ok-draft.ensures c.in-Ok-verify.ensures.accepted.0

pub returns-in-Err-Refused-clause-only : goal.returns-in-Err-Refused-clause-only
returns-in-Err-Refused-clause-only c = broken_given c.args.text.now _ c.in_ok-draft.draft c.in-Err-Refused.rule c.in-Err-Refused.member c.requires c.in-Ok.ensures.only c.in_ok-draft.ensures (rw c.in-Err-Refused.field-0-is at c.in-Err-Refused.ensures.refused)
