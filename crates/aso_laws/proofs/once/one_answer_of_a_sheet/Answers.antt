use Rattle.aso_laws.proofs.Sheets.{no_reply_refused, one_refusal, one_reply}
use Rattle.aso_laws.proofs.once.one_answer_of_a_sheet.Goals as goal

pub returns-clause-reply : goal.returns-clause-reply
returns-clause-reply c = one_reply

pub returns-clause-refusal : goal.returns-clause-refusal
returns-clause-refusal c = one_refusal

pub returns-clause-either : goal.returns-clause-either
returns-clause-either c = no_reply_refused
