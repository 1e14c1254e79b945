use Rattle.std.proofs.Common.{List, ℕ, rules, subst}
use Rattle.aso_top.specs.Answers.{SheetAnswer}
use Rattle.aso_top.specs.Ends.{Ends}
use Rattle.aso_top.proofs.RunLemmas.{eval_answered}
use Rattle.aso_top.proofs.top.eval.Goals as goal

pub returns-in-Ok-sheet_answer-clause-runs : goal.returns-in-Ok-sheet_answer-clause-runs
returns-in-Ok-sheet_answer-clause-runs g c =
    let a = c.in-Ok-sheet_answer.answer in
    eval_answered _ _ c.args.sheet.now c.in-Ok-Some.text.items a.text.items _ _ a.status _ (search rules)
    (subst (λ (x : List ℕ). SheetAnswer x a.status a.text.items) c.deref-in-Ok-Some.ensures.value c.in-Ok-sheet_answer.ensures)
    (subst (λ (x : List ℕ). Ends (g.K.Sink.written c.args.out.now) (g.K.Sink.written c.deliver-in-Ok-sheet_answer.new.out) a.status c.deliver-in-Ok-sheet_answer.result x) c.deref-in-Ok-sheet_answer.ensures.value c.deliver-in-Ok-sheet_answer.ensures.ends)
