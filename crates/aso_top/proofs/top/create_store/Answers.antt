use Rattle.std.proofs.Common.{List, ℕ, inl, inr, refl, rules, subst}
use Rattle.aso_num.specs.declared.status.Status.TheVariants.{NoMemory}
use Rattle.aso_top.specs.Lines.{memory_line}
use Rattle.aso_top.specs.Ends.{Ends}
use Rattle.aso_top.specs.Answers.{CreateEnds}
use Rattle.aso_top.proofs.RunLemmas.{create_runs}
use Rattle.aso_top.proofs.top.create_store.Goals as goal

pub returns-in-Ok-create_on-clause-runs : goal.returns-in-Ok-create_on-clause-runs
returns-in-Ok-create_on-clause-runs g c =
    let S = g.C.Slots in
    let a = c.in-Ok-create_on.answer in
    let made = c.in-Ok-create_on.ensures in
    let ends : CreateEnds S.seen S.moment S.left S.faults c.args.catalog.now c.create_on.new.catalog c.deref-in-Ok-Some.result.now a.status a.text.items = record { answer = inr made.answer; crash = made.crash; created = made.created } in
    create_runs S.seen S.moment S.left S.faults c.args.catalog.now c.create_on.new.catalog _ _ c.args.outline.now c.in-Ok-Some.text.items a.text.items _ _ a.status _ (search rules)
    (subst (λ (x : List ℕ). CreateEnds S.seen S.moment S.left S.faults c.args.catalog.now c.create_on.new.catalog x a.status a.text.items) c.deref-in-Ok-Some.ensures.value ends)
    (subst (λ (x : List ℕ). Ends (g.K.Sink.written c.args.out.now) (g.K.Sink.written c.deliver-in-Ok-create_on.new.out) a.status c.deliver-in-Ok-create_on.result x) c.deref-in-Ok-create_on.ensures.value c.deliver-in-Ok-create_on.ensures.ends)

pub returns-clause-runs : goal.returns-clause-runs
returns-clause-runs g c =
    let S = g.C.Slots in
    let ends : CreateEnds S.seen S.moment S.left S.faults c.args.catalog.now c.create_on.new.catalog c.deref-in-Ok-Some.result.now NoMemory memory_line = record { answer = inl (refl, refl); crash = c.create_on.ensures.crash; created = λ e. absurd (cc e) } in
    create_runs S.seen S.moment S.left S.faults c.args.catalog.now c.create_on.new.catalog _ _ c.args.outline.now c.in-Ok-Some.text.items memory_line _ _ NoMemory _ (search rules)
    (subst (λ (x : List ℕ). CreateEnds S.seen S.moment S.left S.faults c.args.catalog.now c.create_on.new.catalog x NoMemory memory_line) c.deref-in-Ok-Some.ensures.value ends)
    (search rules)
