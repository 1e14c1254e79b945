use Rattle.std.proofs.Common.{ℕ, Err, sym, subst, ◌∙◌}
use Rattle.std.proofs.lemmas.Bool.{true≢false}
use Rattle.aso_mdx.specs.declared.fault.SyntaxFault.{SyntaxFault}
use Rattle.aso_mdx.specs.declared.query.Query.{Query}
use Rattle.aso_mdx.specs.Answer.{HasFault, Reads}
use Rattle.aso_mdx.specs.Grammar.{IsQueryFault, SpellsQuery}
use Rattle.aso_machine.specs.Lines.{Faulty, IsRead}
use Rattle.aso_machine.proofs.LineLemmas.{faulty_behind, faulty_within}
use Rattle.aso_machine.proofs.reading.read_query.Goals as goal
use Rattle.aso_machine.proofs.reading.read_query.Goals.{else-ends_with-via-then-ends_with+else-front-text, else-ends_with-via-else-ends_with}

pub returns-else-ends_with : goal.returns-else-ends_with
returns-else-ends_with c =
    faulty_behind c.args.line.now c.query_text-text.result.now c.longest_front-front.result.now c.requires c.query_text-text.ensures
    c.longest_front-front.ensures.is c.longest_front-front.ensures.front c.in-Ok.query c.in-Ok.ensures.found
    (λ ended long. elim c.else-ends_with.branch [
      | else-ends_with-via-then-ends_with+else-front-text w ↦ absurd (w.if-front-text.false long)
      | else-ends_with-via-else-ends_with w ↦ absurd (true≢false (sym ended ∙ (sym c.ends_with.ensures.value ∙ w.if-ends_with.false)))
    ])

pub returns-in-Err-Syntax : goal.returns-in-Err-Syntax
returns-in-Err-Syntax c =
    let line = c.args.line.now in
    let front = c.longest_front-front.result.now in
    let fault : IsQueryFault front c.in-Err-Syntax.at = subst (λ (e : SyntaxFault). HasFault (IsQueryFault front) e) c.in-Err-Syntax.field-0-is c.in-Err-Syntax.ensures.fault in
    let none : (q : Query) → SpellsQuery front q → ⊥ =
    λ q spells. subst (λ (e : SyntaxFault). Reads (Err e) q) c.in-Err-Syntax.field-0-is (c.in-Err-Syntax.ensures.only q spells) in
    subst (λ (k : ℕ). IsRead line (Faulty k)) (sym c.in-Err-Syntax.at-is)
    (faulty_within line c.query_text-text.result.now front c.requires c.query_text-text.ensures c.longest_front-front.ensures.is c.longest_front-front.ensures.front
    c.in-Err-Syntax.at fault none)
