use Rattle.std.proofs.Common.{◌≡◌, ◌∙◌, ◌<◌, ◌≤◌, ℕ, length, take, get_or, sym, subst, arith, true≢false}
use Rattle.std.specs.Prelude.{ℤ, All}
use Rattle.std.proofs.lemmas.List.{length-map, take_all}
use Rattle.std.proofs.lemmas.List.Elements.{All-more}
use Rattle.aso_num.specs.Amount.{IsAmount}
use Rattle.aso_runs.specs.Cells.{entries_of, entry_of}
use Rattle.aso_runs.specs.Runs.{Entries, Rises}
use Rattle.aso_runs.proofs.CellLemmas.{entry_at}
use Rattle.aso_buffer.specs.Past.{IsFirstPast}
use Rattle.aso_buffer.proofs.PastLemmas.{first_from}
use Rattle.aso_buffer.proofs.past.first_past.Goals as goal

pub returns-then-not-is_amount-clause-found : goal.returns-then-not-is_amount-clause-found
returns-then-not-is_amount-clause-found g c =
    let cells = c.cells-cells.result.now in
    let es = entries_of cells in
    let i = c.loop-cell.cell-index in
    let e = entry_of c.cell-item.result in
    let inside : i < length cells = omega arith in
    let long : length es ≡ length cells = length-map cells entry_of in
    let here : get_or es i e ≡ e = entry_at cells i c.cell-item.result e inside c.cell-item.is in
    let rises : Rises es = subst Rises (sym c.cells-cells.ensures.same) c.cells-cells.ensures.rises in
    subst (IsFirstPast e) c.cells-cells.ensures.same
    (first_from 0 es i e rises (omega (arith, inside, long)) here c.loop-cell.invariant (λ is. true≢false (sym (c.is_amount.ensures.1 is) ∙ c.if-not-is_amount.true)))

pub loop-cell-preserved : goal.loop-cell-preserved
loop-cell-preserved g c =
    let cells = c.cells-cells.result.now in
    let es = entries_of cells in
    let i = c.loop-cell.cell-index in
    let e = entry_of c.cell-item.result in
    let inside : i < length cells = omega arith in
    let long : length es ≡ length cells = length-map cells entry_of in
    let here : get_or es i e ≡ e = entry_at cells i c.cell-item.result e inside c.cell-item.is in
    let amount : IsAmount e.1 = c.is_amount.ensures.0 c.if-not-is_amount.false in
    All-more (λ (x : ℕ × ℤ). IsAmount x.1) es i e (omega (arith, inside, long)) c.loop-cell.invariant (subst (λ (x : ℕ × ℤ). IsAmount x.1) (sym here) amount)

pub returns-clause-none : goal.returns-clause-none
returns-clause-none g c =
    let cells = c.cells-cells.result.now in
    let es = entries_of cells in
    let i = c.loop-cell.cell-index in
    let over : length cells ≤ i = omega arith in
    let long : length es ≡ length cells = length-map cells entry_of in
    let all : take i es ≡ es = take_all i es (omega (arith, over, long)) in
    subst (λ (xs : Entries). All (λ (x : ℕ × ℤ). IsAmount x.1) xs) (all ∙ c.cells-cells.ensures.same) c.loop-cell.invariant
