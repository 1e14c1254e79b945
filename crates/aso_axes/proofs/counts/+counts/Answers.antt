use Rattle.std.specs.List.{flat_map}
use Rattle.std.proofs.Common.{◌≡◌, ◌∙◌, ◌+◌, ℕ, length, take, sym, ap, arith, length-append}
use Rattle.aso_axes.specs.Answers.{counted}
use Rattle.aso_axes.specs.Sets.{rows_of}
use Rattle.aso_axes.proofs.CountLemmas.{flat_more, plus_counted}
use Rattle.aso_axes.proofs.counts.+counts.Goals as goal

pub count_items-loop-item-preserved : goal.count_items-loop-item-preserved
count_items-loop-item-preserved t c =
    let f = rows_of c.args.outline.now c.args.own.now in
    let items = c.args.items.now in
    let i = c.loop-item.item-index in
    let a : ℕ = length (flat_map f (take i items)) in
    let b : ℕ = length (f c.item-item.result) in
    c.plus-count.ensures
    ∙ (ap (λ (x : ℕ). counted (x + c.in_ok-count_rows.field-0)) c.loop-item.invariant
    ∙ (ap (λ (y : ℕ). counted (counted a + y)) c.in_ok-count_rows.ensures
    ∙ (plus_counted a b
    ∙ ap counted (sym (length-append (flat_map f (take i items)) (f c.item-item.result)) ∙ ap length (sym (flat_more f items i c.item-item.result (omega arith) c.item-item.is))))))
