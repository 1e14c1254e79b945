use Rattle.std.proofs.Common.{◌≡◌, ◌∙◌, ◌≤◌, ◌<◌, ◌^◌, ◌++◌, codes, ℕ, List, ap, arith, length, map, subst, sym, rules}
use Rattle.std.specs.Prelude.{ℤ, FitsSigned, unsigned_abs}
use Rattle.std.specs.Fmt.{decimal}
use Rattle.std.specs.Int.{w64, w128}
use Rattle.std.specs.List.{AllByRecursion}
use Rattle.std.proofs.lemmas.Int.{to_z-of_z}
use Rattle.aso_num.specs.declared.value.Val.TheVariants.{Num}
use Rattle.aso_num.specs.Numbers.{value_text}
use Rattle.aso_catalog.specs.declared.record.LeafCell.{LeafCell}
use Rattle.aso_spec.specs.Grid.{label}
use Rattle.aso_cellnames.specs.Names.{cell_names}
use Rattle.std.proofs.lemmas.Bool.{lt-ltb}
use Rattle.aso_machine.specs.State.{entry}
use Rattle.aso_machine.specs.Verdicts.{IsVerdictIn, MayCommit}
use Rattle.aso_machine.specs.declared.verdict.Verdict.TheVariants.{Commit}
use Rattle.aso_machine.specs.CellSteps.{IsSmall, add_cell, sum_in}
use Rattle.aso_machine.specs.Machine.{Refuses, added_to}
use Rattle.aso_machine.proofs.Rising.{added_length, cells_small}
use Rattle.aso_machine.proofs.Changes.{too_great, too_many, in_range}
use Rattle.aso_machine.proofs.changing.added_to.Goals as goal

pub sum_in-sum-requires-clause-small : goal.sum_in-sum-requires-clause-small
sum_in-sum-requires-clause-small c =
    subst (λ (cs : List LeafCell). AllByRecursion IsSmall cs) (sym c.items-cells.ensures) (cells_small c.args.saved.now c.args.outline.now c.requires.fits)

pub returns-then-unsigned_abs-ge-LEAST_PAST_RANGE : goal.returns-then-unsigned_abs-ge-LEAST_PAST_RANGE
returns-then-unsigned_abs-ge-LEAST_PAST_RANGE c =
    let o = c.args.outline.now in
    let key = c.args.key.items in
    let cells = c.args.saved.now.cells in
    let z = c.args.amount in
    let fits_units : FitsSigned w64 c.units.result = search rules in
    let z_is : c.from-amount.result ≡ z = c.from-amount.ensures ∙ to_z-of_z w64 c.units.result fits_units ∙ c.units.ensures.value in
    let fits_amount : FitsSigned w128 c.from-amount.result = search rules in
    let sum_is : c.sum_in-sum.result ≡ sum_in key z cells =
    c.sum_in-sum.ensures ∙ ap (λ (x : ℤ). sum_in c.deref.result.now x c.items-cells.result.now) (to_z-of_z w128 c.from-amount.result fits_amount ∙ z_is)
    ∙ ap (λ (k : List ℕ). sum_in k z c.items-cells.result.now) c.deref.ensures.value ∙ ap (sum_in key z) c.items-cells.ensures in
    let fits_sum : FitsSigned w128 c.sum_in-sum.result = search rules in
    let size : c.unsigned_abs.result ≡ unsigned_abs (sum_in key z cells) = c.unsigned_abs.ensures.value ∙ ap unsigned_abs (to_z-of_z w128 c.sum_in-sum.result fits_sum ∙ sum_is) in
    let great : 10 ^ 18 ≤ unsigned_abs (sum_in key z cells) = omega (arith, size, c.if-unsigned_abs-ge-LEAST_PAST_RANGE.true) in
    let text : c.in_ok-text.text.items ≡ codes "210 amount range: " ++ label (cell_names o key) ++ codes ", " ++ value_text (Num (sum_in key z cells)) =
    c.in_ok-text.ensures
    ∙ ap (λ (x : ℤ). codes "210 amount range: " ++ label (cell_names o c.deref-then-unsigned_abs-ge-LEAST_PAST_RANGE.result.now) ++ codes ", " ++ value_text (Num x)) (to_z-of_z w128 c.sum_in-sum.result fits_sum ∙ sum_is)
    ∙ ap (λ (k : List ℕ). codes "210 amount range: " ++ label (cell_names o k) ++ codes ", " ++ value_text (Num (sum_in key z cells))) c.deref-then-unsigned_abs-ge-LEAST_PAST_RANGE.ensures.value in
    record { says = ap Refuses text ∙ sym (too_great key z o cells great); may = tt }

pub returns-then-count-gt-MOST_CELLS : goal.returns-then-count-gt-MOST_CELLS
returns-then-count-gt-MOST_CELLS c =
    let o = c.args.outline.now in
    let key = c.args.key.items in
    let cells = c.args.saved.now.cells in
    let z = c.args.amount in
    let fits_units : FitsSigned w64 c.units.result = search rules in
    let z_is : c.from-amount.result ≡ z = c.from-amount.ensures ∙ to_z-of_z w64 c.units.result fits_units ∙ c.units.ensures.value in
    let fits_amount : FitsSigned w128 c.from-amount.result = search rules in
    let sum_is : c.sum_in-sum.result ≡ sum_in key z cells =
    c.sum_in-sum.ensures ∙ ap (λ (x : ℤ). sum_in c.deref.result.now x c.items-cells.result.now) (to_z-of_z w128 c.from-amount.result fits_amount ∙ z_is)
    ∙ ap (λ (k : List ℕ). sum_in k z c.items-cells.result.now) c.deref.ensures.value ∙ ap (sum_in key z) c.items-cells.ensures in
    let fits_sum : FitsSigned w128 c.sum_in-sum.result = search rules in
    let size : c.unsigned_abs.result ≡ unsigned_abs (sum_in key z cells) = c.unsigned_abs.ensures.value ∙ ap unsigned_abs (to_z-of_z w128 c.sum_in-sum.result fits_sum ∙ sum_is) in
    let counted : length (add_cell key z cells) ≡ c.added_count-count.result =
    ap (λ (k : List ℕ). length (add_cell k z cells)) (sym c.deref-2.ensures.value) ∙ ap (λ (cs : List LeafCell). length (add_cell c.deref-2.result.now z cs)) (sym c.items-cells.ensures) ∙ c.added_count-count.ensures z in
    let small : unsigned_abs (sum_in key z cells) < 10 ^ 18 = omega (arith, size, c.if-unsigned_abs-ge-LEAST_PAST_RANGE.false) in
    let many : 1000 < length (add_cell key z cells) = omega (arith, counted, c.if-count-gt-MOST_CELLS.true) in
    record {
      says = ap Refuses (c.in_ok-text-2.ensures ∙ ap (λ (n : ℕ). codes "213 too many cells: " ++ decimal n) (sym counted)) ∙ sym (too_many key z o cells small many);
      may = tt;
    }

pub returns : goal.returns
returns c =
    let o = c.args.outline.now in
    let key = c.args.key.items in
    let cells = c.args.saved.now.cells in
    let z = c.args.amount in
    let fits_units : FitsSigned w64 c.units.result = search rules in
    let z_is : c.from-amount.result ≡ z = c.from-amount.ensures ∙ to_z-of_z w64 c.units.result fits_units ∙ c.units.ensures.value in
    let fits_amount : FitsSigned w128 c.from-amount.result = search rules in
    let sum_is : c.sum_in-sum.result ≡ sum_in key z cells =
    c.sum_in-sum.ensures ∙ ap (λ (x : ℤ). sum_in c.deref.result.now x c.items-cells.result.now) (to_z-of_z w128 c.from-amount.result fits_amount ∙ z_is)
    ∙ ap (λ (k : List ℕ). sum_in k z c.items-cells.result.now) c.deref.ensures.value ∙ ap (sum_in key z) c.items-cells.ensures in
    let fits_sum : FitsSigned w128 c.sum_in-sum.result = search rules in
    let size : c.unsigned_abs.result ≡ unsigned_abs (sum_in key z cells) = c.unsigned_abs.ensures.value ∙ ap unsigned_abs (to_z-of_z w128 c.sum_in-sum.result fits_sum ∙ sum_is) in
    let counted : length (add_cell key z cells) ≡ c.added_count-count.result =
    ap (λ (k : List ℕ). length (add_cell k z cells)) (sym c.deref-2.ensures.value) ∙ ap (λ (cs : List LeafCell). length (add_cell c.deref-2.result.now z cs)) (sym c.items-cells.ensures) ∙ c.added_count-count.ensures z in
    let small : unsigned_abs (sum_in key z cells) < 10 ^ 18 = omega (arith, size, c.if-unsigned_abs-ge-LEAST_PAST_RANGE.false) in
    let few : length (add_cell key z cells) ≤ 1000 = omega (arith, counted, c.if-count-gt-MOST_CELLS.false) in
    let may : MayCommit o c.args.saved.now key z = record {
      room = c.requires.room;
      leaves = c.requires.leaves;
      amount = c.units.ensures.range;
      sum = lt-ltb (unsigned_abs (sum_in key z cells)) (10 ^ 18) small;
      few = omega (arith, added_length key z cells, few);
    } in
    subst (λ (x : ℤ). IsVerdictIn (λ is. is ≡ added_to o (map entry cells) key z) o c.args.saved.now (Commit c.args.key x))
    (sym (to_z-of_z w128 c.from-amount.result fits_amount ∙ z_is)) (record { says = sym (in_range key z o cells small few); may = may })
