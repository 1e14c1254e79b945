use Rattle.std.proofs.Common.{◌<◌, ℕ, Bool, sym, ap, arith, length}
use Rattle.std.specs.Prelude.{nat_le}
use Rattle.std.proofs.lemmas.Bool.{le-leb, lt-leb}
use Rattle.aso_outline.specs.Rules.{count_of_attr}
use Rattle.aso_outline.proofs.EachPlace.{all_in_range, one_fails, passes_more}
use Rattle.aso_outline.proofs.attributes.are_of_different_attrs.Goals as goal

pub returns-then-count_of_attr-gt1 : goal.returns-then-count_of_attr-gt1
returns-then-count_of_attr-gt1 c =
    let test : ℕ → Bool = λ a. nat_le (count_of_attr a c.args.found.now) 1 in
    let low : c.loop-attr.attr < length c.args.draft.now.attrs = omega (arith, ap length c.items.ensures, c.loop-attr-test.true) in
    sym (one_fails test (length c.args.draft.now.attrs) 0 c.loop-attr.attr (omega arith) (omega (arith, low)) (lt-leb _ _ (omega (arith, c.count_of_attr.ensures.value, c.if-count_of_attr-gt1.true))))

pub loop-attr-preserved : goal.loop-attr-preserved
loop-attr-preserved c =
    passes_more (λ a. nat_le (count_of_attr a c.args.found.now) 1) c.loop-attr.attr c.loop-attr.invariant
    (le-leb _ _ (omega (arith, c.count_of_attr.ensures.value, c.if-count_of_attr-gt1.false)))

pub returns : goal.returns
returns c =
    sym (all_in_range (λ a. nat_le (count_of_attr a c.args.found.now) 1) (length c.args.draft.now.attrs) 0
    (λ k low high. c.loop-attr.invariant k (omega (arith, high, ap length c.items.ensures, c.loop-attr-test.false))))
