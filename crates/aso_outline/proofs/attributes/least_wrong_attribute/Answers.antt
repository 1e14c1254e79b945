use Rattle.std.proofs.Common.{◌≡◌, ◌∙◌, ◌<◌, List, length, get_or, sym, ap, arith}
use Rattle.aso_outline.specs.declared.seat.Seat.{Seat}
use Rattle.aso_outline.specs.declared.seat.Seat.TheVariants.{Whole}
use Rattle.aso_outline.specs.Members.{seats}
use Rattle.aso_outline.specs.Rules.{breaks_attributes}
use Rattle.aso_tree.proofs.Firsts.{first_is, none_is}
use Rattle.aso_tree.proofs.FaultLemmas.{longer}
use Rattle.aso_outline.proofs.attributes.least_wrong_attribute.Goals as goal

pub returns-then-breaks : goal.returns-then-breaks
returns-then-breaks c =
    let o = c.args.draft.now in
    let n = c.loop-number.number in
    let same : get_or c.args.table.now n (Whole 0) ≡ get_or (seats o) n (Whole 0) = ap (λ (xs : List Seat). get_or xs n (Whole 0)) c.requires.is in
    let low : n < length (seats o) = omega (arith, ap length c.requires.is, c.loop-number-test.true) in
    sym (first_is (breaks_attributes o) (seats o) n (Whole 0) low c.loop-number.invariant
    (ap (breaks_attributes o) (sym same) ∙ (sym c.in_ok-breaks.ensures ∙ c.if-breaks.true)))

pub loop-number-preserved : goal.loop-number-preserved
loop-number-preserved c =
    let o = c.args.draft.now in
    let n = c.loop-number.number in
    let same : get_or c.args.table.now n (Whole 0) ≡ get_or (seats o) n (Whole 0) = ap (λ (xs : List Seat). get_or xs n (Whole 0)) c.requires.is in
    longer (λ k. breaks_attributes o (get_or (seats o) k (Whole 0))) n c.loop-number.invariant
    (ap (breaks_attributes o) (sym same) ∙ (sym c.in_ok-breaks.ensures ∙ c.if-breaks.false))

pub returns : goal.returns
returns c =
    let o = c.args.draft.now in
    sym (none_is (breaks_attributes o) (seats o) (Whole 0) (λ k less. c.loop-number.invariant k (omega (arith, less, ap length c.requires.is, c.loop-number-test.false))))
