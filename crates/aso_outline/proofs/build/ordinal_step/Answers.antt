use Rattle.std.proofs.Common.{◌≡◌, ◌∙◌, ◌+◌, Bool, ℕ, ap, sym, arith, cond, length}
use Rattle.std.specs.List.{filter, range_with_len}
use Rattle.aso_outline.specs.Leaves.{is_data_place}
use Rattle.aso_outline.proofs.TableLemmas.{count_more}
use Rattle.aso_outline.proofs.build.ordinal_step.Goals as goal

pub returns-then-is_data_place-clause-next : goal.returns-then-is_data_place-clause-next
returns-then-is_data_place-clause-next c =
    let p : ℕ → Bool = is_data_place c.args.members.now in
    ap (λ k. k + 1) c.requires.before ∙ (ap (λ (b : Bool). length (filter p (range_with_len 0 c.args.place)) + cond b 1 0) (sym c.if-is_data_place.true ∙ c.is_data_place.ensures) ∙ sym (count_more p c.args.place))

pub returns-else-is_data_place-clause-next : goal.returns-else-is_data_place-clause-next
returns-else-is_data_place-clause-next c =
    let p : ℕ → Bool = is_data_place c.args.members.now in
    let more : c.args.before ≡ c.args.before + 0 = omega arith in
    more ∙ (ap (λ k. k + 0) c.requires.before ∙ (ap (λ (b : Bool). length (filter p (range_with_len 0 c.args.place)) + cond b 1 0) (sym c.if-is_data_place.false ∙ c.is_data_place.ensures) ∙ sym (count_more p c.args.place)))
