use Rattle.std.proofs.Common.{◌≡◌, ◌∙◌, ◌-◌, ◌∷◌, ◌<◌, List, ℕ, Option, Some, sym, ap, arith}
use Rattle.std.specs.Prelude.{if◌then◌else◌}
use Rattle.std.specs.Str.{bytes_eq}
use Rattle.aso_num.specs.declared.value.Val.{Val}
use Rattle.aso_outline.specs.declared.draft.Op.{Op}
use Rattle.aso_outline.specs.Atoms.{Atom}
use Rattle.aso_outline.specs.Marks.{op_of}
use Rattle.aso_outline.specs.Numbers.{seat_of}
use Rattle.aso_calc.specs.Keys.{key_of}
use Rattle.aso_calc.specs.Positions.{checked}
use Rattle.aso_calc.specs.Stored.{given_at}
use Rattle.aso_calc.specs.Tables.{at}
use Rattle.aso_calc.specs.Values.{Outcome, applied, replaced, resolved, value_step, value_within}
use Rattle.aso_calc.proofs.InRange.{checked_same, within_fine}
use Rattle.aso_calc.proofs.KnownLemmas.{known_more}
use Rattle.aso_calc.proofs.ValueLemmas.{by_values, within_step}
use Rattle.aso_calc.proofs.unfolding.+values.Goals as goal

pub by_formula-returns-clause-value : goal.by_formula-returns-clause-value
by_formula-returns-clause-value t c =
    let o = c.args.outline.now in
    let own = c.args.extra.now.members.items in
    let stored : List ℕ → Val = given_at c.args.stored.now c.args.attrs.now in
    by_values (λ names. value_within c.args.ranks o own stored (replaced o c.args.base.now names))
    (λ names. checked_same (value_within c.args.ranks o own stored (replaced o c.args.base.now names)) (within_fine o own stored c.args.ranks (replaced o c.args.base.now names)))
    c.args.formula.now c.as_slice.result.now (c.as_slice.ensures.value ∙ c.in_ok-values.ensures.values) (c.evaluate-value.result.0, c.evaluate-value.result.1.now) c.evaluate-value.ensures.value

pub with_value-returns : goal.with_value-returns
with_value-returns t c =
    let o = c.args.outline.now in
    let own = c.args.extra.now.members.items in
    let stored : List ℕ → Val = given_at c.args.stored.now c.args.attrs.now in
    let f : List ℕ → Outcome = value_within c.args.ranks o own stored in
    let place : List ℕ = c.as_slice.result.now in
    record {
      known = c.in_ok-value.ensures.known;
      value =
          c.applied.ensures.value
          ∙ (ap (λ (op : Op). applied op c.args.total c.checked.result) c.op-op.ensures
          ∙ ap (λ (r : Outcome). applied (op_of o (seat_of o c.args.child)) c.args.total r)
          (c.checked.ensures.value ∙ (ap checked c.in_ok-value.ensures.value ∙ (checked_same (f place) (within_fine o own stored c.args.ranks place) ∙ ap f (c.as_slice.ensures.value ∙ c.in_ok-place.ensures)))));
      range = c.applied.ensures.range;
    }

pub value_within-returns-in-Some-clause-value : goal.value_within-returns-in-Some-clause-value
value_within-returns-in-Some-clause-value t c =
    let o = c.args.outline.now in
    let own = c.args.extra.now.members.items in
    let stored : List ℕ → Val = given_at c.args.stored.now c.args.attrs.now in
    let low : 0 < c.args.ranks = omega (arith, c.if-ranks-eq0.false) in
    let key : c.as_slice-3.result.now ≡ (c.args.ranks - 1) ∷ key_of (resolved o c.args.base.now) c.args.attrs.now =
    c.as_slice-3.ensures.value ∙ (c.in_ok-key.ensures ∙ ap (λ (xs : List ℕ). (c.args.ranks - 1) ∷ key_of xs c.args.attrs.now) (c.as_slice-2.ensures.value ∙ c.in_ok-place.ensures)) in
    c.requires.known (c.args.ranks - 1) (resolved o c.args.base.now) c.args.attrs.now c.in-Some.value (sym (ap (at c.args.known.now) key) ∙ (sym c.find.ensures ∙ c.in-Some.is))
    ∙ sym (within_step o own stored c.args.ranks c.args.base.now low)

pub value_within-returns-clause-value : goal.value_within-returns-clause-value
value_within-returns-clause-value t c =
    let o = c.args.outline.now in
    let own = c.args.extra.now.members.items in
    let stored : List ℕ → Val = given_at c.args.stored.now c.args.attrs.now in
    let low : 0 < c.args.ranks = omega (arith, c.if-ranks-eq0.false) in
    c.in_ok-value.ensures.value
    ∙ (ap (value_step o own stored (value_within (c.args.ranks - 1) o own stored)) (c.as_slice-4.ensures.value ∙ c.in_ok-place.ensures) ∙ sym (within_step o own stored c.args.ranks c.args.base.now low))

pub value_within-returns-clause-known : goal.value_within-returns-clause-known
value_within-returns-clause-known t c =
    let o = c.args.outline.now in
    let own = c.args.extra.now.members.items in
    let attrs : List (Option ℕ) = c.args.attrs.now in
    let place : List ℕ = resolved o c.args.base.now in
    let key : c.in_ok-key.key.items ≡ (c.args.ranks - 1) ∷ key_of place attrs = c.in_ok-key.ensures ∙ ap (λ (xs : List ℕ). (c.args.ranks - 1) ∷ key_of xs attrs) (c.as_slice-2.ensures.value ∙ c.in_ok-place.ensures) in
    let is : c.in_ok-value.value ≡ value_step o own (given_at c.args.stored.now attrs) (value_within (c.args.ranks - 1) o own (given_at c.args.stored.now attrs)) place =
    c.in_ok-value.ensures.value ∙ ap (value_step o own (given_at c.args.stored.now attrs) (value_within (c.args.ranks - 1) o own (given_at c.args.stored.now attrs))) (c.as_slice-4.ensures.value ∙ c.in_ok-place.ensures) in
    known_more o own (given_at c.args.stored.now) (at c.value_step.new.known) (at c.add.new.self) (c.args.ranks - 1) place attrs c.in_ok-value.value c.in_ok-value.ensures.known is
    (λ q. c.in_ok-add.ensures q ∙ ap (λ (k : List ℕ). if bytes_eq k q then Some c.in_ok-value.value else at c.value_step.new.known q) key)
