use Rattle.std.proofs.Common.{rules, arith, ◌≡◌, ◌≤◌, ◌<◌, ◌+◌, ◌-◌, ◌*◌, ◌/◌, ◌∙◌, inl, inr, ℕ, length, reverse, sym, subst}
use Rattle.std.proofs.lemmas.Bool.Decides.{nat_tests}
use Rattle.aso_keys.specs.Views.{all_choices, IsNumbered}
use Rattle.aso_keys.proofs.ViewLemmas.{numbering_first, numbering_step, numbering_all, numbered_all, numbered_view, base_numbered, past_all, too_many}
use Rattle.aso_keys.proofs.WidthLemmas.{based}
use Rattle.aso_keys.proofs.views.view_of.Goals as goal

pub returns-then-number-eq0-clause-given : goal.returns-then-number-eq0-clause-given
returns-then-number-eq0-clause-given c =
    let zero : c.args.number ≡ 0 = grind (arith, nat_tests) in
    subst (λ (n : ℕ). IsNumbered (all_choices c.args.outline.now) n c.in_ok-base.base.choices) (sym zero) (base_numbered c.args.outline.now c.in_ok-base.base.choices c.in_ok-base.ensures)

pub returns-then-number-eq0-clause-view : goal.returns-then-number-eq0-clause-view
returns-then-number-eq0-clause-view c =
    numbered_view c.args.outline.now 0 c.in_ok-base.base.choices (base_numbered c.args.outline.now c.in_ok-base.base.choices c.in_ok-base.ensures)

pub returns-then-number-eq0-clause-base : goal.returns-then-number-eq0-clause-base
returns-then-number-eq0-clause-base c = λ zero. based (length c.args.outline.now.dims) c.in_ok-base.base.choices c.in_ok-base.ensures

pub loop-back-init : goal.loop-back-init
loop-back-init c = record {
  numbering = numbering_first c.args.outline.now c.dims-dims.result c.args.number c.from-rest.result c.new-choices.result.items c.dims-dims.ensures c.from-rest.ensures c.new-choices.ensures.items;
  few = omega arith;
}

pub loop-back-preserved : goal.loop-back-preserved
loop-back-preserved c = record {
  numbering = numbering_step c.args.outline.now c.dims-dims.result c.loop-back.back c.args.number c.loop-back.rest c.loop-back.views c.len-count.result c.index.result.now c.in_ok-offered.offered.items
      c.loop-back.choices.items c.push.new.self.items c.dims-dims.ensures (omega arith) c.in_ok-offered.ensures (search rules) c.index.ensures c.in_ok-push.ensures.items c.loop-back.invariant.numbering;
  few = grind (arith, nat_tests);
}

pub returns-then-views-gt4096-clause-none : goal.returns-then-views-gt4096-clause-none
returns-then-views-gt4096-clause-none c =
    let some : 1 ≤ c.args.number = grind (arith, nat_tests) in
    let many : 4096 < c.loop-back.views * c.len-count.result = grind (arith, nat_tests) in (
      some,
      inl (too_many c.args.outline.now (c.dims-dims.result - (c.loop-back.back + 1)) c.args.number (c.loop-back.rest / c.len-count.result) (c.loop-back.views * c.len-count.result) (reverse c.push.new.self.items) many
          (numbering_step c.args.outline.now c.dims-dims.result c.loop-back.back c.args.number c.loop-back.rest c.loop-back.views c.len-count.result c.index.result.now c.in_ok-offered.offered.items
          c.loop-back.choices.items c.push.new.self.items c.dims-dims.ensures (omega arith) c.in_ok-offered.ensures (search rules) c.index.ensures c.in_ok-push.ensures.items c.loop-back.invariant.numbering)),
    )

pub returns-then-rest-gt0-clause-none : goal.returns-then-rest-gt0-clause-none
returns-then-rest-gt0-clause-none c =
    let some : 1 ≤ c.args.number = grind (arith, nat_tests) in
    let left : 0 < c.loop-back.rest = grind (arith, nat_tests) in (
      some,
      inr (past_all c.args.outline.now c.args.number c.loop-back.rest c.loop-back.views (reverse c.loop-back.choices.items) left
          (numbering_all c.args.outline.now c.dims-dims.result c.loop-back.back c.args.number c.loop-back.rest c.loop-back.views (reverse c.loop-back.choices.items) (omega arith) c.loop-back.invariant.numbering)),
    )

given_here : goal.returns-clause-given
given_here c =
    let none : c.loop-back.rest ≡ 0 = grind (arith, nat_tests) in
    subst (IsNumbered (all_choices c.args.outline.now) c.args.number) (sym (c.of.ensures ∙ c.reverse.ensures.items))
    (numbered_all c.args.outline.now c.args.number c.loop-back.rest c.loop-back.views (reverse c.loop-back.choices.items) none
    (numbering_all c.args.outline.now c.dims-dims.result c.loop-back.back c.args.number c.loop-back.rest c.loop-back.views (reverse c.loop-back.choices.items) (omega arith) c.loop-back.invariant.numbering))

pub returns-clause-given : goal.returns-clause-given
returns-clause-given c = given_here c

pub returns-clause-view : goal.returns-clause-view
returns-clause-view c = numbered_view c.args.outline.now c.args.number c.of.result (given_here c)
