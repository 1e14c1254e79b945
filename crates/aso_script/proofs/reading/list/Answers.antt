use Rattle.std.proofs.Common.{◌≡◌, ◌+◌, ◌-◌, suc, ◌∙◌, ap, sym, arith, List, ℕ}
use Rattle.std.proofs.lemmas.Result.{err_from_is_err_and}
use Rattle.aso_outline.specs.Members.{Name}
use Rattle.aso_script.specs.Reading.{◌>>=◌, read_name, read_further, read_list}
use Rattle.aso_script.proofs.Further.{grown, no_more, all_read, one_more, none_more, fails_on}
use Rattle.aso_script.proofs.reading.list.Goals as goal

pub returns-in_default : goal.returns-in_default
returns-in_default c = rw c.of.ensures (c.loop-count.invariant ∙ no_more (64 - c.loop-count.count) c.loop-count.names.items c.loop-count.rest.now (sym c.in_default.ensures))

pub returns-in_err-found : goal.returns-in_err-found
returns-in_err-found c =
    let left : 64 - c.loop-count.count ≡ suc (64 - (c.loop-count.count + 1)) = omega (arith, c.loop-count-test.true) in
    let ns = c.loop-count.names.items in
    let rest = c.loop-count.rest.now in
    let h = fails_on c.in_err-found.field-0.0 (read_name c.in-Some.further.now) (read_list c.args.text.now)
    (λ e. c.loop-count.invariant ∙ ap (λ (n : ℕ). read_further n rest >>= grown ns) left ∙ none_more (64 - (c.loop-count.count + 1)) ns rest c.in-Some.further.now (sym c.in-Some.ensures) e) c.in_err-found.ensures in
    let p = err_from_is_err_and c.from_residual-in_err-found.result c.from_residual-in_err-found.ensures.1 in
    rw (p.1, p.2) h

pub loop-count-preserved : goal.loop-count-preserved
loop-count-preserved c =
    let left : 64 - c.loop-count.count ≡ suc (64 - (c.loop-count.count + 1)) = omega (arith, c.loop-count-test.true) in
    let ns = c.loop-count.names.items in
    let rest = c.loop-count.rest.now in
    c.loop-count.invariant
    ∙ ap (λ (n : ℕ). read_further n rest >>= grown ns) left
    ∙ one_more (64 - (c.loop-count.count + 1)) ns rest c.in-Some.further.now c.in_ok-found.next.now c.in_ok-found.found (sym c.in-Some.ensures) c.in_ok-found.ensures
    ∙ ap (λ (xs : List Name). read_further (64 - (c.loop-count.count + 1)) c.in_ok-found.next.now >>= grown xs) (sym c.in_ok-push-2.ensures.items)

pub returns : goal.returns
returns c =
    let none : 64 - c.loop-count.count ≡ 0 = omega (arith, c.loop-count-test.false) in
    rw c.of-2.ensures (c.loop-count.invariant ∙ ap (λ (n : ℕ). read_further n c.loop-count.rest.now >>= grown c.loop-count.names.items) none ∙ all_read c.loop-count.names.items c.loop-count.rest.now)
