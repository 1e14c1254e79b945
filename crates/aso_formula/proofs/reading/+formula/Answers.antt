use Rattle.std.proofs.Common.{◌-◌, ◌∙◌, ap, sym, refl, arith}
use Rattle.std.proofs.lemmas.List.{length-map}
use Rattle.std.proofs.lemmas.Result.{err_from_is_err_and}
use Rattle.aso_token.specs.declared.token.Token.TheVariants.{Mark}
use Rattle.aso_token.specs.declared.token.Mark.TheVariants.{Star, Plus}
use Rattle.aso_token.specs.Reads.{tokens_of, read_one, onward}
use Rattle.aso_token.proofs.Laws.{gives_same, fails_on}
use Rattle.aso_token.proofs.Lists.{onward_start, onward_fail, onward_front, front_less}
use Rattle.aso_formula.specs.Formula.{sum_mark, product_mark, operated, from_left, Term, Factor}
use Rattle.aso_formula.specs.Formula.{atom}
use Rattle.aso_formula.specs.Reading.{read_term, read_sum, read_factor, read_inside, read_negated, read_closed, read_rest}
use Rattle.aso_formula.proofs.Laws.{never, term_goes, sum_apart, deep, some_factor, term_law, some_term}
use Rattle.aso_formula.proofs.Steps.{factor_zero, factor_minus, factor_open, factor_else, inside_pair, inside_sum}
use Rattle.aso_formula.proofs.reading.+formula.Goals as goal

pub term-loop-op-init : goal.term-loop-op-init
unfolding read_term
term-loop-op-init t c =
    let n = c.args.nested in
    onward_start (Factor n) never (read_factor n) (deep n).law product_mark (λ t e. refl) (Mark Star, _, refl) (some_factor n) operated from_left
    (tokens_of c.args.tokens.now) (c.in_ok-left.left, tokens_of c.in_ok-left.rest.now) c.in_ok-left.left (λ ys. refl) c.in_ok-left.ensures

pub term-loop-op-preserved : goal.term-loop-op-preserved
term-loop-op-preserved t c =
    let n = c.args.nested in
    c.loop-op.invariant
    ∙ onward_front (Factor n) never (read_factor n) (deep n).law product_mark (λ t e. refl) (Mark Star, _, refl) (some_factor n) operated
    c.loop-op.left (tokens_of c.loop-op.rest.now) (tokens_of c.in-Some.after.now) c.in-Some.op (c.in_ok-right.right, tokens_of c.in_ok-right.next.now) c.in-Some.ensures c.in_ok-right.ensures
    ∙ ap (λ e. onward operated product_mark (read_factor n) e (tokens_of c.in_ok-right.next.now)) (sym c.in_ok-left-2.ensures)

pub term-loop-op-smaller : goal.term-loop-op-smaller
term-loop-op-smaller t c =
    let n = c.args.nested in
    let less = front_less (Factor n) never (read_factor n) (deep n).law product_mark (λ t e. refl) (Mark Star, _, refl) (some_factor n) operated
    (tokens_of c.loop-op.rest.now) (tokens_of c.in-Some.after.now) c.in-Some.op (c.in_ok-right.right, tokens_of c.in_ok-right.next.now) c.in-Some.ensures c.in_ok-right.ensures in
    omega (arith, less, length-map c.loop-op.rest.now (λ p. p.token), length-map c.in_ok-right.next.now (λ p. p.token))

pub sum-loop-op-init : goal.sum-loop-op-init
unfolding read_sum
sum-loop-op-init t c =
    let n = c.args.nested in
    onward_start (Term (Factor n)) term_goes (read_term (read_factor n)) (term_law (Factor n) (read_factor n) (deep n).law (some_factor n)) sum_mark sum_apart (Mark Plus, _, refl) (some_term (Factor n) (read_factor n) (deep n).law (some_factor n)) operated from_left
    (tokens_of c.args.tokens.now) (c.in_ok-left.left, tokens_of c.in_ok-left.rest.now) c.in_ok-left.left (λ ys. refl) c.in_ok-left.ensures

pub sum-loop-op-preserved : goal.sum-loop-op-preserved
sum-loop-op-preserved t c =
    let n = c.args.nested in
    c.loop-op.invariant
    ∙ onward_front (Term (Factor n)) term_goes (read_term (read_factor n)) (term_law (Factor n) (read_factor n) (deep n).law (some_factor n)) sum_mark sum_apart (Mark Plus, _, refl) (some_term (Factor n) (read_factor n) (deep n).law (some_factor n)) operated
    c.loop-op.left (tokens_of c.loop-op.rest.now) (tokens_of c.in-Some.after.now) c.in-Some.op (c.in_ok-right.right, tokens_of c.in_ok-right.next.now) c.in-Some.ensures c.in_ok-right.ensures
    ∙ ap (λ e. onward operated sum_mark (read_term (read_factor n)) e (tokens_of c.in_ok-right.next.now)) (sym c.in_ok-left-2.ensures)

pub sum-loop-op-smaller : goal.sum-loop-op-smaller
sum-loop-op-smaller t c =
    let n = c.args.nested in
    let less = front_less (Term (Factor n)) term_goes (read_term (read_factor n)) (term_law (Factor n) (read_factor n) (deep n).law (some_factor n)) sum_mark sum_apart (Mark Plus, _, refl) (some_term (Factor n) (read_factor n) (deep n).law (some_factor n)) operated
    (tokens_of c.loop-op.rest.now) (tokens_of c.in-Some.after.now) c.in-Some.op (c.in_ok-right.right, tokens_of c.in_ok-right.next.now) c.in-Some.ensures c.in_ok-right.ensures in
    omega (arith, less, length-map c.loop-op.rest.now (λ p. p.token), length-map c.in_ok-right.next.now (λ p. p.token))

pub factor-returns-then-nested-eq0 : goal.factor-returns-then-nested-eq0
factor-returns-then-nested-eq0 t c =
    let ts = tokens_of c.args.tokens.now in
    gives_same (λ x. (x.0, tokens_of x.1.now)) c.atom.result (read_one atom ts) (read_factor c.args.nested ts) (factor_zero c.args.nested ts c.if-nested-eq0.true) c.atom.ensures

pub factor-returns-in-Some : goal.factor-returns-in-Some
factor-returns-in-Some t c =
    let ts = tokens_of c.args.tokens.now in
    let rest = tokens_of c.in-Some.rest.now in
    gives_same (λ x. (x.0, tokens_of x.1.now)) c.negated.result (read_negated (read_factor (c.args.nested - 1)) rest) (read_factor c.args.nested ts) (factor_minus c.args.nested ts rest c.if-nested-eq0.false c.in-Some.ensures) c.negated.ensures

pub factor-returns-in-Some-after_open : goal.factor-returns-in-Some-after_open
factor-returns-in-Some-after_open t c =
    let ts = tokens_of c.args.tokens.now in
    let rest = tokens_of c.in-Some-after_open.rest.now in
    gives_same (λ x. (x.0, tokens_of x.1.now)) c.closed.result (read_closed (read_factor (c.args.nested - 1)) rest) (read_factor c.args.nested ts) (factor_open c.args.nested ts rest c.if-nested-eq0.false c.in-Some-after_open.ensures) c.closed.ensures

pub factor-returns : goal.factor-returns
factor-returns t c =
    let ts = tokens_of c.args.tokens.now in
    gives_same (λ x. (x.0, tokens_of x.1.now)) c.atom-2.result (read_one atom ts) (read_factor c.args.nested ts) (factor_else c.args.nested ts c.if-nested-eq0.false c.in_default.ensures c.in_default-after_open.ensures) c.atom-2.ensures

pub inside-returns-in-Some : goal.inside-returns-in-Some
inside-returns-in-Some t c =
    let ts = tokens_of c.args.tokens.now in
    let rest = tokens_of c.in-Some.rest.now in
    gives_same (λ x. (x.0, tokens_of x.1.now)) c.cross.result (read_rest c.in-Some.first.now rest) (read_inside (read_factor c.args.nested) ts) (inside_pair c.args.nested ts rest c.in-Some.first.now c.in-Some.ensures) c.cross.ensures

pub inside-returns-in-None : goal.inside-returns-in-None
inside-returns-in-None t c =
    let ts = tokens_of c.args.tokens.now in
    gives_same (λ x. (x.0, tokens_of x.1.now)) c.sum.result (read_sum (read_factor c.args.nested) ts) (read_inside (read_factor c.args.nested) ts) (inside_sum c.args.nested ts c.in-None.ensures) c.sum.ensures

pub term-returns-in_err-left : goal.term-returns-in_err-left
unfolding read_term
term-returns-in_err-left t c =
    let n = c.args.nested in
    let ts = tokens_of c.args.tokens.now in
    let h = fails_on c.in_err-left.field-0.0 (read_factor n ts) (read_term (read_factor n) ts)
    (λ rest e. onward_fail (Factor n) never (read_factor n) (deep n).law product_mark (λ t e. refl) (Mark Star, _, refl) (some_factor n) operated from_left ts rest e) c.in_err-left.ensures in
    let p = err_from_is_err_and c.from_residual.result c.from_residual.ensures.1 in
    rw (p.1, p.2) h

pub sum-returns-in_err-left : goal.sum-returns-in_err-left
unfolding read_sum
sum-returns-in_err-left t c =
    let n = c.args.nested in
    let ts = tokens_of c.args.tokens.now in
    let h = fails_on c.in_err-left.field-0.0 (read_term (read_factor n) ts) (read_sum (read_factor n) ts)
    (λ rest e. onward_fail (Term (Factor n)) term_goes (read_term (read_factor n)) (term_law (Factor n) (read_factor n) (deep n).law (some_factor n)) sum_mark sum_apart (Mark Plus, _, refl) (some_term (Factor n) (read_factor n) (deep n).law (some_factor n)) operated from_left ts rest e) c.in_err-left.ensures in
    let p = err_from_is_err_and c.from_residual.result c.from_residual.ensures.1 in
    rw (p.1, p.2) h
