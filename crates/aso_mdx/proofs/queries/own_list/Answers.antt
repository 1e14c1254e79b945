use Rattle.std.proofs.Common.{◌∙◌, ap, sym, List, [], ◌++◌, ◌∷◌, arith, codes, ◌-◌}
use Rattle.std.proofs.lemmas.Result.{err_from_is_err_and}
use Rattle.aso_token.specs.Reads.{tokens_of, ◌>>=◌, read_upto, passes}
use Rattle.aso_token.specs.Words.{key}
use Rattle.aso_token.proofs.Laws.{fails_on}
use Rattle.aso_mdx.specs.declared.query.Own.{Own}
use Rattle.aso_mdx.specs.Reading.{read_own, read_own_list, put_behind}
use Rattle.aso_mdx.proofs.Parts.{owns_start, owns_fail, owns_full, owns_end, owns_more, owns_stop}
use Rattle.aso_mdx.proofs.queries.own_list.Goals as goal

pub loop-left-init : goal.loop-left-init
loop-left-init c =
    let rest = tokens_of c.in_ok-first.rest.now in
    owns_start (tokens_of c.args.tokens.now) (c.in_ok-first.first, rest) c.in_ok-first.ensures
    ∙ ap (λ (all : List Own). read_upto (passes (key (codes "member"))) read_own 15 rest >>= put_behind all) (sym (c.in_ok-push.ensures.items ∙ ap (λ (z : List Own). z ++ c.in_ok-first.first ∷ []) c.new-all.ensures.items))

pub returns-in_err-first : goal.returns-in_err-first
returns-in_err-first c =
    let ts = tokens_of c.args.tokens.now in
    let h = fails_on c.in_err-first.field-0.0 (read_own ts) (read_own_list ts) (owns_fail ts) c.in_err-first.ensures in
    let p = err_from_is_err_and c.from_residual.result c.from_residual.ensures.1 in
    rw (p.1, p.2) h

pub returns-in_err-next : goal.returns-in_err-next
returns-in_err-next c =
    let ts = tokens_of c.args.tokens.now in
    let rest = tokens_of c.loop-left.rest.now in
    let h = fails_on c.in_err-next.field-0.0 (read_own rest) (read_own_list ts)
    (λ fault e. c.loop-left.invariant ∙ owns_stop c.loop-left.left c.loop-left.all.items rest fault (omega (arith, c.loop-left-test.true)) (sym c.begins_word.ensures ∙ c.if-not-begins_word.false) e) c.in_err-next.ensures in
    let p = err_from_is_err_and c.from_residual-in_err-next.result c.from_residual-in_err-next.ensures.1 in
    rw (p.1, p.2) h

pub loop-left-preserved : goal.loop-left-preserved
loop-left-preserved c =
    let rest = tokens_of c.in_ok-next.further.now in
    let left = c.loop-left.left in
    c.loop-left.invariant
    ∙ owns_more left (left - 1) c.loop-left.all.items (tokens_of c.loop-left.rest.now) (c.in_ok-next.next, rest) (omega (arith, c.loop-left-test.true)) (sym c.begins_word.ensures ∙ c.if-not-begins_word.false) c.in_ok-next.ensures
    ∙ ap (λ (all : List Own). read_upto (passes (key (codes "member"))) read_own (left - 1) rest >>= put_behind all) (sym c.in_ok-push-2.ensures.items)

pub returns-then-not-begins_word : goal.returns-then-not-begins_word
returns-then-not-begins_word c = rw c.of.ensures (c.loop-left.invariant ∙ owns_end c.loop-left.left c.loop-left.all.items (tokens_of c.loop-left.rest.now) (sym c.begins_word.ensures ∙ c.if-not-begins_word.true))

pub returns : goal.returns
returns c = rw c.of-2.ensures (c.loop-left.invariant ∙ owns_full c.loop-left.left c.loop-left.all.items (tokens_of c.loop-left.rest.now) (omega (arith, c.loop-left-test.false)))
