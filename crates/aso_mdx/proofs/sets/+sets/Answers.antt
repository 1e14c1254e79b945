use Rattle.std.proofs.Common.{◌-◌, ◌∙◌, ap, sym, List, [], ◌++◌, ◌∷◌, arith}
use Rattle.std.proofs.lemmas.List.{length-map}
use Rattle.aso_token.specs.Reads.{tokens_of, onward}
use Rattle.aso_token.specs.Marks.{comma}
use Rattle.aso_token.proofs.Laws.{gives_same}
use Rattle.aso_token.proofs.Lists.{onward_start, onward_front, front_less}
use Rattle.aso_mdx.specs.declared.query.SetText.{SetText}
use Rattle.aso_mdx.specs.Grammar.{Set, all_of}
use Rattle.aso_mdx.specs.Reading.{read_leaf, read_nested, read_braces_rest, read_crossing_rest, grown}
use Rattle.aso_mdx.proofs.Laws.{nested_law, set_goes, comma_set, comma_token, some_set}
use Rattle.aso_mdx.proofs.Steps.{all_same, set_zero, set_brace, set_cross, set_leaf}
use Rattle.aso_mdx.proofs.sets.+sets.Goals as goal

pub items-loop-after-init : goal.items-loop-after-init
items-loop-after-init t c =
    let n = c.args.nested in
    let rest = tokens_of c.in_ok-first.rest.now in
    let first = c.in_ok-first.first in
    onward_start (Set n) set_goes (read_nested n) (nested_law n) comma comma_set comma_token (some_set n) grown all_of (tokens_of c.args.tokens.now) (first, rest) (first ∷ []) (all_same first) c.in_ok-first.ensures
    ∙ ap (λ (all : List SetText). onward grown comma (read_nested n) all rest) (sym (c.in_ok-push.ensures.items ∙ ap (λ (z : List (SetText)). z ++ c.in_ok-first.first ∷ []) c.new-all.ensures.items))

pub items-loop-after-preserved : goal.items-loop-after-preserved
items-loop-after-preserved t c =
    let n = c.args.nested in
    let rest = tokens_of c.in_ok-next.further.now in
    c.loop-after.invariant
    ∙ onward_front (Set n) set_goes (read_nested n) (nested_law n) comma comma_set comma_token (some_set n) grown
    c.loop-after.all.items (tokens_of c.loop-after.rest.now) (tokens_of c.in-Some.after.now) tt (c.in_ok-next.next, rest) c.in-Some.ensures c.in_ok-next.ensures
    ∙ ap (λ (all : List SetText). onward grown comma (read_nested n) all rest) (sym c.in_ok-push-2.ensures.items)

pub items-loop-after-smaller : goal.items-loop-after-smaller
items-loop-after-smaller t c =
    let n = c.args.nested in
    let less = front_less (Set n) set_goes (read_nested n) (nested_law n) comma comma_set comma_token (some_set n) grown
    (tokens_of c.loop-after.rest.now) (tokens_of c.in-Some.after.now) tt (c.in_ok-next.next, tokens_of c.in_ok-next.further.now) c.in-Some.ensures c.in_ok-next.ensures in
    omega (arith, less, length-map c.loop-after.rest.now (λ p. p.token), length-map c.in_ok-next.further.now (λ p. p.token))

pub set-returns-then-nested-eq0 : goal.set-returns-then-nested-eq0
set-returns-then-nested-eq0 t c =
    let ts = tokens_of c.args.tokens.now in
    gives_same (λ x. (x.0, tokens_of x.1.now)) c.leaf.result (read_leaf ts) (read_nested c.args.nested ts) (set_zero c.args.nested ts c.if-nested-eq0.true) c.leaf.ensures

pub set-returns-in-Some : goal.set-returns-in-Some
set-returns-in-Some t c =
    let ts = tokens_of c.args.tokens.now in
    let rest = tokens_of c.in-Some.rest.now in
    gives_same (λ x. (x.0, tokens_of x.1.now)) c.braced.result (read_braces_rest (read_nested (c.args.nested - 1)) rest) (read_nested c.args.nested ts) (set_brace c.args.nested ts rest c.if-nested-eq0.false c.in-Some.ensures) c.braced.ensures

pub set-returns-in-Some-after_crossjoin : goal.set-returns-in-Some-after_crossjoin
set-returns-in-Some-after_crossjoin t c =
    let ts = tokens_of c.args.tokens.now in
    let rest = tokens_of c.in-Some-after_crossjoin.rest.now in
    gives_same (λ x. (x.0, tokens_of x.1.now)) c.crossed.result (read_crossing_rest (read_nested (c.args.nested - 1)) rest) (read_nested c.args.nested ts) (set_cross c.args.nested ts rest c.if-nested-eq0.false c.in_default.ensures c.in-Some-after_crossjoin.ensures) c.crossed.ensures

pub set-returns : goal.set-returns
set-returns t c =
    let ts = tokens_of c.args.tokens.now in
    gives_same (λ x. (x.0, tokens_of x.1.now)) c.leaf-2.result (read_leaf ts) (read_nested c.args.nested ts) (set_leaf c.args.nested ts c.if-nested-eq0.false c.in_default.ensures c.in_default-after_crossjoin.ensures) c.leaf-2.ensures
