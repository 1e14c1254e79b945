use Rattle.std.proofs.Common.{◌∙◌, ap, sym, List, [], ◌∷◌, ◌++◌}
use Rattle.std.proofs.lemmas.Result.{err_from_is_err_and}
use Rattle.aso_token.specs.Reads.{tokens_of, read_one, ◌>>=◌}
use Rattle.aso_token.proofs.Laws.{fails_on}
use Rattle.aso_token.specs.Words.{part}
use Rattle.aso_mdx.specs.Grammar.{Name, later_part}
use Rattle.aso_mdx.specs.Reading.{read_dotted, read_tails, finish}
use Rattle.aso_mdx.specs.Shapes.{shape_of}
use Rattle.aso_mdx.proofs.Steps.{dotted_start, dotted_fail, dotted_end, dotted_method, dotted_more, dotted_stop}
use Rattle.aso_mdx.proofs.sets.dotted.Goals as goal

pub returns-in_err-first : goal.returns-in_err-first
returns-in_err-first c =
    let ts = tokens_of c.args.tokens.now in
    let h = fails_on c.in_err-first.field-0.0 (read_one part ts) (read_dotted ts) (dotted_fail ts) c.in_err-first.ensures in
    let p = err_from_is_err_and c.from_residual.result c.from_residual.ensures.1 in
    rw (p.1, p.2) h

pub loop-after-init : goal.loop-after-init
loop-after-init c =
    let rest = tokens_of c.in_ok-first.rest.now in
    dotted_start (tokens_of c.args.tokens.now) (c.in_ok-first.first, rest) c.in_ok-first.ensures
    ∙ ap (λ (parts : List Name). read_tails rest >>= finish parts) (sym (c.in_ok-push.ensures.items ∙ ap (λ (z : List (Name)). z ++ c.in_ok-first.first ∷ []) c.new-parts.ensures.items))

pub returns-in-Some-after_method : goal.returns-in-Some-after_method
returns-in-Some-after_method c =
    let left = tokens_of c.in-Some-after_method.left.now in
    rw (c.applied.ensures, c.of.ensures)
    (c.loop-after.invariant
    ∙ dotted_method c.loop-after.parts.items (tokens_of c.loop-after.rest.now) (tokens_of c.in-Some.after.now) left (shape_of c.in-Some-after_method.shape) c.in-Some.ensures c.in-Some-after_method.ensures)

pub returns-in_err-next : goal.returns-in_err-next
returns-in_err-next c =
    let ts = tokens_of c.args.tokens.now in
    let after = tokens_of c.in-Some.after.now in
    let h = fails_on c.in_err-next.field-0.0 (read_one later_part after) (read_dotted ts)
    (λ fault e. c.loop-after.invariant ∙ dotted_stop c.loop-after.parts.items (tokens_of c.loop-after.rest.now) after fault c.in-Some.ensures c.in_default-after_method.ensures e) c.in_err-next.ensures in
    let p = err_from_is_err_and c.from_residual-in_err-next.result c.from_residual-in_err-next.ensures.1 in
    rw (p.1, p.2) h

pub loop-after-preserved : goal.loop-after-preserved
loop-after-preserved c =
    let rest = tokens_of c.in_ok-next.further.now in
    c.loop-after.invariant
    ∙ dotted_more c.loop-after.parts.items (tokens_of c.loop-after.rest.now) (tokens_of c.in-Some.after.now) (c.in_ok-next.next, rest) c.in-Some.ensures c.in_default-after_method.ensures c.in_ok-next.ensures
    ∙ ap (λ (parts : List Name). read_tails rest >>= finish parts) (sym c.in_ok-push-2.ensures.items)

pub returns : goal.returns
returns c = rw c.of-2.ensures (c.loop-after.invariant ∙ dotted_end c.loop-after.parts.items (tokens_of c.loop-after.rest.now) c.in_default.ensures)
