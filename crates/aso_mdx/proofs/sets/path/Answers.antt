use Rattle.std.proofs.Common.{◌∙◌, ap, sym, refl, List, [], ◌∷◌, ◌++◌}
use Rattle.std.proofs.lemmas.Result.{err_from_is_err_and}
use Rattle.aso_token.specs.Lang.{One}
use Rattle.aso_token.specs.Reads.{tokens_of, read_one, onward}
use Rattle.aso_token.proofs.Laws.{one_law, fails_on}
use Rattle.aso_token.proofs.Sequences.{Never}
use Rattle.aso_token.proofs.Lists.{onward_front}
use Rattle.aso_token.specs.Words.{dot, part}
use Rattle.aso_mdx.specs.Grammar.{Name, later_part}
use Rattle.aso_mdx.specs.Reading.{read_path, grown}
use Rattle.aso_mdx.proofs.Laws.{dot_token, later_token, some_one}
use Rattle.aso_mdx.proofs.Steps.{path_start, path_fail}
use Rattle.aso_mdx.proofs.sets.path.Goals as goal

pub returns-in_err-first : goal.returns-in_err-first
returns-in_err-first c =
    let ts = tokens_of c.args.tokens.now in
    let h = fails_on c.in_err-first.field-0.0 (read_one part ts) (read_path ts) (path_fail ts) c.in_err-first.ensures in
    let p = err_from_is_err_and c.from_residual.result c.from_residual.ensures.1 in
    rw (p.1, p.2) h

pub loop-after-init : goal.loop-after-init
loop-after-init c =
    let rest = tokens_of c.in_ok-first.rest.now in
    path_start (tokens_of c.args.tokens.now) (c.in_ok-first.first, rest) c.in_ok-first.ensures
    ∙ ap (λ (all : List Name). onward grown dot (read_one later_part) all rest) (sym (c.in_ok-push.ensures.items ∙ ap (λ (z : List (Name)). z ++ c.in_ok-first.first ∷ []) c.new-parts.ensures.items))

pub loop-after-preserved : goal.loop-after-preserved
loop-after-preserved c =
    let rest = tokens_of c.in_ok-next.further.now in
    c.loop-after.invariant
    ∙ onward_front (One later_part) Never (read_one later_part) (one_law later_part later_token) dot (λ t e. refl) dot_token (some_one later_part later_token) grown
    c.loop-after.parts.items (tokens_of c.loop-after.rest.now) (tokens_of c.in-Some.after.now) tt (c.in_ok-next.next, rest) c.in-Some.ensures c.in_ok-next.ensures
    ∙ ap (λ (all : List Name). onward grown dot (read_one later_part) all rest) (sym c.in_ok-push-2.ensures.items)
