use Rattle.std.proofs.Common.{◌∙◌, ap, sym, List, [], ◌++◌, ◌∷◌, arith}
use Rattle.std.proofs.lemmas.List.{length-map}
use Rattle.aso_token.specs.Reads.{tokens_of, onward}
use Rattle.aso_token.specs.Marks.{comma}
use Rattle.aso_token.proofs.Lists.{onward_start, onward_front, front_less}
use Rattle.aso_mdx.specs.Grammar.{Name, Path, all_of}
use Rattle.aso_mdx.specs.Reading.{read_path, grown}
use Rattle.aso_mdx.proofs.Laws.{path_law, path_goes, comma_path, comma_token, some_path}
use Rattle.aso_mdx.proofs.Steps.{all_same}
use Rattle.aso_mdx.proofs.sets.members.Goals as goal

pub loop-after-init : goal.loop-after-init
loop-after-init c =
    let rest = tokens_of c.in_ok-first.rest.now in
    let first = c.in_ok-first.first in
    onward_start Path path_goes read_path path_law comma comma_path comma_token some_path grown all_of (tokens_of c.args.tokens.now) (first, rest) (first ∷ []) (all_same first) c.in_ok-first.ensures
    ∙ ap (λ (all : List (List Name)). onward grown comma read_path all rest) (sym (c.in_ok-push.ensures.items ∙ ap (λ (z : List (List Name)). z ++ c.in_ok-first.first ∷ []) c.new-all.ensures.items))

pub loop-after-preserved : goal.loop-after-preserved
loop-after-preserved c =
    let rest = tokens_of c.in_ok-next.further.now in
    c.loop-after.invariant
    ∙ onward_front Path path_goes read_path path_law comma comma_path comma_token some_path grown
    c.loop-after.all.items (tokens_of c.loop-after.rest.now) (tokens_of c.in-Some.after.now) tt (c.in_ok-next.next, rest) c.in-Some.ensures c.in_ok-next.ensures
    ∙ ap (λ (all : List (List Name)). onward grown comma read_path all rest) (sym c.in_ok-push-2.ensures.items)

pub loop-after-smaller : goal.loop-after-smaller
loop-after-smaller c =
    let less = front_less Path path_goes read_path path_law comma comma_path comma_token some_path grown
    (tokens_of c.loop-after.rest.now) (tokens_of c.in-Some.after.now) tt (c.in_ok-next.next, tokens_of c.in_ok-next.further.now) c.in-Some.ensures c.in_ok-next.ensures in
    omega (arith, less, length-map c.loop-after.rest.now (λ p. p.token), length-map c.in_ok-next.further.now (λ p. p.token))
