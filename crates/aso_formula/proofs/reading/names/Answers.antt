use Rattle.std.proofs.Common.{rules, ◌∙◌, ap, refl}
use Rattle.aso_token.specs.declared.token.Token.TheVariants.{Mark}
use Rattle.aso_token.specs.declared.token.Mark.TheVariants.{Comma}
use Rattle.aso_token.specs.Lang.{One}
use Rattle.aso_token.specs.Reads.{tokens_of, read_one, onward}
use Rattle.aso_token.proofs.Laws.{one_law, fails_on}
use Rattle.aso_token.proofs.Lists.{onward_front}
use Rattle.aso_token.specs.Marks.{comma, name}
use Rattle.aso_formula.specs.Reading.{grown, read_behind}
use Rattle.aso_formula.proofs.Laws.{never, some_name, one_name}
use Rattle.aso_formula.proofs.Steps.{names_start, names_fail}
use Rattle.aso_formula.proofs.reading.names.Goals as goal

pub returns-in_err-second : goal.returns-in_err-second
returns-in_err-second c =
    let ts = tokens_of c.args.tokens.now in
    search (rules, fails_on c.in_err-second.field-0.0 (read_one name ts) (read_behind c.args.first ts) (names_fail c.args.first ts) c.in_err-second.ensures)

pub loop-after-init : goal.loop-after-init
loop-after-init c =
    let ts = tokens_of c.args.tokens.now in
    names_start c.args.first ts (c.in_ok-second.second, tokens_of c.in_ok-second.rest.now) c.in_ok-second.ensures
    ∙ ap (λ all. onward grown comma (read_one name) all (tokens_of c.in_ok-second.rest.now)) (search rules)

pub loop-after-preserved : goal.loop-after-preserved
loop-after-preserved c =
    c.loop-after.invariant
    ∙ onward_front (One name) never (read_one name) (one_law name some_name) comma (λ t e. refl) (Mark Comma, tt, refl) one_name grown
    c.loop-after.all.items (tokens_of c.loop-after.rest.now) (tokens_of c.in-Some.after.now) tt (c.in_ok-next.next, tokens_of c.in_ok-next.further.now) c.in-Some.ensures c.in_ok-next.ensures
    ∙ ap (λ all. onward grown comma (read_one name) all (tokens_of c.in_ok-next.further.now)) (search rules)
