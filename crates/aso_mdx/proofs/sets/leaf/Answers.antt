use Rattle.aso_token.specs.Reads.{tokens_of}
use Rattle.aso_token.proofs.Laws.{gives_same}
use Rattle.aso_mdx.specs.Reading.{read_tuple_rest, read_applied, read_dotted, read_leaf}
use Rattle.aso_mdx.specs.Shapes.{shape_of}
use Rattle.aso_mdx.proofs.Steps.{leaf_open, leaf_call, leaf_dotted}
use Rattle.aso_mdx.proofs.sets.leaf.Goals as goal

pub returns-in-Some : goal.returns-in-Some
returns-in-Some c =
    let ts = tokens_of c.args.tokens.now in
    let rest = tokens_of c.in-Some.rest.now in
    gives_same (λ x. (x.0, tokens_of x.1.now)) c.tuple.result (read_tuple_rest rest) (read_leaf ts) (leaf_open ts rest c.in-Some.ensures) c.tuple.ensures

pub returns-in-Some-after_function : goal.returns-in-Some-after_function
returns-in-Some-after_function c =
    let ts = tokens_of c.args.tokens.now in
    let rest = tokens_of c.in-Some-after_function.rest.now in
    let m = shape_of c.in-Some-after_function.shape in
    gives_same (λ x. (x.0, tokens_of x.1.now)) c.called.result (read_applied m rest) (read_leaf ts) (leaf_call ts rest m c.in_default.ensures c.in-Some-after_function.ensures) c.called.ensures

pub returns : goal.returns
returns c =
    let ts = tokens_of c.args.tokens.now in
    gives_same (λ x. (x.0, tokens_of x.1.now)) c.dotted.result (read_dotted ts) (read_leaf ts) (leaf_dotted ts c.in_default.ensures c.in_default-after_function.ensures) c.dotted.ensures
