use Rattle.std.proofs.Common.{rules, ◌≡◌}
use Rattle.std.specs.String.{string_bytes}
use Rattle.aso_formula.specs.Printing.{formula_text}
use Rattle.aso_formula.proofs.Again.{spelled_again, fewest_parens}
use Rattle.aso_formula.proofs.printing.print.Goals as goal

pub returns-clause-reads_again : goal.returns-clause-reads_again
returns-clause-reads_again c =
    let is : string_bytes c.put.new.out ≡ formula_text c.args.e.now = search rules in
    spelled_again (string_bytes c.put.new.out) c.args.e.now is

pub returns-clause-fewest_parentheses : goal.returns-clause-fewest_parentheses
returns-clause-fewest_parentheses c =
    let is : string_bytes c.put.new.out ≡ formula_text c.args.e.now = search rules in
    fewest_parens (string_bytes c.put.new.out) c.args.e.now is
