use Rattle.std.proofs.Common.{rules}
use Rattle.std.specs.String.{string_bytes}
use Rattle.aso_formula.proofs.Joins.{glued_shown}
use Rattle.aso_formula.proofs.printing.+put.Goals as goal

pub returns-in_ok-put_if-in-Bin-2 : goal.returns-in_ok-put_if-in-Bin-2
returns-in_ok-put_if-in-Bin-2 t c =
    glued_shown (string_bytes c.args.out.now) (string_bytes c.put_if.new.out) (string_bytes c.put-in-Bin.new.out) (string_bytes c.put_op.new.out) (string_bytes c.put-in-Bin-2.new.out) (string_bytes c.put_if-in-Bin.new.out)
    c.args.e.now c.get-in-Bin.result.now c.get-in-Bin-2.result.now c.in-Bin.op c.level-own.result c.args.least
    (search rules) (search rules) (search rules) (search rules) (search rules) (search rules) (search rules)
