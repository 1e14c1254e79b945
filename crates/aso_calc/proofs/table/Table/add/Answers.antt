use Rattle.std.proofs.Common.{Some}
use Rattle.aso_calc.proofs.Keys.{updates}
use Rattle.aso_calc.proofs.table.Table.add.Goals as goal

pub returns : goal.returns
returns g c = λ q. updates (λ k. k.items) c.args.key.items c.args.self.now.map c.insert.new.self (Some c.args.value) c.in_ok-insert.ensures.updates q
