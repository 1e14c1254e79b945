use Rattle.std.proofs.Common.{◌+◌, ◌<◌, ◌≤◌, arith, length}
use Rattle.aso_outline.specs.Members.{dim_at}
use Rattle.aso_outline.proofs.outline.Outline.next_root.Goals as goal

pub overflow_add-hier : goal.overflow_add-hier
overflow_add-hier c =
    let o = c.args.self.now in
    let few : length (dim_at o c.args.dim).hiers ≤ 8 = c.keeps_roots.ensures.few_hiers c.args.dim c.requires.0 in
    omega (arith, few, c.requires.1)

pub returns-then-hier-hiers-clause-there : goal.returns-then-hier-hiers-clause-there
returns-then-hier-hiers-clause-there c =
    let o = c.args.self.now in
    let next : c.args.hier + 1 < length (dim_at o c.args.dim).hiers = omega (arith, c.hiers.ensures, c.if-hier-hiers.true) in
    (c.requires.0, next, c.keeps_roots.ensures.trees c.args.dim (c.args.hier + 1) c.requires.0 next)
