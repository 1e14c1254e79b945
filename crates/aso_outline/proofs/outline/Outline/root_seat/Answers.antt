use Rattle.std.proofs.Common.{◌<◌, ◌≤◌, arith, length, subst}
use Rattle.aso_outline.specs.Members.{dim_at}
use Rattle.aso_outline.specs.Numbers.{IsDim}
use Rattle.aso_outline.proofs.outline.Outline.root_seat.Goals as goal

pub returns-else-hiers-gt1-clause-there : goal.returns-else-hiers-gt1-clause-there
returns-else-hiers-gt1-clause-there c =
    let o = c.args.self.now in
    let d = c.in-Base.dim in
    let low : d < length o.dims = subst (IsDim o) c.in-Base.is c.requires in
    let some : 1 ≤ length (dim_at o d).hiers = c.keeps_roots.ensures.some_hier d low in
    (low, omega (arith, some), c.keeps_roots.ensures.trees d 0 low (omega (arith, some)))

pub returns-in-Attr-clause-there : goal.returns-in-Attr-clause-there
returns-in-Attr-clause-there c =
    let o = c.args.self.now in
    let a = c.in-Attr.attr in
    let low : a < length o.attrs = subst (IsDim o) c.in-Attr.is c.requires in
    (low, c.keeps_roots.ensures.attrs a low)
