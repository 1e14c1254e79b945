use Rattle.std.proofs.Common.{arith, subst}
use Rattle.aso_outline.specs.declared.seat.Seat.TheVariants.{Whole}
use Rattle.aso_outline.specs.Numbers.{IsSeat}
use Rattle.aso_outline.proofs.outline.Outline.first_child_seat.Goals as goal

pub returns-in-Whole-clause-there : goal.returns-in-Whole-clause-there
returns-in-Whole-clause-there c =
    let o = c.args.self.now in
    let d = c.in-Whole.dim in
    let there : IsSeat o (Whole d) = subst (IsSeat o) c.in-Whole.is c.requires in
    (there.0, omega (arith, there.1), c.keeps_roots.ensures.trees d 0 there.0 (omega (arith, there.1)))
