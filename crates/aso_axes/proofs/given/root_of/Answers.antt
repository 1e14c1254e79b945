use Rattle.aso_outline.specs.declared.seat.Seat.TheVariants.{Inner}
use Rattle.aso_axes.proofs.given.root_of.Goals as goal

pub returns : goal.returns
returns c = c.keeps_numbers.ensures (Inner c.args.dim c.args.hier 0) c.number.result c.number.ensures
