use Rattle.aso_outline.specs.Numbers.{seat_of}
use Rattle.aso_outline.proofs.ChildNumbers.{child_there, seat_there}
use Rattle.aso_outline.proofs.outline.Outline.children.Goals as goal

pub returns-clause-there : goal.returns-clause-there
returns-clause-there c k child is = child_there c.args.self.now c.args.m (seat_of c.args.self.now c.args.m) (seat_there c.args.self.now c.args.m c.requires) k child is

pub returns-in_err-push_children-clause-there : goal.returns-in_err-push_children-clause-there
returns-in_err-push_children-clause-there c k child is = child_there c.args.self.now c.args.m (seat_of c.args.self.now c.args.m) (seat_there c.args.self.now c.args.m c.requires) k child is
