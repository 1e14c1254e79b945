use Rattle.aso_outline.proofs.Numbered.{numbered}
use Rattle.aso_outline.proofs.outline.Outline.keeps_numbers.Goals as goal

pub returns : goal.returns
returns c s m is = numbered c.args.self.now m s is
