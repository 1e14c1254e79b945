use Rattle.std.proofs.Common.{rules}
use Rattle.aso_sums.proofs.Asking.{asked_more}
use Rattle.aso_sums.proofs.asked.Asked.add.Goals as goal

pub returns-clause-asking : goal.returns-clause-asking
returns-clause-asking c = asked_more c.args._outline.now c.args.self.now _ c.args.m c.requires.member c.requires.asking c.in_ok-push.ensures.items (search (rules, c.len-place.ensures))
