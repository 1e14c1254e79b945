use Rattle.aso_stage.proofs.Sinks.{front_longer, puts_then}
use Rattle.aso_stage.proofs.replying.put_pair.Goals as goal

pub returns-in-Ok-clause-written : goal.returns-in-Ok-clause-written
returns-in-Ok-clause-written g c = puts_then _ _ _ c.args.first.now c.args.second.now _ c.in-Ok.ensures.written c.put-in-Ok.ensures.written

pub returns-in-Err-clause-written : goal.returns-in-Err-clause-written
returns-in-Err-clause-written g c = front_longer _ _ c.args.first.now c.args.second.now c.in-Err.ensures.written
