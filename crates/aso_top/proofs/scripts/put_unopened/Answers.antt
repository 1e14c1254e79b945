use Rattle.std.proofs.Common.{sym, subst}
use Rattle.std.specs.Prelude.{Result}
use Rattle.aso_memory.specs.declared.NoMemory.{NoMemory}
use Rattle.aso_stage.specs.declared.answer.Answer.{Answer}
use Rattle.aso_top.specs.Ends.{EndsAs}
use Rattle.aso_top.proofs.scripts.put_unopened.Goals as goal

pub returns-in-Err-clause-ends : goal.returns-in-Err-clause-ends
returns-in-Err-clause-ends g c = subst (λ (a : Result Answer NoMemory). EndsAs (g.K.Sink.written c.args.out.now) (g.K.Sink.written c.deliver-in-Err.new.out) a c.deliver-in-Err.result) (sym c.in-Err.is) c.deliver-in-Err.ensures.ends
