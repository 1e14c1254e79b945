use Rattle.std.proofs.Common.{◌∙◌, ◌++◌, ℕ, List, subst}
use Rattle.std.specs.Fmt.{decimal}
use Rattle.aso_disk.specs.Texts.{Puts}
use Rattle.aso_stage.proofs.Sinks.{front_longer, puts_then}
use Rattle.aso_stage.proofs.replying.put_numbered.Goals as goal

pub returns-in-Ok-clause-written : goal.returns-in-Ok-clause-written
returns-in-Ok-clause-written g c =
    let digits = c.as_bytes-digits.ensures.value ∙ c.format.ensures.text in
    puts_then _ _ _ c.args.front.now (decimal c.args.number ++ c.args.back.now) _ c.in-Ok.ensures.written
    (subst (λ (l : List ℕ). Puts (g.K.Sink.written c.put.new.self) (g.K.Sink.written c.put_pair.new.out) (l ++ c.args.back.now) c.put_pair.result) digits c.put_pair.ensures.written)

pub returns-in-Err-clause-written : goal.returns-in-Err-clause-written
returns-in-Err-clause-written g c = front_longer _ _ c.args.front.now (decimal c.args.number ++ c.args.back.now) c.in-Err.ensures.written
