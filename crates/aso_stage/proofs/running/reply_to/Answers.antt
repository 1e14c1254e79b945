use Rattle.std.proofs.Common.{List, ℕ, codes, refl, subst}
use Rattle.aso_num.specs.declared.status.Status.TheVariants.{NoMemory}
use Rattle.aso_disk.specs.Texts.{Appends, AppendsFront}
use Rattle.aso_script.specs.Lines.{line as line_of}
use Rattle.aso_spec.specs.Grid.{error_line}
use Rattle.aso_stage.proofs.Taking.{starved_at}
use Rattle.aso_stage.proofs.running.reply_to.Goals as goal

pub returns-in-Ok-clause-replies : goal.returns-in-Ok-clause-replies
returns-in-Ok-clause-replies g c = λ h holds. record {
  reply = c.in-Ok.answer.text.items;
  status = c.in-Ok.answer.status;
  taken = c.in-Ok.ensures.taken h holds;
  puts = subst (λ (l : List ℕ). AppendsFront (g.K.Sink.written c.args.out.now) (g.K.Sink.written c.put.new.self) l) c.deref.ensures.value c.in-Err-put.ensures.written;
}

pub returns-in-Ok-put-clause-replies : goal.returns-in-Ok-put-clause-replies
returns-in-Ok-put-clause-replies g c = λ h holds. record {
  reply = c.in-Ok.answer.text.items;
  status = c.in-Ok.answer.status;
  taken = c.in-Ok.ensures.taken h holds;
  puts = (refl, subst (λ (l : List ℕ). Appends (g.K.Sink.written c.args.out.now) (g.K.Sink.written c.put.new.self) l) c.deref.ensures.value c.in-Ok-put.ensures.written);
}

pub returns-in-Ok-put_no_memory-clause-replies : goal.returns-in-Ok-put_no_memory-clause-replies
returns-in-Ok-put_no_memory-clause-replies g c = λ h holds.
    let stays = c.in-Err.ensures.stays in
    let reply : List ℕ = error_line c.args.number (codes "401 no memory") in
    record {
      reply = reply;
      status = NoMemory;
      taken = starved_at c.args.catalog.now c.take_line.new.catalog c.args.store.now c.take_line.new.store h stays.0 stays.1 holds c.args.number (line_of c.args.line.now) reply refl;
      puts = (refl, c.in-Ok-put_no_memory.ensures.written);
    }

pub returns-clause-replies : goal.returns-clause-replies
returns-clause-replies g c = λ h holds.
    let stays = c.in-Err.ensures.stays in
    let reply : List ℕ = error_line c.args.number (codes "401 no memory") in
    record {
      reply = reply;
      status = NoMemory;
      taken = starved_at c.args.catalog.now c.take_line.new.catalog c.args.store.now c.take_line.new.store h stays.0 stays.1 holds c.args.number (line_of c.args.line.now) reply refl;
      puts = c.in-Err-put_no_memory.ensures.written;
    }
