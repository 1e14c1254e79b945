use Rattle.std.proofs.Common.{◌≡◌, ◌∙◌, ◌≤◌, ◌+◌, ◌<◌, ℕ, get_or, List, [], ◌∷◌, ◌++◌, map, take, drop, length, refl, sym, ap, subst, arith}
use Rattle.aso_catalog.proofs.Views.{throughout_nothing, throughout_then, throughout_weaker}
use Rattle.std.proofs.lemmas.List.{length-map, length-take-le, map-append, take-append-drop, take_all, take_more}
use Rattle.aso_script.specs.Lines.{line as line_of}
use Rattle.aso_script.specs.declared.cutting.Line.{Line as Cut}
use Rattle.aso_script.specs.Script.{Line}
use Rattle.aso_num.specs.declared.status.Status.{Status}
use Rattle.aso_stage.specs.Runs.{SoFar}
use Rattle.aso_stage.specs.Session.{first_fault}
use Rattle.aso_stage.proofs.Sinks.{appends_nothing}
use Rattle.aso_stage.proofs.Sessions.{cut_at, cut_at_end, none_so_far, one_more, whole}
use Rattle.aso_stage.proofs.running.run_lines.Goals as goal

-- the lines that were taken, and one more
taken_more : (lines : List Cut) (i : ℕ) (d : Cut) → i < length lines → map line_of (take (i + 1) lines) ≡ map line_of (take i lines) ++ line_of (get_or lines i d) ∷ []
taken_more lines i d low = ap (map line_of) (take_more lines i d low) ∙ map-append line_of (take i lines) (get_or lines i d ∷ [])

taken_count : (lines : List Cut) (i : ℕ) → i ≤ length lines → length (map line_of (take i lines)) ≡ i
taken_count lines i low = length-map (take i lines) line_of ∙ length-take-le i lines low

taken_whole : (lines : List Cut) (n : ℕ) → map line_of (take n lines) ++ map line_of (drop n lines) ≡ map line_of lines
taken_whole lines n = sym (map-append line_of (take n lines) (drop n lines)) ∙ ap (map line_of) (take-append-drop n lines)

pub loop-line-init : goal.loop-line-init
loop-line-init g c = record {
  ready = c.requires;
  number = refl;
  told = refl;
  later = omega arith;
  same = g.met.C.Slots.same_refl c.args.catalog.now.slots;
  sink = omega arith;
  past = throughout_weaker c.args.catalog.now c.args.catalog.now _ (λ x. Unit {0}) (throughout_nothing c.args.catalog.now) (λ x e. tt);
  so_far = λ h holds. none_so_far c.args.catalog.now h (g.K.Sink.written c.args.out.now) c.args.store.now (g.K.Sink.written c.args.out.now) holds (appends_nothing (g.K.Sink.written c.args.out.now));
}

pub returns-in-Err-clause-ran : goal.returns-in-Err-clause-ran
returns-in-Err-clause-ran g c = λ h holds.
    let lines : List Cut = c.args.lines.now in
    let i : ℕ = c.loop-line.line-index in
    let d : Cut = record { at = 0; bytes = record { ref_ptr = (0, 0); now = [] } } in
    let so = c.loop-line.invariant.so_far h holds in
    let r = c.in-Err.ensures.replies so.last so.holds in
    let low : i < length lines = omega (arith, c.loop-line-test.true) in
    let count = taken_count lines i (omega (arith, low)) in
    let more = taken_more lines i d low in
    let at : c.loop-line.number + 1 ≡ 1 + length (map line_of (take i lines)) = omega (arith, c.loop-line.invariant.number, count) in
    let rest : List Line = map line_of (drop (i + 1) lines) in
    let all = ap (λ (ls : List Line). ls ++ rest) (sym more) ∙ taken_whole lines (i + 1) in
    cut_at c.args.catalog.now h (g.K.Sink.written c.args.out.now) c.loop-line.catalog c.reply_to.new.catalog c.loop-line.store c.reply_to.new.store (map line_of (take i lines)) (line_of (get_or lines i d)) (g.K.Sink.written c.loop-line.out) (g.K.Sink.written c.reply_to.new.out) c.loop-line.status so
    (c.loop-line.number + 1) at c.loop-line.invariant.told c.reply_to.ensures.past c.reply_to.ensures.later rest (map line_of lines) c.in-Err.trouble all (c.reply_to.ensures.told ∙ c.loop-line.invariant.told) r

pub loop-line-preserved : goal.loop-line-preserved
loop-line-preserved g c =
    record {
      ready = c.reply_to.ensures.ready;
      number = omega (arith, c.loop-line.invariant.number);
      told = c.reply_to.ensures.told ∙ c.loop-line.invariant.told;
      later = omega (arith, c.reply_to.ensures.later, c.loop-line.invariant.later);
      same = g.met.C.Slots.same_trans _ _ _ c.loop-line.invariant.same c.reply_to.ensures.same;
      sink = omega (arith, c.reply_to.ensures.cause.later, c.loop-line.invariant.sink);
      past = throughout_then c.args.catalog.now c.loop-line.catalog c.reply_to.new.catalog (λ x. Unit {0}) (λ x. Unit {0}) (λ x. Unit {0}) c.loop-line.invariant.past c.reply_to.ensures.past (λ x e. tt) (λ x e. tt);
      so_far = λ h holds.
          let lines : List Cut = c.args.lines.now in
          let i : ℕ = c.loop-line.line-index in
          let d : Cut = record { at = 0; bytes = record { ref_ptr = (0, 0); now = [] } } in
          let so = c.loop-line.invariant.so_far h holds in
          let r = c.in-Ok.ensures.replies so.last so.holds in
          let low : i < length lines = omega (arith, c.loop-line-test.true) in
          let count = taken_count lines i (omega (arith, low)) in
          let at : c.loop-line.number + 1 ≡ 1 + length (map line_of (take i lines)) = omega (arith, c.loop-line.invariant.number, count) in
          let next = one_more c.args.catalog.now h (g.K.Sink.written c.args.out.now) c.loop-line.catalog c.reply_to.new.catalog c.loop-line.store c.reply_to.new.store (map line_of (take i lines)) (line_of (get_or lines i d)) (g.K.Sink.written c.loop-line.out) (g.K.Sink.written c.reply_to.new.out) c.loop-line.status so
          (c.loop-line.number + 1) at c.loop-line.invariant.told c.reply_to.ensures.past c.reply_to.ensures.later c.in-Ok.next r in
          subst (λ (x : Status). SoFar c.args.catalog.now c.reply_to.new.catalog c.reply_to.new.store h (map line_of (take (i + 1) lines)) (g.K.Sink.written c.args.out.now) (g.K.Sink.written c.reply_to.new.out) x) (sym c.first_fault-status.ensures)
          (subst (λ (ls : List Line). SoFar c.args.catalog.now c.reply_to.new.catalog c.reply_to.new.store h ls (g.K.Sink.written c.args.out.now) (g.K.Sink.written c.reply_to.new.out) (first_fault c.loop-line.status c.in-Ok.next)) (sym (taken_more lines i d low)) next);
    }

pub returns-in-Ok-put_end-clause-ran : goal.returns-in-Ok-put_end-clause-ran
returns-in-Ok-put_end-clause-ran g c = λ h holds.
    let lines : List Cut = c.args.lines.now in
    let i : ℕ = c.loop-line.line-index in
    let high : length lines ≤ i = omega (arith, c.loop-line-test.false) in
    let all : map line_of (take i lines) ≡ map line_of lines = ap (map line_of) (take_all i lines high) in
    let so = subst (λ (ls : List Line). SoFar c.args.catalog.now c.loop-line.catalog c.loop-line.store h ls (g.K.Sink.written c.args.out.now) (g.K.Sink.written c.loop-line.out) c.loop-line.status) all (c.loop-line.invariant.so_far h holds) in
    let count = length-map lines line_of in
    let at : c.loop-line.number ≡ length (map line_of lines) = omega (arith, c.loop-line.invariant.number, c.loop-line.auto.line-index-end, high, count) in
    whole c.args.catalog.now h (g.K.Sink.written c.args.out.now) c.loop-line.catalog c.loop-line.store (map line_of lines) (g.K.Sink.written c.loop-line.out) (g.K.Sink.written c.put_end.new.out) c.loop-line.status so c.loop-line.number at c.loop-line.invariant.told
    c.in-Ok-put_end.ensures.written

pub returns-in-Err-put_end-clause-ran : goal.returns-in-Err-put_end-clause-ran
returns-in-Err-put_end-clause-ran g c = λ h holds.
    let lines : List Cut = c.args.lines.now in
    let i : ℕ = c.loop-line.line-index in
    let high : length lines ≤ i = omega (arith, c.loop-line-test.false) in
    let all : map line_of (take i lines) ≡ map line_of lines = ap (map line_of) (take_all i lines high) in
    let so = subst (λ (ls : List Line). SoFar c.args.catalog.now c.loop-line.catalog c.loop-line.store h ls (g.K.Sink.written c.args.out.now) (g.K.Sink.written c.loop-line.out) c.loop-line.status) all (c.loop-line.invariant.so_far h holds) in
    let count = length-map lines line_of in
    let at : c.loop-line.number ≡ length (map line_of lines) = omega (arith, c.loop-line.invariant.number, c.loop-line.auto.line-index-end, high, count) in
    cut_at_end c.args.catalog.now h (g.K.Sink.written c.args.out.now) c.loop-line.catalog c.loop-line.store (map line_of lines) (g.K.Sink.written c.loop-line.out) (g.K.Sink.written c.put_end.new.out) c.loop-line.status so c.loop-line.number at c.loop-line.invariant.told
    c.in-Err-put_end.trouble c.in-Err-put_end.ensures.written
