-- Statements one behind the other.
use Rattle.std.proofs.Common.{◌≡◌, ◌∙◌, ℕ, ◌+◌, ◌≤◌, List, [], ◌∷◌, ◌++◌, length, Option, sym, refl, ap, subst, arith}
use Rattle.std.specs.Prelude.{Ok, Err}
use Rattle.std.proofs.lemmas.List.{length-map, map-append, append-nil}
use Rattle.std.proofs.lemmas.Grind.{flat_map-append}
use Rattle.aso_num.specs.declared.status.Status.{Status}
use Rattle.aso_num.specs.declared.status.Status.TheVariants.{Done, Usage, Refused, Damaged, Library, Sink, Disk, NoMemory, NoStore, Exists}
use Rattle.aso_disk.specs.Texts.{Appends, AppendsFront}
use Rattle.aso_disk.specs.declared.trouble.Trouble.{Trouble}
use Rattle.aso_script.specs.Script.{Line}
use Rattle.aso_spec.specs.Grid.{end_line}
use Rattle.aso_catalog.specs.declared.catalog.Catalog.{Catalog}
use Rattle.aso_catalog.specs.View.{IsTold, TellsAlike, Throughout}
use Rattle.aso_catalog.proofs.Views.{throughout_nothing}
use Rattle.aso_stage.specs.declared.store.Store.{Store}
use Rattle.aso_machine.specs.Machine.{Held}
use Rattle.aso_stage.specs.Images.{IsImageOf}
use Rattle.aso_stage.specs.Session.{Entry, Now, Step, Steps, first_fault, replies, status_of}
use Rattle.aso_stage.specs.Taking.{Holds, Replies, Taken}
use Rattle.aso_stage.specs.Runs.{Ran, SoFar, closing, left_of, lines_of, now_of}
use Rattle.aso_stage.proofs.Sinks.{appends_then, front_longer, front_then}

-- ---- one step

abbrev pub entry_of : {C : Type 0} {g : _} (old new : Catalog C g) (store : Store) (h : Held) (i : ℕ) (line : Line) (reply : List ℕ) (status : Status) → Taken old new store h i line reply status → Entry
entry_of old new store h i line reply status took = record { line = line; reply = reply; status = status; after = now_of new took.after }

pub step_of : {C : Type 0} {g : _} (old new : Catalog C g) (store : Store) (h : Held) (i : ℕ) (line : Line) (reply : List ℕ) (status : Status) (took : Taken old new store h i line reply status) → g.faults old.slots ≤ g.faults new.slots
    → Step (IsTold old) (left_of new) i (now_of old h) (entry_of old new store h i line reply status took)
step_of {C} {g} old new store h i line reply status took later = record {
  outcome = took.outcome;
  later = later;
  time = took.images.later;
  images = λ told k c low high is. took.images.each k c low high is told;
}

-- ---- several

pub steps_time : (told : Type 0) (left : ℕ → List ℕ → Type 0) (i : ℕ) (now : Now) (es : List Entry) (after : Now) → Steps told left i now es after → now.moment ≤ after.moment
steps_time told left i now [] after is = let same = ap (λ (n : Now). n.moment) is in omega (arith, same)
steps_time told left i now (e ∷ es) after is = let rest = steps_time told left (i + 1) e.after es after is.1 in omega (arith, is.0.time, rest)

pub steps_faults : (told : Type 0) (left : ℕ → List ℕ → Type 0) (i : ℕ) (now : Now) (es : List Entry) (after : Now) → Steps told left i now es after → now.faults ≤ after.faults
steps_faults told left i now [] after is = let same = ap (λ (n : Now). n.faults) is in omega (arith, same)
steps_faults told left i now (e ∷ es) after is = let rest = steps_faults told left (i + 1) e.after es after is.1 in omega (arith, is.0.later, rest)

-- what a later device says of the past is what it was
pub steps_past : (told tells : Type 0) (left leaves : ℕ → List ℕ → Type 0) (i : ℕ) (now : Now) (es : List Entry) (after : Now) → (tells → told) → ((k : ℕ) (c : List ℕ) → k ≤ after.moment → leaves k c → left k c)
    → Steps told left i now es after → Steps tells leaves i now es after
steps_past told tells left leaves i now [] after t past is = is
steps_past told tells left leaves i now (e ∷ es) after t past is =
    let rest : e.after.moment ≤ after.moment = steps_time told left (i + 1) e.after es after is.1 in (
      record {
        outcome = is.0.outcome;
        later = is.0.later;
        time = is.0.time;
        images = λ say k c low high there. is.0.images (t say) k c low high (past k c (omega (arith, high, rest)) there);
      },
      steps_past told tells left leaves (i + 1) e.after es after t past is.1,
    )

pub steps_then : (told : Type 0) (left : ℕ → List ℕ → Type 0) (i n : ℕ) (now : Now) (es : List Entry) (mid : Now) (e : Entry) → n ≡ i + length es → Steps told left i now es mid → Step told left n mid e → Steps told left i now (es ++ e ∷ []) e.after
steps_then told left i n now [] mid e at is step =
    let here : n ≡ i = omega (arith, at) in
    (subst (λ (x : Now). Step told left i x e) is (subst (λ (m : ℕ). Step told left m mid e) here step), refl)
steps_then told left i n now (x ∷ xs) mid e at is step = (is.0, steps_then told left (i + 1) n x.after xs mid e (omega (arith, at)) is.1 step)

-- ---- replies and statuses

fault_then : (a b c : Status) → first_fault (first_fault a b) c ≡ first_fault a (first_fault b c)
fault_then Done b c = refl
fault_then Usage b c = refl
fault_then Refused b c = refl
fault_then Damaged b c = refl
fault_then Library b c = refl
fault_then Sink b c = refl
fault_then Disk b c = refl
fault_then NoMemory b c = refl
fault_then NoStore b c = refl
fault_then Exists b c = refl

fault_none : (a : Status) → first_fault a Done ≡ a
fault_none Done = refl
fault_none Usage = refl
fault_none Refused = refl
fault_none Damaged = refl
fault_none Library = refl
fault_none Sink = refl
fault_none Disk = refl
fault_none NoMemory = refl
fault_none NoStore = refl
fault_none Exists = refl

pub status_then : (es : List Entry) (e : Entry) → status_of (es ++ e ∷ []) ≡ first_fault (status_of es) e.status
status_then [] e = fault_none e.status
status_then (x ∷ xs) e = ap (first_fault x.status) (status_then xs e) ∙ sym (fault_then x.status (status_of xs) e.status)

replies_then : (es : List Entry) (e : Entry) → replies (es ++ e ∷ []) ≡ replies es ++ e.reply
replies_then es e = flat_map-append (λ (x : Entry). x.reply) es (e ∷ []) ∙ ap (λ (l : List ℕ). replies es ++ l) (append-nil e.reply)

-- ---- a run

module _ {C : Type 0} {g : _} (start : Catalog C g) (h : Held) (before : Option (List ℕ)) where
  pub none_so_far : (store : Store) (now : Option (List ℕ)) → Holds start store h → Appends before now [] → SoFar start start store h [] before now Done
  none_so_far store now holds puts = record { entries = []; all = refl; last = h; steps = refl; holds = holds; puts = puts; is = refl }

  module _ (mid new : Catalog C g) (store next : Store) (taken : List Line) (line : Line) (now after : Option (List ℕ)) (status : Status) (so : SoFar start mid store h taken before now status) (i : ℕ) (at : i ≡ 1 + length taken)
      (told : TellsAlike start mid) (past : Throughout mid new (λ c. Unit {0})) (later : g.faults mid.slots ≤ g.faults new.slots) where
    told_then : IsTold start → IsTold mid
    told_then is = told ∙ is

    count_is : i ≡ 1 + length so.entries
    count_is = at ∙ ap (λ (ls : List Line). 1 + length ls) (sym so.all) ∙ ap (λ n. 1 + n) (length-map so.entries (λ (e : Entry). e.line))

    module _ (reply : List ℕ) (ended : Status) (took : Taken mid new next so.last i line reply ended) where
      abbrev one : Entry
      one = entry_of mid new next so.last i line reply ended took

      steps_now : Steps (IsTold start) (left_of new) 1 (now_of start h) (so.entries ++ one ∷ []) one.after
      steps_now =
          let front = steps_past (IsTold start) (IsTold start) (left_of mid) (left_of new) 1 (now_of start h) so.entries (now_of mid so.last) (λ t. t) (λ k c low is. past.past k c low is) so.steps in
          let step = step_of mid new next so.last i line reply ended took later in
          let here : Step (IsTold start) (left_of new) i (now_of mid so.last) one = record { outcome = step.outcome; later = step.later; time = step.time; images = λ t. step.images (told_then t) } in
          steps_then (IsTold start) (left_of new) 1 i (now_of start h) so.entries (now_of mid so.last) one count_is front here

      lines_now : lines_of (so.entries ++ one ∷ []) ≡ taken ++ line ∷ []
      lines_now = map-append (λ (e : Entry). e.line) so.entries (one ∷ []) ∙ ap (λ (ls : List Line). ls ++ line ∷ []) so.all

    pub one_more : (told_status : Status) → Replies mid new next so.last i line now after (Ok told_status) → SoFar start new next h (taken ++ line ∷ []) before after (first_fault status told_status)
    one_more told_status r = record {
      entries = so.entries ++ one r.reply r.status r.taken ∷ [];
      all = lines_now r.reply r.status r.taken;
      last = r.taken.after;
      steps = steps_now r.reply r.status r.taken;
      holds = r.taken.holds;
      puts = subst (λ (l : List ℕ). Appends before after l) (sym (replies_then so.entries (one r.reply r.status r.taken))) (appends_then before now after (replies so.entries) r.reply so.puts r.puts.1);
      is = ap (λ (x : Status). first_fault x told_status) so.is ∙ ap (first_fault (status_of so.entries)) r.puts.0 ∙ sym (status_then so.entries (one r.reply r.status r.taken));
    }

    pub cut_at : (rest lines : List Line) (trouble : Trouble) → (taken ++ line ∷ []) ++ rest ≡ lines → TellsAlike start new → Replies mid new next so.last i line now after (Err trouble)
        → Ran (IsTold start) (left_of new) lines (now_of start h) (g.moment new.slots) (g.faults new.slots) before after (Err trouble)
    cut_at rest lines trouble all tells r =
        let es : List Entry = so.entries ++ one r.reply r.status r.taken ∷ [] in
        let front : AppendsFront before after (replies so.entries ++ r.reply) = front_then before now after (replies so.entries) r.reply so.puts r.puts in
        let here : AppendsFront before after (replies es) = subst (λ (l : List ℕ). AppendsFront before after l) (sym (replies_then so.entries (one r.reply r.status r.taken))) front in
        record {
          entries = es;
          rest = rest;
          all = ap (λ (ls : List Line). ls ++ rest) (lines_now r.reply r.status r.taken) ∙ all;
          last = r.taken.after;
          steps = steps_now r.reply r.status r.taken;
          exit = λ t c is. r.taken.holds.covers.images (tells ∙ t) c ((throughout_nothing new).each (g.moment new.slots) c (omega arith) (omega arith) is);
          puts = front_longer before after (replies es) (closing (length es) rest) here;
        }

  module _ (new : Catalog C g) (store : Store) (lines : List Line) (now after : Option (List ℕ)) (status : Status) (so : SoFar start new store h lines before now status) (n : ℕ) (at : n ≡ length lines) (tells : TellsAlike start new) where
    end_is : end_line n ≡ closing (length so.entries) []
    end_is = ap end_line (at ∙ ap (λ (ls : List Line). length ls) (sym so.all) ∙ length-map so.entries (λ (e : Entry). e.line))

    all_of : lines_of so.entries ++ [] ≡ lines
    all_of = append-nil (lines_of so.entries) ∙ so.all

    crash_now : IsTold start → (c : List ℕ) → g.left new.slots (g.moment new.slots) c → IsImageOf so.last c
    crash_now t c is = so.holds.covers.images (tells ∙ t) c ((throughout_nothing new).each (g.moment new.slots) c (omega arith) (omega arith) is)

    pub whole : Appends now after (end_line n) → Ran (IsTold start) (left_of new) lines (now_of start h) (g.moment new.slots) (g.faults new.slots) before after (Ok status)
    whole put = record {
      entries = so.entries;
      rest = [];
      all = all_of;
      last = so.last;
      steps = so.steps;
      exit = crash_now;
      puts = (refl, so.is, appends_then before now after (replies so.entries) (closing (length so.entries) []) so.puts (subst (λ (l : List ℕ). Appends now after l) end_is put));
    }

    pub cut_at_end : (trouble : Trouble) → AppendsFront now after (end_line n) → Ran (IsTold start) (left_of new) lines (now_of start h) (g.moment new.slots) (g.faults new.slots) before after (Err trouble)
    cut_at_end trouble put = record {
      entries = so.entries;
      rest = [];
      all = all_of;
      last = so.last;
      steps = so.steps;
      exit = crash_now;
      puts = front_then before now after (replies so.entries) (closing (length so.entries) []) so.puts (subst (λ (l : List ℕ). AppendsFront now after l) end_is put);
    }
