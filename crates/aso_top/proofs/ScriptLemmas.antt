-- The run of a script over a store that was opened.
use Rattle.std.proofs.Common.{◌≡◌, ◌⊎◌, inl, inr, ⊎_elim, ◌∙◌, ℕ, ◌+◌, ◌≤◌, List, [], ◌∷◌, Option, Some, None, sym, refl, subst, arith}
use Rattle.std.specs.Prelude.{IfOk, IfSome, IsOkAnd, IsSome, Result, Ok, Err}
use Rattle.aso_num.specs.declared.status.Status.{Status}
use Rattle.aso_num.specs.declared.status.Status.TheVariants.{Done, Usage, Refused, Damaged, Library, Sink, Disk, NoMemory, NoStore, Exists}
use Rattle.aso_disk.specs.Causes.{Rose}
use Rattle.aso_disk.specs.Slots.{Runs, Still}
use Rattle.aso_disk.specs.Texts.{Texts}
use Rattle.aso_disk.specs.declared.trouble.Trouble.{Trouble}
use Rattle.aso_disk.specs.declared.trouble.Trouble.TheVariants.{Failed, NoMemory as OutOfMemory}
use Rattle.aso_script.specs.Script.{Line, script_lines}
use Rattle.aso_catalog.specs.Image.{FromSync, SomeImage}
use Rattle.aso_catalog.specs.View.{Throughout}
use Rattle.aso_catalog.specs.declared.catalog.Catalog.{Catalog}
use Rattle.aso_machine.specs.State.{State}
use Rattle.aso_machine.specs.Machine.{Held, Outcome, held}
use Rattle.aso_stage.specs.Images.{Recovers}
use Rattle.aso_stage.specs.Session.{Entry, Now, Steps, first_fault, status_of}
use Rattle.aso_stage.specs.Opening.{IsOpenedFrom, IsUntouched}
use Rattle.aso_stage.specs.Opened.{OpenAnswer}
use Rattle.aso_stage.specs.Runs.{Ran, left_of, now_of}
use Rattle.aso_stage.proofs.Sessions.{steps_faults}
use Rattle.aso_memory.specs.declared.NoMemory.{NoMemory as WantOfMemory}
use Rattle.aso_stage.specs.declared.answer.Answer.{Answer}
use Rattle.aso_top.specs.Found.{NotRead}
use Rattle.aso_top.specs.Lines.{memory_line, no_text_line}
use Rattle.aso_top.specs.Ends.{Ends, EndsAs, Gives, IsCut}
use Rattle.aso_top.specs.Scripts.{Causes, EndedAs, NotOpened, RunsScript, ScriptRun}

-- ---- counts

pub rose_within : (a b c d : ℕ) → a ≤ b → Rose b c → c ≤ d → Rose a d
rose_within a b c d low rose high = omega (arith, rose)

-- ---- the status of some statements

-- of an outcome the status is no library's and no sink's, and a disk's only where that failed
outcome_status : (failed : Type 0) (h : Held) (i : ℕ) (l : Line) (reply : List ℕ) (status : Status) (after : Held) → Outcome failed h i l reply status after → (status ≡ Library → ⊥) × (status ≡ Sink → ⊥) × (status ≡ Disk → failed)
outcome_status failed h i l reply Done after is = (λ e. Prim.cc, λ e. Prim.cc, λ e. Prim.cc)
outcome_status failed h i l reply Usage after is = absurd is
outcome_status failed h i l reply Refused after is = (λ e. Prim.cc, λ e. Prim.cc, λ e. Prim.cc)
outcome_status failed h i l reply Damaged after is = absurd is
outcome_status failed h i l reply Library after is = absurd is
outcome_status failed h i l reply Sink after is = absurd is
outcome_status failed h i l reply Disk after is = (λ e. Prim.cc, λ e. Prim.cc, λ e. is.0)
outcome_status failed h i l reply NoMemory after is = (λ e. Prim.cc, λ e. Prim.cc, λ e. Prim.cc)
outcome_status failed h i l reply NoStore after is = absurd is
outcome_status failed h i l reply Exists after is = absurd is

-- the status of the first is the status of one of them
first_is : (a b wanted : Status) → first_fault a b ≡ wanted → (a ≡ wanted) ⊎ (b ≡ wanted)
first_is Done b wanted e = inr e
first_is Usage b wanted e = inl e
first_is Refused b wanted e = inl e
first_is Damaged b wanted e = inl e
first_is Library b wanted e = inl e
first_is Sink b wanted e = inl e
first_is Disk b wanted e = inl e
first_is NoMemory b wanted e = inl e
first_is NoStore b wanted e = inl e
first_is Exists b wanted e = inl e

pub steps_status : (told : Type 0) (left : ℕ → List ℕ → Type 0) (i : ℕ) (now : Now) (es : List Entry) (after : Now) → Steps told left i now es after → (status_of es ≡ Library → ⊥) × (status_of es ≡ Sink → ⊥) × (status_of es ≡ Disk → Rose now.faults after.faults)
steps_status told left i now [] after is = (λ e. Prim.cc, λ e. Prim.cc, λ e. Prim.cc)
steps_status told left i now (x ∷ xs) after is =
    let one = outcome_status (Rose now.faults x.after.faults) now.held i x.line x.reply x.status x.after.held is.0.outcome in
    let rest = steps_status told left (i + 1) x.after xs after is.1 in
    let high : x.after.faults ≤ after.faults = steps_faults told left (i + 1) x.after xs after is.1 in
    let low : now.faults ≤ x.after.faults = is.0.later in (
      λ e. ⊎_elim (λ a. one.0 a) (λ b. rest.0 b) (first_is x.status (status_of xs) Library e),
      λ e. ⊎_elim (λ a. one.1 a) (λ b. rest.1 b) (first_is x.status (status_of xs) Sink e),
      λ e. ⊎_elim
          (λ a. rose_within now.faults now.faults x.after.faults after.faults (omega arith) (one.2 a) high)
          (λ b. rose_within now.faults x.after.faults after.faults after.faults low (rest.2 b) (omega arith))
          (first_is x.status (status_of xs) Disk e),
    )

-- ---- the causes of a run's status

pub run_causes : (told : Type 0) (left : ℕ → List ℕ → Type 0) (lines : List Line) (start : Now) (moment faults : ℕ) (before after : Option (List ℕ)) (ended : Result Status Trouble) (status : Status) (library_before library sink_before sink : ℕ)
    → Ran told left lines start moment faults before after ended → EndedAs ended status → (ended ≡ Err Failed → Rose sink_before sink) → Causes start.faults faults library_before library sink_before sink status
run_causes told left lines start moment faults before after (Ok s) status library_before library sink_before sink ran ended_as cause =
    let all = steps_status told left 1 start ran.entries (record { held = ran.last; moment = moment; faults = faults }) ran.steps in
    let same : status ≡ status_of ran.entries = ended_as ∙ ran.puts.1 in
    record {
      by_disk = λ e. all.2 (sym same ∙ e);
      by_library = λ e. absurd (all.0 (sym same ∙ e));
      by_sink = λ e. absurd (all.1 (sym same ∙ e));
    }
run_causes told left lines start moment faults before after (Err Failed) status library_before library sink_before sink ran ended_as cause =
    record { by_disk = λ e. absurd (cc (ended_as, e)); by_library = λ e. absurd (cc (ended_as, e)); by_sink = λ e. cause refl }
run_causes told left lines start moment faults before after (Err OutOfMemory) status library_before library sink_before sink ran ended_as cause =
    record { by_disk = λ e. absurd (cc (ended_as, e)); by_library = λ e. absurd (cc (ended_as, e)); by_sink = λ e. absurd (cc (ended_as, e)) }

pub causes_within : (a b c d library_before library sink_before sink : ℕ) (status : Status) → a ≤ b → c ≤ d → Causes b c library_before library sink_before sink status → Causes a d library_before library sink_before sink status
causes_within a b c d library_before library sink_before sink status low high is = record {
  by_disk = λ e. rose_within a b c d low (is.by_disk e) high;
  by_library = is.by_library;
  by_sink = is.by_sink;
}

-- of an answer to an opening the status is no library's and no sink's, and a disk's only where that failed
pub status_of_open : (failed : Type 0) (told : Option (List ℕ)) (status : Status) (line : List ℕ) → OpenAnswer failed told status line → (status ≡ Library → ⊥) × (status ≡ Sink → ⊥) × (status ≡ Disk → failed)
status_of_open failed told Done line is = absurd is
status_of_open failed told Usage line is = absurd is
status_of_open failed told Refused line is = absurd is
status_of_open failed told Damaged line is = (λ e. Prim.cc, λ e. Prim.cc, λ e. Prim.cc)
status_of_open failed told Library line is = absurd is
status_of_open failed told Sink line is = absurd is
status_of_open failed told Disk line is = (λ e. Prim.cc, λ e. Prim.cc, λ e. is.0)
status_of_open failed told NoMemory line is = absurd is
status_of_open failed told NoStore line is = (λ e. Prim.cc, λ e. Prim.cc, λ e. Prim.cc)
status_of_open failed told Exists line is = absurd is

-- ---- an opening, and a run behind it

since_begun : {D : Type 0} (moment : D → ℕ) (left : D → ℕ → List ℕ → Type 0) (old new : D) → Runs Still (moment old) (moment new) (left old) (left new) → (k : ℕ) (c : List ℕ) → moment old ≤ k → k ≤ moment new → left new k c → left old (moment old) c
since_begun moment left old new runs k c low high is =
    let begun = runs.each k c low high is in
    subst (λ (x : List ℕ). left old (moment old) x) (sym begun.2) begun.1

module _ {C : Type 0} {g : _} (start end : C) (catalog new : Catalog C g) (ends : end ≡ new.slots) (s : State) (seen : g.seen catalog.slots ≡ g.seen start) (later : g.faults start ≤ g.faults catalog.slots)
    (found : SomeImage (g.seen start) (λ image. Recovers image s)) (runs : Runs Still (g.moment start) (g.moment catalog.slots) (g.left start) (g.left catalog.slots)) (sync : FromSync g.moment g.left start catalog.slots (λ image. IsSome (g.seen start) → Recovers image s))
    (past : Throughout catalog new (λ c. Unit {0})) where
  images : IsOpenedFrom g.moment g.left start new.slots (λ k c. IsSome (g.seen start) → k ≤ g.moment catalog.slots → Recovers c s)
  images = record {
    at = sync.at;
    from = sync.from;
    to = omega (arith, sync.to, past.later);
    past = λ k c low is. runs.same k c low (past.past k c (omega (arith, low, runs.later)) is);
    before = λ k c low high is. since_begun g.moment g.left start catalog.slots runs k c low (omega (arith, high, sync.to)) (past.past k c (omega (arith, high, sync.to)) is);
    since = λ k c low high is told early. sync.each k c low early (past.past k c early is) told;
  }

  pub opened_run : (failed : Type 0) (texts : Option Texts) (name : List ℕ) (before after : Option (List ℕ)) (status : Status)
      → RunsScript (IsSome (g.seen catalog.slots)) (left_of new) (now_of catalog (held s None)) (g.moment new.slots) (g.faults new.slots) failed texts name before after status
      → ScriptRun g.seen g.moment g.left g.faults start end failed texts name before after status
  opened_run failed texts name before after status does =
      let here : RunsScript (IsSome (g.seen start)) (left_of new) (now_of catalog (held s None)) (g.moment new.slots) (g.faults new.slots) failed texts name before after status =
      subst (λ (o : Option (List ℕ)). RunsScript (IsSome o) (left_of new) (now_of catalog (held s None)) (g.moment new.slots) (g.faults new.slots) failed texts name before after status) seen does in
      subst (λ (d : C). ScriptRun g.seen g.moment g.left g.faults start d failed texts name before after status) (sym ends)
      (inr (record { state = s; found = found; start = now_of catalog (held s None); fresh = refl; later = later; synced = images; runs = here }))

-- ---- a device behind a reference

gives_as : (P Q : Status → List ℕ → Type 0) (before after : Option (List ℕ)) (status : Status) → ((answer : Status) (out : List ℕ) → P answer out → Q answer out) → Gives P before after status → Gives Q before after status
gives_as P Q before after status f is = record { answer = is.answer; text = is.text; may = f is.answer is.text is.may; ends = is.ends }

pub lent_script : {C B : Type 0} (now : B → C) (seen : C → Option (List ℕ)) (moment : C → ℕ) (left : C → ℕ → List ℕ → Type 0) (faults : C → ℕ) (a b : B) (failed : Type 0) (texts : Option Texts) (name : List ℕ) (before after : Option (List ℕ)) (status : Status)
    → ScriptRun (λ d. seen (now d)) (λ d. moment (now d)) (λ d. left (now d)) (λ d. faults (now d)) a b failed texts name before after status → ScriptRun seen moment left faults (now a) (now b) failed texts name before after status
lent_script now seen moment left faults a b failed texts name before after status =
    ⊎_elim
    (λ n. inl (gives_as _ _ before after status (λ answer out is. (is.0, record { later = is.1.later; past = is.1.past; since = is.1.since })) n))
    (λ o. inr (record {
      state = o.state;
      found = o.found;
      start = o.start;
      fresh = o.fresh;
      later = o.later;
      synced = record { at = o.synced.at; from = o.synced.from; to = o.synced.to; past = o.synced.past; before = o.synced.before; since = o.synced.since };
      runs = o.runs;
    }))

-- ---- a store that wasn't opened

module _ {D : Type 0} (seen : D → Option (List ℕ)) (moment : D → ℕ) (left : D → ℕ → List ℕ → Type 0) (faults : D → ℕ) (old new : D) where
  pub not_opened : (before after : Option (List ℕ)) (answer : Result Answer WantOfMemory) (status : Status) → IfOk answer (λ a. OpenAnswer (Rose (faults old) (faults new)) (seen old) a.status a.text.items) → IsUntouched moment left old new
      → EndsAs before after answer status → Gives (NotOpened seen moment left faults old new) before after status
  not_opened before after (Ok a) status is untouched ends = record { answer = a.status; text = a.text.items; may = (inr is, untouched); ends = ends }
  not_opened before after (Err e) status is untouched ends = record { answer = NoMemory; text = memory_line; may = (inl (refl, refl), untouched); ends = ends }

ends_by : (old new : Option (List ℕ)) (answer status wanted : Status) (text : List ℕ) → (IsCut wanted → ⊥) → Ends old new answer status text → status ≡ wanted → answer ≡ wanted
ends_by old new answer status wanted text no_cut ends is = ⊎_elim (λ e. sym e.0 ∙ is) (λ e. absurd (no_cut (subst IsCut is e.0))) ends

pub unopened_causes : (a b library_before library sink_before sink : ℕ) (told before after : Option (List ℕ)) (answer : Result Answer WantOfMemory) (status : Status) → IfOk answer (λ x. OpenAnswer (Rose a b) told x.status x.text.items)
    → EndsAs before after answer status → (status ≡ Sink → Rose sink_before sink ⊎ IsOkAnd answer (λ x. x.status ≡ Sink)) → Causes a b library_before library sink_before sink status
unopened_causes a b library_before library sink_before sink told before after (Ok x) status is ends cause =
    let causes = status_of_open (Rose a b) told x.status x.text.items is in
    record {
      by_disk = λ e. causes.2 (ends_by before after x.status status Disk x.text.items (λ n. n) ends e);
      by_library = λ e. absurd (causes.0 (ends_by before after x.status status Library x.text.items (λ n. n) ends e));
      by_sink = λ e. ⊎_elim (λ r. r) (λ s. absurd (causes.1 s)) (cause e);
    }
unopened_causes a b library_before library sink_before sink told before after (Err x) status is ends cause =
    record {
      by_disk = λ e. let no_memory : NoMemory ≡ Disk = ends_by before after NoMemory status Disk memory_line (λ n. n) ends e in absurd (cc no_memory);
      by_library = λ e. let no_memory : NoMemory ≡ Library = ends_by before after NoMemory status Library memory_line (λ n. n) ends e in absurd (cc no_memory);
      by_sink = λ e. ⊎_elim (λ r. r) (λ s. absurd s) (cause e);
    }

-- ---- a script that is read, or isn't

module _ (told : Type 0) (left : ℕ → List ℕ → Type 0) (start : Now) (failed : Type 0) (texts : Option Texts) (name : List ℕ) (before after : Option (List ℕ)) (status : Status) where
  pub not_read : (answer : Status) (text : List ℕ) → NotRead failed answer text → Ends before after answer status text → RunsScript told left start start.moment start.faults failed texts name before after status
  not_read answer text may ends = inl (record { answer = answer; text = text; may = may; ends = ends }, (refl, refl))

  pub no_script : IfSome texts (λ known. None ≡ known name) → Ends before after Refused status (no_text_line name) → RunsScript told left start start.moment start.faults failed texts name before after status
  no_script known ends = inr (record { found = None; told = known; has = (record { answer = Refused; text = no_text_line name; may = (refl, refl); ends = ends }, (refl, refl)) })

  pub script_runs : (moment faults : ℕ) (text : List ℕ) (ended : Result Status Trouble) → IfSome texts (λ known. Some text ≡ known name) → Ran told left (script_lines text) start moment faults before after ended → EndedAs ended status
      → RunsScript told left start moment faults failed texts name before after status
  script_runs moment faults text ended known ran ended_as = inr (record { found = Some text; told = known; has = (ended, ran, ended_as) })

pub deliver_causes : (a library_before library sink_before sink : ℕ) (before after : Option (List ℕ)) (answer status : Status) (text : List ℕ) → Ends before after answer status text → (answer ≡ Disk → ⊥) → (answer ≡ Library → Rose library_before library) → (answer ≡ Sink → ⊥)
    → (status ≡ Sink → (answer ≡ Sink) ⊎ Rose sink_before sink) → Causes a a library_before library sink_before sink status
deliver_causes a library_before library sink_before sink before after answer status text ends no_disk by_library no_sink cause = record {
  by_disk = λ e. absurd (no_disk (ends_by before after answer status Disk text (λ n. n) ends e));
  by_library = λ e. by_library (ends_by before after answer status Library text (λ n. n) ends e);
  by_sink = λ e. ⊎_elim (λ s. absurd (no_sink s)) (λ r. r) (cause e);
}
