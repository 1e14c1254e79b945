-- What the run of a script over a device answers, and what a crash leaves of the device.
use Rattle.std.specs.Prelude.{◌≡◌, ◌⊎◌, ℕ, ◌≤◌, List, Option, Some, None, IsSome, Result, Ok, Err}
use Rattle.aso_num.specs.declared.status.Status.{Status}
use Rattle.aso_num.specs.declared.status.Status.TheVariants.{Refused, Library, Sink, Disk, NoMemory}
use Rattle.aso_disk.specs.Causes.{Rose}
use Rattle.aso_disk.specs.Texts.{Texts}
use Rattle.aso_disk.specs.declared.trouble.Trouble.{Trouble}
use Rattle.aso_script.specs.Script.{Line, script_lines}
use Rattle.aso_catalog.specs.Image.{SomeImage}
use Rattle.aso_machine.specs.State.{State}
use Rattle.aso_machine.specs.Machine.{held}
use Rattle.aso_stage.specs.Images.{Recovers}
use Rattle.aso_stage.specs.Session.{Now}
use Rattle.aso_stage.specs.Opening.{IsOpenedFrom, IsUntouched}
use Rattle.aso_stage.specs.Opened.{OpenAnswer}
use Rattle.aso_stage.specs.Runs.{Ran, cut_status}
use Rattle.aso_top.specs.Lines.{memory_line, no_text_line}
use Rattle.aso_top.specs.Found.{Found, NotRead}
use Rattle.aso_top.specs.Ends.{Gives}

-- the status of a run that ended so
abbrev pub EndedAs : Result Status Trouble → Status → Type 0
EndedAs (Ok status) is = is ≡ status
EndedAs (Err trouble) is = is ≡ cut_status trouble

-- A store was opened at the start, over a device that tells its bytes or not; at the end the device is at this moment,
-- has failed so often, and `left` is what a crash at a moment may leave.
module _ (told : Type 0) (left : ℕ → List ℕ → Type 0) (start : Now) (moment faults : ℕ) where
  -- all lines were taken, or the sink cut the run and its error is the status
  abbrev pub RunsLines : List Line → Option (List ℕ) → Option (List ℕ) → Status → Type 0
  RunsLines lines before after status = (ended : Result Status Trouble) × Ran told left lines start moment faults before after ended × EndedAs ended status

  -- the device isn't touched behind the opening
  abbrev pub IsLeft : Type 0
  IsLeft = (moment ≡ start.moment) × (faults ≡ start.faults)

  -- a script that is there is run, and one that isn't is refused
  abbrev pub ScriptText : List ℕ → Option (List ℕ) → Option (List ℕ) → Status → Option (List ℕ) → Type 0
  ScriptText name before after status None = Gives (λ answer out. (answer ≡ Refused) × (out ≡ no_text_line name)) before after status × IsLeft
  ScriptText name before after status (Some text) = RunsLines (script_lines text) before after status

  -- `failed` is that the library failed in this call
  abbrev pub RunsScript : Type 0 → Option Texts → List ℕ → Option (List ℕ) → Option (List ℕ) → Status → Type 0
  RunsScript failed texts name before after status = (Gives (NotRead failed) before after status × IsLeft) ⊎ Found texts name (ScriptText name before after status)

-- a status that blames the device, the library or the sink comes only where its count rose
pub record Causes (disk_before disk library_before library sink_before sink : ℕ) (status : Status) : Type 0 where
  pub by_disk : status ≡ Disk → Rose disk_before disk
  pub by_library : status ≡ Library → Rose library_before library
  pub by_sink : status ≡ Sink → Rose sink_before sink

module _ {D : Type 0} (seen : D → Option (List ℕ)) (moment : D → ℕ) (left : D → ℕ → List ℕ → Type 0) (faults : D → ℕ) (old new : D) where
  -- no store is opened, and it is answered why not
  abbrev pub NotOpened : Status → List ℕ → Type 0
  NotOpened status out = (((status ≡ NoMemory) × (out ≡ memory_line)) ⊎ OpenAnswer (Rose (faults old) (faults new)) (seen old) status out) × IsUntouched moment left old new

  -- A store is opened that stands in some image: the one that the device tells, where it tells one. From the opening's sync
  -- on a crash leaves it, up to the first statement. Then the script is read, and run.
  pub record OpenedRun (failed : Type 0) (texts : Option Texts) (name : List ℕ) (before after : Option (List ℕ)) (status : Status) : Type 0 where
    pub state : State
    pub found : SomeImage (seen old) (λ image. Recovers image state)
    pub start : Now
    pub fresh : start.held ≡ held state None
    pub later : faults old ≤ start.faults
    pub synced : IsOpenedFrom moment left old new (λ k c. IsSome (seen old) → k ≤ start.moment → Recovers c state)
    pub runs : RunsScript (IsSome (seen old)) (left new) start (moment new) (faults new) failed texts name before after status

  abbrev pub ScriptRun : Type 0 → Option Texts → List ℕ → Option (List ℕ) → Option (List ℕ) → Status → Type 0
  ScriptRun failed texts name before after status = Gives NotOpened before after status ⊎ OpenedRun failed texts name before after status
