-- The run of a script over a catalog: which of its lines were taken, what was put into the sink, and what a crash leaves.
use Rattle.std.specs.Prelude.{◌≡◌, ℕ, List, [], ◌∷◌, ◌++◌, map, length, Option, Result, Ok, Err}
use Rattle.aso_num.specs.declared.status.Status.{Status}
use Rattle.aso_num.specs.declared.status.Status.TheVariants.{Sink, NoMemory}
use Rattle.aso_disk.specs.Texts.{Appends, AppendsFront}
use Rattle.aso_disk.specs.declared.trouble.Trouble.{Trouble}
use Rattle.aso_disk.specs.declared.trouble.Trouble.TheVariants.{Failed, NoMemory as OutOfMemory}
use Rattle.aso_script.specs.Script.{Line}
use Rattle.aso_spec.specs.Grid.{end_line}
use Rattle.aso_catalog.specs.declared.catalog.Catalog.{Catalog}
use Rattle.aso_catalog.specs.View.{IsTold}
use Rattle.aso_stage.specs.declared.store.Store.{Store}
use Rattle.aso_machine.specs.Machine.{Held}
use Rattle.aso_stage.specs.Images.{IsImageOf}
use Rattle.aso_stage.specs.Session.{Entry, Now, Steps, replies, status_of}
use Rattle.aso_stage.specs.Taking.{Holds}

-- what is held over a catalog, at the moment of its device
abbrev pub now_of : {C : Type 0} {g : _} → Catalog C g → Held → Now
now_of {C} {g} catalog h = record { held = h; moment = g.moment catalog.slots; faults = g.faults catalog.slots }

abbrev pub left_of : {C : Type 0} {g : _} → Catalog C g → ℕ → List ℕ → Type 0
left_of {C} {g} catalog = g.left catalog.slots

abbrev pub lines_of : List Entry → List Line
lines_of es = map (λ (e : Entry). e.line) es

-- the line at the end, where no line is left
abbrev pub closing : ℕ → List Line → List ℕ
closing n [] = end_line n
closing n (l ∷ ls) = []

-- what a run has to say that took these lines and left the rest
abbrev pub run_text : List Entry → List Line → List ℕ
run_text es rest = replies es ++ closing (length es) rest

-- All lines were taken, the text was put, and this is the status of the first that wasn't answered OK; or the sink cut
-- the text.
abbrev pub PutsRun : Option (List ℕ) → Option (List ℕ) → List Entry → List Line → Result Status Trouble → Type 0
PutsRun before after es rest (Ok status) = (rest ≡ []) × (status ≡ status_of es) × Appends before after (run_text es rest)
PutsRun before after es rest (Err trouble) = AppendsFront before after (run_text es rest)

-- The lines were taken one behind the other, from this start on up to a moment at which the device has failed so often,
-- or a sink's error ended them early.
pub record Ran (told : Type 0) (left : ℕ → List ℕ → Type 0) (lines : List Line) (start : Now) (moment faults : ℕ) (before after : Option (List ℕ)) (ended : Result Status Trouble) : Type 0 where
  pub entries : List Entry
  pub rest : List Line
  pub all : lines_of entries ++ rest ≡ lines
  pub last : Held
  pub steps : Steps told left 1 start entries (record { held = last; moment = moment; faults = faults })
  -- a crash after the last of them
  pub exit : told → (c : List ℕ) → left moment c → IsImageOf last c
  pub puts : PutsRun before after entries rest ended

-- the status of a run that the sink cut
abbrev pub cut_status : Trouble → Status
cut_status Failed = Sink
cut_status OutOfMemory = NoMemory

-- some lines were taken so far
pub record SoFar {C : Type 0} {g : _} (start catalog : Catalog C g) (store : Store) (h : Held) (taken : List Line) (before after : Option (List ℕ)) (status : Status) : Type 0 where
  pub entries : List Entry
  pub all : lines_of entries ≡ taken
  pub last : Held
  pub steps : Steps (IsTold start) (left_of catalog) 1 (now_of start h) entries (now_of catalog last)
  pub holds : Holds catalog store last
  pub puts : Appends before after (replies entries)
  pub is : status ≡ status_of entries
