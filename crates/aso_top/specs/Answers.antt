-- What a run answers to a command: a status and a text, and what a crash leaves of the catalog.
use Rattle.std.specs.Prelude.{◌≡◌, ◌⊎◌, ℕ, List, Option, Some, None, IsSome, MatchOption}
use Rattle.aso_num.specs.declared.status.Status.{Status}
use Rattle.aso_num.specs.declared.status.Status.TheVariants.{Done, Usage, Refused, Library, NoMemory}
use Rattle.aso_disk.specs.Causes.{Rose}
use Rattle.aso_disk.specs.Texts.{Texts}
use Rattle.aso_spec.specs.Grid.{error_line}
use Rattle.aso_eval.specs.declared.refusal.SheetRefusal.{SheetRefusal}
use Rattle.aso_eval.specs.Sheets.{IsRefusal, IsReply}
use Rattle.aso_eval.specs.Texts.{refusal_text}
use Rattle.aso_stage.specs.Opening.{IsUntouched}
use Rattle.aso_stage.specs.Create.{CreateAnswer, CreateLeaves, IsCreated}
use Rattle.aso_top.specs.declared.words.Command.{Command}
use Rattle.aso_top.specs.declared.words.Command.TheVariants.{Eval, Create, Run}
use Rattle.aso_top.specs.Words.{command_of}
use Rattle.aso_top.specs.Lines.{library_line, memory_line, no_text_line, usage_line}
use Rattle.aso_top.specs.Found.{Found, NotRead}
use Rattle.aso_top.specs.Ends.{Gives}
use Rattle.aso_top.specs.Scripts.{ScriptRun}

-- ---- sheets

-- it is refused for this, and nothing else is printed
pub record IsRefusedSheet (text out : List ℕ) : Type 0 where
  pub refusal : SheetRefusal
  pub refused : IsRefusal text refusal
  pub line : out ≡ error_line 0 (refusal_text refusal)

abbrev pub SheetAnswer : List ℕ → Status → List ℕ → Type 0
SheetAnswer text Done out = IsReply text out
SheetAnswer text Refused out = IsRefusedSheet text out
SheetAnswer text _ out = ⊥

-- what a text that is there, or not, makes of eval
abbrev pub TextAnswer : List ℕ → Status → List ℕ → Option (List ℕ) → Type 0
TextAnswer name status out None = (status ≡ Refused) × (out ≡ no_text_line name)
TextAnswer name status out (Some text) = SheetAnswer text status out

-- `failed` is that the library failed in this call
abbrev pub EvalAnswer : Type 0 → Option Texts → List ℕ → Status → List ℕ → Type 0
EvalAnswer failed texts name Library out = failed × (out ≡ library_line)
EvalAnswer failed texts name NoMemory out = out ≡ memory_line
EvalAnswer failed texts name status out = Found texts name (TextAnswer name status out)

-- ---- commands, over a device

module _ {D : Type 0} (seen : D → Option (List ℕ)) (moment : D → ℕ) (left : D → ℕ → List ℕ → Type 0) (faults : D → ℕ) (old new : D) where
  -- a store is made of this text, or it is answered why not
  pub record CreateEnds (text : List ℕ) (status : Status) (out : List ℕ) : Type 0 where
    pub answer : ((status ≡ NoMemory) × (out ≡ memory_line)) ⊎ CreateAnswer (Rose (faults old) (faults new)) (seen old) text status out
    pub crash : CreateLeaves moment left (IsSome (seen old)) text old new
    pub created : status ≡ Done → IsSome (seen old) → (image : List ℕ) → left new (moment new) image → IsCreated text image

  abbrev pub CreateText : List ℕ → Status → List ℕ → Option (List ℕ) → Type 0
  CreateText name status out None = ((status ≡ Refused) × (out ≡ no_text_line name)) × IsUntouched moment left old new
  CreateText name status out (Some text) = CreateEnds text status out

  abbrev pub CreateRun : Type 0 → Option Texts → List ℕ → Status → List ℕ → Type 0
  CreateRun failed texts name status out = (NotRead failed status out × IsUntouched moment left old new) ⊎ Found texts name (CreateText name status out)

  abbrev pub CommandRuns : Type 0 → Option Texts → Command → Option (List ℕ) → Option (List ℕ) → Status → Type 0
  CommandRuns failed texts (Eval sheet) before after status = Gives (λ answer out. EvalAnswer failed texts sheet answer out × IsUntouched moment left old new) before after status
  CommandRuns failed texts (Create dir outline) before after status = Gives (CreateRun failed texts outline) before after status
  CommandRuns failed texts (Run dir script) before after status = ScriptRun seen moment left faults old new failed texts script before after status

  -- What some words make of a library, a device and a sink. `failed` is that the library failed in this call.
  abbrev pub Runs : Type 0 → Option Texts → List (List ℕ) → Option (List ℕ) → Option (List ℕ) → Status → Type 0
  Runs failed texts words before after status =
      MatchOption (command_of words)
      (Gives (λ answer out. ((answer ≡ Usage) × (out ≡ usage_line)) × IsUntouched moment left old new) before after status)
      (λ command. CommandRuns failed texts command before after status)
