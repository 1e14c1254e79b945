-- What of an answer's text reaches the sink, and the status of it.
use Rattle.std.specs.Prelude.{◌≡◌, ◌⊎◌, ℕ, List, Option, Result, Ok, Err}
use Rattle.aso_memory.specs.declared.NoMemory.{NoMemory as WantOfMemory}
use Rattle.aso_stage.specs.declared.answer.Answer.{Answer}
use Rattle.aso_top.specs.Lines.{memory_line}
use Rattle.aso_num.specs.declared.status.Status.{Status}
use Rattle.aso_num.specs.declared.status.Status.TheVariants.{Sink, NoMemory}
use Rattle.aso_disk.specs.Texts.{Appends, AppendsFront}

-- a sink's error cuts the output
abbrev pub IsCut : Status → Type 0
IsCut Sink = Unit {0}
IsCut NoMemory = Unit {0}
IsCut _ = ⊥

-- The whole text was put, and the status is the answer's; or the sink cut it, and a front of it was put.
abbrev pub Ends : Option (List ℕ) → Option (List ℕ) → Status → Status → List ℕ → Type 0
Ends old new answer status text = ((status ≡ answer) × Appends old new text) ⊎ (IsCut status × AppendsFront old new text)

-- the run ends by some answer that has P
pub record Gives (P : Status → List ℕ → Type 0) (old new : Option (List ℕ)) (status : Status) : Type 0 where
  pub answer : Status
  pub text : List ℕ
  pub may : P answer text
  pub ends : Ends old new answer status text

-- it ends by this answer, or by the line for want of memory
abbrev pub EndsAs : Option (List ℕ) → Option (List ℕ) → Result Answer WantOfMemory → Status → Type 0
EndsAs old new (Ok answer) status = Ends old new answer.status status answer.text.items
EndsAs old new (Err fault) status = Ends old new NoMemory status memory_line
