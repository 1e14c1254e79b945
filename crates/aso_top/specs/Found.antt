-- A text of the library, or none.
use Rattle.std.specs.Prelude.{◌≡◌, ℕ, List, Option, IfSome}
use Rattle.aso_num.specs.declared.status.Status.{Status}
use Rattle.aso_num.specs.declared.status.Status.TheVariants.{Library, NoMemory}
use Rattle.aso_disk.specs.Texts.{Texts}
use Rattle.aso_top.specs.Lines.{library_line, memory_line}

-- some text, or that there is none: what the library has under the name, where it tells its texts
pub record Found (texts : Option Texts) (name : List ℕ) (P : Option (List ℕ) → Type 0) : Type 0 where
  pub found : Option (List ℕ)
  pub told : IfSome texts (λ known. found ≡ known name)
  pub has : P found

-- the library failed in this call, or no memory was left for the text
abbrev pub NotRead : Type 0 → Status → List ℕ → Type 0
NotRead failed Library out = failed × (out ≡ library_line)
NotRead failed NoMemory out = out ≡ memory_line
NotRead failed _ out = ⊥
