-- A run of statements: their replies, and what a crash leaves at each moment.
use Rattle.std.specs.Prelude.{◌≡◌, ◌⊎◌, ◌+◌, ◌≤◌, ℕ, List, [], ◌∷◌}
use Rattle.std.specs.List.{flat_map}
use Rattle.aso_num.specs.declared.status.Status.{Status}
use Rattle.aso_num.specs.declared.status.Status.TheVariants.{Done}
use Rattle.aso_disk.specs.Causes.{Rose}
use Rattle.aso_script.specs.Script.{Line}
use Rattle.aso_machine.specs.Machine.{Held, Outcome}
use Rattle.aso_stage.specs.Images.{IsImageOf, Publishes}

-- a store at a moment of its device, which has failed so often
pub record Now : Type 0 where
  pub held : Held
  pub moment : ℕ
  pub faults : ℕ

-- a line of the script, its reply, and what is so afterwards
pub record Entry : Type 0 where
  pub line : Line
  pub reply : List ℕ
  pub status : Status
  pub after : Now

-- `told` is that the device tells its bytes, and `left` what a crash at a moment may leave. At each moment of a
-- statement a crash leaves the state before it, a doubt that stood, or what its publish leaves.
pub record Step (told : Type 0) (left : ℕ → List ℕ → Type 0) (i : ℕ) (now : Now) (e : Entry) : Type 0 where
  pub outcome : Outcome (Rose now.faults e.after.faults) now.held i e.line e.reply e.status e.after.held
  pub later : now.faults ≤ e.after.faults
  pub time : now.moment ≤ e.after.moment
  pub images : told → (k : ℕ) (c : List ℕ) → now.moment ≤ k → k ≤ e.after.moment → left k c
      → IsImageOf now.held c ⊎ Publishes now.held.state e.line c

-- the statements from number i on, one behind the other
abbrev pub Steps : Type 0 → (ℕ → List ℕ → Type 0) → ℕ → Now → List Entry → Now → Type 0
Steps told left i now [] after = after ≡ now
Steps told left i now (e ∷ es) after = Step told left i now e × Steps told left (i + 1) e.after es after

abbrev pub replies : List Entry → List ℕ
replies es = flat_map (λ (e : Entry). e.reply) es

-- the status of the first statement that wasn't answered OK
abbrev pub first_fault : Status → Status → Status
first_fault Done next = next
first_fault status next = status

abbrev pub status_of : List Entry → Status
status_of [] = Done
status_of (e ∷ es) = first_fault e.status (status_of es)
