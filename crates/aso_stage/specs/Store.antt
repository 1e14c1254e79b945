-- The record that stands for the state of a store.
use Rattle.std.specs.Prelude.{◌≡◌, ◌≤◌, ℕ, true, List, length}
use Rattle.aso_outline.specs.declared.draft.Draft.{Draft}
use Rattle.aso_outtext.specs.Answers.{Gives}
use Rattle.aso_catalog.specs.declared.record.Record.{Record}
use Rattle.aso_machine.specs.State.{State, fits_outline, state_with}

-- how many bytes the text of an outline may have that is kept
abbrev pub longest_text : ℕ
longest_text = 50000

-- The text gives this outline, and is no longer than one that is kept.
pub record Keeps (text : List ℕ) (o : Draft) : Type 0 where
  pub gives : Gives text o
  pub short : length text ≤ longest_text

-- The record stands for this state: its text gives the outline, and its cells fit it.
pub record Stands (r : Record) (s : State) : Type 0 where
  pub keeps : Keeps r.outline s.outline
  pub fits : fits_outline r s.outline ≡ true
  pub is : s ≡ state_with r s.outline

abbrev pub StandsForNone : Record → Type 0
StandsForNone r = (s : State) → Stands r s → ⊥
