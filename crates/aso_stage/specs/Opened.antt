-- What the opening of a store answers where there is none to open.
use Rattle.std.specs.Prelude.{◌≡◌, ◌⊎◌, ℕ, List, Option, Some, codes}
use Rattle.aso_num.specs.declared.status.Status.{Status}
use Rattle.aso_num.specs.declared.status.Status.TheVariants.{Damaged, NoStore}
use Rattle.aso_catalog.specs.declared.record.Record.{Record}
use Rattle.aso_catalog.specs.Record.{IsRecord}
use Rattle.aso_catalog.specs.Image.{OpensWith, SomeImage}
use Rattle.aso_stage.specs.Store.{StandsForNone}
use Rattle.aso_stage.specs.Images.{HasNoStore}
use Rattle.aso_stage.specs.Opening.{Unopened}

-- an image is opened with a record that stands for no state
pub record HasNoState (image : List ℕ) : Type 0 where
  pub body : List ℕ
  pub opens : OpensWith image (Some body)
  pub r : Record
  pub spelled : IsRecord r body
  pub none : StandsForNone r

-- What is printed where no store is opened, on a device that tells these bytes, where it tells any. `failed` is that the
-- device failed meanwhile.
abbrev pub OpenAnswer : Type 0 → Option (List ℕ) → Status → List ℕ → Type 0
OpenAnswer failed told NoStore line = SomeImage told HasNoStore × (line ≡ codes "NOSTORE\n")
OpenAnswer failed told Damaged line = Unopened failed told Damaged line ⊎ (SomeImage told HasNoState × (line ≡ codes "DAMAGED outline\n"))
OpenAnswer failed told status line = Unopened failed told status line
