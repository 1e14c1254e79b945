-- What an image of the catalog's device recovers to.
use Rattle.std.specs.Prelude.{◌⊎◌, ℕ, List, Option, Some, None}
use Rattle.aso_catalog.specs.declared.record.Record.{Record}
use Rattle.aso_catalog.specs.Record.{IsRecord}
use Rattle.aso_catalog.specs.Image.{OpensWith}
use Rattle.aso_catalog.specs.View.{HasRecord, IsBefore, IsTold}
use Rattle.aso_catalog.specs.declared.catalog.Catalog.{Catalog}
use Rattle.aso_machine.specs.State.{State}
use Rattle.aso_machine.specs.Machine.{Held, IsUnderWay}
use Rattle.aso_script.specs.Script.{Line}
use Rattle.aso_stage.specs.Store.{Stands}

-- a body is the record of a state
pub record Records (body : List ℕ) (s : State) : Type 0 where
  pub r : Record
  pub spelled : IsRecord r body
  pub stands : Stands r s

-- an image is opened, and the record found stands for the state
pub record Recovers (image : List ℕ) (s : State) : Type 0 where
  pub body : List ℕ
  pub opens : OpensWith image (Some body)
  pub is : Records body s

-- an image is opened, and no record is found
abbrev pub HasNoStore : List ℕ → Type 0
HasNoStore image = OpensWith image None

-- an image is opened with a record
abbrev pub HasStore : List ℕ → Type 0
HasStore image = (body : List ℕ) × OpensWith image (Some body)

abbrev pub RecoversTo : Option State → List ℕ → Type 0
RecoversTo None image = ⊥
RecoversTo (Some s) image = Recovers image s

-- it recovers to the state that is held, or to the one in doubt
abbrev pub IsImageOf : Held → List ℕ → Type 0
IsImageOf h image = Recovers image h.state ⊎ RecoversTo h.doubt image

-- it recovers to the state that the publish of a line would leave
abbrev pub Publishes : State → Line → List ℕ → Type 0
Publishes s line image = (next : State) × IsUnderWay s line next × Recovers image next

-- The catalog has the record of the state, and what stands before the next publish is that, or the doubt.
pub record Covers {C : Type 0} {g : _} (catalog : Catalog C g) (h : Held) : Type 0 where
  pub body : List ℕ
  pub has : HasRecord catalog (Some body)
  pub is : Records body h.state
  pub images : IsTold catalog → (image : List ℕ) → IsBefore catalog image → IsImageOf h image
