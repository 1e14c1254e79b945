-- A catalog that was opened with the record of a state, of none, or without a record.
use Rattle.std.proofs.Common.{◌≡◌, inl, ◌∙◌, ℕ, List, Option, Some, None, ap, subst}
use Rattle.std.specs.Prelude.{IsSome, is_some}
use Rattle.aso_catalog.specs.declared.catalog.Catalog.{Catalog}
use Rattle.aso_catalog.specs.declared.record.Record.{Record}
use Rattle.aso_catalog.specs.Image.{FromSync, OpensWith, SomeImage}
use Rattle.aso_catalog.specs.View.{HasRecord, IsBefore, IsOpened, IsSettled, IsTold}
use Rattle.aso_machine.specs.State.{State}
use Rattle.aso_stage.specs.Store.{Stands, StandsForNone}
use Rattle.aso_machine.specs.Machine.{held}
use Rattle.aso_stage.specs.Images.{Covers, HasNoStore, Records, Recovers}
use Rattle.aso_stage.specs.Opened.{HasNoState}
use Rattle.aso_stage.proofs.Catalogs.{settled_opens}

module _ {C : Type 0} {g : _} (start : C) (catalog : Catalog C g) (r : Record) (opened : SomeImage (g.seen start) (IsOpened catalog (Some r))) where
  abbrev body : List ℕ
  body = opened.has.gives.0

  opens : OpensWith opened.image (Some body)
  opens = record { sound = opened.has.sound; taken = opened.has.gives.1 }

  has : HasRecord catalog (Some body)
  has = subst (λ (b : Option (List ℕ)). HasRecord catalog b) opened.has.gives.1 opened.has.holds

  pub no_state : StandsForNone r → SomeImage (g.seen start) HasNoState
  no_state none = record { image = opened.image; is_told = opened.is_told; has = record { body = body; opens = opens; r = r; spelled = opened.has.gives.2; none = none } }

  module _ (s : State) (stands : Stands r s) where
    records : Records body s
    records = record { r = r; spelled = opened.has.gives.2; stands = stands }

    pub state_opened : SomeImage (g.seen start) (λ image. Recovers image s)
    state_opened = record { image = opened.image; is_told = opened.is_told; has = record { body = body; opens = opens; is = records } }

    before_opens : IsSettled catalog → IsTold catalog → (c : List ℕ) → IsBefore catalog c → Recovers c s
    before_opens settled told c before = record { body = body; opens = settled_opens catalog (Some body) c told has settled before; is = records }

    pub state_covers : IsSettled catalog → Covers catalog (held s None)
    state_covers settled = record { body = body; has = has; is = records; images = λ told c before. inl (before_opens settled told c before) }

    pub state_synced : IsSettled catalog → g.seen catalog.slots ≡ g.seen start → FromSync g.moment g.left start catalog.slots (IsBefore catalog)
        → FromSync g.moment g.left start catalog.slots (λ image. IsSome (g.seen start) → Recovers image s)
    state_synced settled seen sync = record {
      at = sync.at;
      from = sync.from;
      to = sync.to;
      each = λ k c low high is told. before_opens settled (ap is_some seen ∙ told) c (sync.each k c low high is);
    }

module _ {C : Type 0} {g : _} (start : C) (catalog : Catalog C g) (opened : SomeImage (g.seen start) (IsOpened catalog None)) where
  pub no_store : SomeImage (g.seen start) HasNoStore
  no_store = record { image = opened.image; is_told = opened.is_told; has = record { sound = opened.has.sound; taken = opened.has.gives } }
