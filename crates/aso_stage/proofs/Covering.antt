-- A store's state and its doubt, through the publish of a commit.
use Rattle.std.proofs.Common.{◌⊎◌, inl, inr, ⊎_elim, ◌∙◌, ℕ, List, Some, None, sym}
use Rattle.aso_catalog.specs.declared.catalog.Catalog.{Catalog}
use Rattle.aso_catalog.specs.declared.record.Record.{Record}
use Rattle.aso_catalog.specs.Record.{IsRecord}
use Rattle.aso_catalog.specs.Image.{OpensWith}
use Rattle.aso_catalog.specs.View.{HasRecord, IsBefore, IsInDoubt, IsSettled, IsTold, KeepsRecord, NoNewDoubt, TellsAlike, Throughout}
use Rattle.aso_catalog.proofs.Views.{throughout_weaker}
use Rattle.aso_machine.specs.State.{State}
use Rattle.aso_stage.specs.Store.{Stands}
use Rattle.aso_machine.specs.Machine.{Held, held}
use Rattle.aso_stage.specs.Images.{Covers, IsImageOf, Records, Recovers}
use Rattle.aso_stage.proofs.Catalogs.{settled_opens, doubt_opens}

module _ {C : Type 0} {g : _} (old new : Catalog C g) (body : List ℕ) (r : Record) (s : State) (spelled : IsRecord r body) (stands : Stands r s) where
  records : Records body s
  records = record { r = r; spelled = spelled; stands = stands }

  recovers : (c : List ℕ) → OpensWith c (Some body) → Recovers c s
  recovers c opens = record { body = body; opens = opens; is = records }

  pub covers_published : HasRecord new (Some body) → IsSettled new → Covers new (held s None)
  covers_published has settled = record { body = body; has = has; is = records; images = λ told c before. inl (recovers c (settled_opens new (Some body) c told has settled before)) }

  pub covers_doubt : (h : Held) → Covers old h → KeepsRecord old new → IsInDoubt new body → Covers new (held h.state (Some s))
  covers_doubt h cov keeps doubt =
      let has : HasRecord new (Some cov.body) = keeps (Some cov.body) cov.has in
      record {
        body = cov.body;
        has = has;
        is = cov.is;
        images = λ told c before. ⊎_elim (λ e. inl (record { body = cov.body; opens = e; is = cov.is })) (λ e. inr (recovers c e)) (doubt_opens new (Some cov.body) body c told has doubt before);
      }

  pub images_during : (h : Held) → Covers old h → Throughout old new (λ c. IsBefore old c ⊎ OpensWith c (Some body)) → Throughout old new (λ c. IsTold old → IsImageOf h c ⊎ Recovers c s)
  images_during h cov run = throughout_weaker old new _ _ run (λ c e. ⊎_elim (λ before told. inl (cov.images told c before)) (λ opens told. inr (recovers c opens)) e)

module _ {C : Type 0} {g : _} (old new : Catalog C g) where
  pub covers_kept : (h : Held) → TellsAlike old new → Covers old h → KeepsRecord old new → NoNewDoubt old new → Covers new h
  covers_kept h alike cov keeps none = record { body = cov.body; has = keeps (Some cov.body) cov.has; is = cov.is; images = λ told c before. cov.images (sym alike ∙ told) c (none c before) }
