-- The images of a store's making.
use Rattle.std.proofs.Common.{◌≡◌, ◌⊎◌, inl, inr, ⊎_elim, ◌∙◌, ℕ, List, Some, None, sym, ap, subst, arith}
use Rattle.std.specs.Prelude.{IsSome, is_some}
use Rattle.aso_disk.specs.Slots.{Runs, Still}
use Rattle.aso_outline.specs.declared.draft.Draft.{Draft}
use Rattle.aso_catalog.specs.declared.catalog.Catalog.{Catalog}
use Rattle.aso_catalog.specs.Image.{FromSync, OpensWith}
use Rattle.aso_catalog.specs.View.{HasRecord, IsBefore, IsSettled, IsTold, TellsAlike, Throughout}
use Rattle.aso_catalog.proofs.Views.{throughout_nothing, throughout_weaker}
use Rattle.aso_stage.specs.Store.{Keeps}
use Rattle.aso_machine.specs.State.{new_store}
use Rattle.aso_stage.specs.Images.{HasNoStore, Records}
use Rattle.aso_stage.specs.Create.{CreateLeaves, IsCreated}
use Rattle.aso_stage.specs.Opening.{IsOpenedFrom}
use Rattle.aso_stage.proofs.Catalogs.{opened_then, settled_opens}

pub nothing_made : {C : Type 0} {g : _} (catalog : Catalog C g) (text : List ℕ) → HasRecord catalog None → IsSettled catalog → Throughout catalog catalog (λ c. IsTold catalog → HasNoStore c ⊎ IsCreated text c)
nothing_made catalog text has settled =
    throughout_weaker catalog catalog (IsBefore catalog) _ (throughout_nothing catalog) (λ c before told. inl (settled_opens catalog None c told has settled before))

module _ {C : Type 0} {g : _} (old new : Catalog C g) (text : List ℕ) (o : Draft) (body : List ℕ) (keeps : Keeps text o) (records : Records body (new_store text o)) where
  opened : (c : List ℕ) → OpensWith c (Some body) → IsCreated text c
  opened c opens = (o, keeps, record { body = body; opens = opens; is = records })

  pub made_images : HasRecord old None → IsSettled old → Throughout old new (λ c. IsBefore old c ⊎ OpensWith c (Some body)) → Throughout old new (λ c. IsTold old → HasNoStore c ⊎ IsCreated text c)
  made_images has settled run =
      throughout_weaker old new _ _ run (λ c e. ⊎_elim (λ before told. inl (settled_opens old None c told has settled before)) (λ opens told. inr (opened c opens)) e)

  pub made_after : TellsAlike old new → HasRecord new (Some body) → IsSettled new → IsTold old → (c : List ℕ) → IsBefore new c → IsCreated text c
  made_after alike has settled told c before = opened c (settled_opens new (Some body) c (alike ∙ told) has settled before)

-- an opening that found no record, and the publish of the first
module _ {C : Type 0} {g : _} (start end : C) (mid new : Catalog C g) (text : List ℕ) (ends : end ≡ new.slots) (seen : g.seen mid.slots ≡ g.seen start) where
  mid_told : IsSome (g.seen start) → IsTold mid
  mid_told told = ap is_some seen ∙ told

  pub create_leaves : Runs Still (g.moment start) (g.moment mid.slots) (g.left start) (g.left mid.slots) → FromSync g.moment g.left start mid.slots (IsBefore mid) → HasRecord mid None → IsSettled mid
      → Throughout mid new (λ c. IsTold mid → HasNoStore c ⊎ IsCreated text c) → CreateLeaves g.moment g.left (IsSome (g.seen start)) text start end
  create_leaves runs sync has settled run =
      let P : List ℕ → Type 0 = λ c. IsTold mid → HasNoStore c ⊎ IsCreated text c in
      let Q : List ℕ → Type 0 = λ c. IsSome (g.seen start) → HasNoStore c ⊎ IsCreated text c in
      let weak = throughout_weaker mid new P Q run (λ c e told. e (mid_told told)) in
      inr (subst (λ (d : C). IsOpenedFrom g.moment g.left start d (λ k c. Q c)) (sym ends)
      (opened_then g.moment g.left start mid.slots new.slots (IsBefore mid) Q runs sync weak (λ c before told. inl (settled_opens mid None c (mid_told told) has settled before))))

  pub created_at : (IsTold mid → (c : List ℕ) → IsBefore new c → IsCreated text c) → IsSome (g.seen start) → (c : List ℕ) → g.left end (g.moment end) c → IsCreated text c
  created_at made told c left =
      let here : g.left new.slots (g.moment new.slots) c = subst (λ (d : C). g.left d (g.moment d) c) ends left in
      made (mid_told told) c ((throughout_nothing new).each (g.moment new.slots) c (omega arith) (omega arith) here)
