-- How a line is taken, case by case.
use Rattle.std.proofs.Common.{◌≡◌, ◌⊎◌, inl, inr, ⊎_elim, ◌∙◌, ℕ, ◌+◌, List, [], ◌∷◌, ◌++◌, Option, Some, None, sym, refl, ap, subst, codes}
use Rattle.aso_num.specs.declared.status.Status.{Status}
use Rattle.aso_num.specs.declared.status.Status.TheVariants.{Done, Refused, Disk, NoMemory}
use Rattle.aso_disk.specs.Causes.{Rose}
use Rattle.aso_spec.specs.Cells.{Cells}
use Rattle.aso_spec.specs.Grid.{error_line, grid_head}
use Rattle.aso_script.specs.Script.{Line}
use Rattle.aso_catalog.specs.declared.catalog.Catalog.{Catalog}
use Rattle.aso_catalog.specs.declared.record.LeafCell.{LeafCell}
use Rattle.aso_catalog.specs.declared.record.Record.{Record}
use Rattle.aso_catalog.specs.Record.{AreCells, AreRising, IsRecord, IsStorable}
use Rattle.aso_catalog.specs.View.{IsBefore, IsTold, Throughout}
use Rattle.aso_catalog.proofs.Views.{throughout_nothing, throughout_weaker}
use Rattle.aso_machine.specs.State.{State, committed, state_with}
use Rattle.aso_machine.specs.Machine.{Comes, Held, held, Outcome, Said, Refuses, Shows, Changes, doubt_text, ok_line}
use Rattle.aso_stage.specs.declared.store.Store.{Store}
use Rattle.aso_stage.specs.Store.{Stands}
use Rattle.aso_stage.specs.Stores.{state_of}
use Rattle.aso_stage.specs.Images.{Covers, IsImageOf, Publishes, Recovers}
use Rattle.aso_stage.specs.Taking.{Holds, IsReady, Taken}

-- ---- records

cells_rising : (dimensions : ℕ) (before : Option (List ℕ)) (cells : List LeafCell) (bytes : List ℕ) → AreCells dimensions before cells bytes → AreRising dimensions before cells
cells_rising dimensions before [] bytes is = tt
cells_rising dimensions before (c ∷ cs) bytes is = (is.2.count, is.3, cells_rising dimensions (Some c.leaves) cs is.1 is.5)

-- what has a spelling can be stored
pub record_storable : (r : Record) (bytes : List ℕ) → IsRecord r bytes → IsStorable r
record_storable r bytes is = record {
  older = is.head.older;
  short = is.head.short;
  least = is.head.least;
  most = is.head.most;
  few = is.head.few;
  rising = cells_rising r.dimensions None r.cells is.cells is.spelled;
}

-- what was published is ready for the next statement
pub ready_published : {C : Type 0} {g : _} (catalog : Catalog C g) (before after : Store) (next : Record) (body : List ℕ) → after.saved ≡ next → after.outline ≡ before.outline → Stands next (state_with next before.outline) → IsRecord next body → catalog.layout ≡ next.layout
    → IsReady catalog after
ready_published catalog before after next body saved outline stands spelled layout =
    let same : state_with after.saved after.outline ≡ state_with next before.outline = ap (λ (r : Record). state_with r after.outline) saved ∙ ap (state_with next) outline in
    record {
      store = subst (λ (r : Record). Stands r (state_with after.saved after.outline)) (sym saved) (subst (λ (t : State). Stands next t) (sym same) stands);
      storable = subst IsStorable (sym saved) (record_storable next body spelled);
      layout = layout ∙ ap (λ (r : Record). r.layout) (sym saved);
    }

-- ---- where nothing is published

module _ {C : Type 0} {g : _} (catalog : Catalog C g) (store : Store) (h : Held) (holds : Holds catalog store h) (i : ℕ) (line : Line) (reply : List ℕ) where
  nothing_taken : (status : Status) → Outcome (Rose (g.faults catalog.slots) (g.faults catalog.slots)) h i line reply status h → Taken catalog catalog store h i line reply status
  nothing_taken status outcome = record {
    after = h;
    holds = holds;
    outcome = outcome;
    images = throughout_weaker catalog catalog (IsBefore catalog) _ (throughout_nothing catalog) (λ c before told. inl (holds.covers.images told c before));
  }

  comes_here : (x : Said) → Comes (state_of store) line x → Comes h.state line x
  comes_here x comes = subst (λ (s : State). Comes s line x) (sym holds.is) comes

  pub refused_taken : (text : List ℕ) → Comes (state_of store) line (Refuses text) → reply ≡ error_line i text → Taken catalog catalog store h i line reply Refused
  refused_taken text comes told = nothing_taken Refused (Refuses text, comes_here (Refuses text) comes, told, refl)

  pub shown_taken : (rows columns : ℕ) (grid : List ℕ) → Comes (state_of store) line (Shows rows columns grid) → reply ≡ grid_head i (state_of store).commit rows columns ++ grid → Taken catalog catalog store h i line reply Done
  shown_taken rows columns grid comes text =
      let same : (state_of store).commit ≡ h.state.commit = ap (λ (t : State). t.commit) (sym holds.is) in
      nothing_taken Done (Shows rows columns grid, comes_here (Shows rows columns grid) comes, (text ∙ ap (λ n. grid_head i n rows columns ++ grid) same, refl))

  pub starved_taken : reply ≡ error_line i (codes "401 no memory") → Taken catalog catalog store h i line reply NoMemory
  starved_taken told = nothing_taken NoMemory (told, refl)

-- ---- where a commit is published

module _ {C : Type 0} {g : _} (old new : Catalog C g) (before after : Store) (h : Held) (holds : Holds old before h) (i : ℕ) (line : Line) (cells : Cells) (comes : Comes (state_of before) line (Changes cells)) (next : State) (same : next ≡ committed (state_of before) cells)
    (run : Throughout old new (λ c. IsTold old → IsImageOf h c ⊎ Recovers c next)) (reply : List ℕ) where
  next_is : next ≡ committed h.state cells
  next_is = same ∙ ap (λ (t : State). committed t cells) (sym holds.is)

  comes_there : Comes h.state line (Changes cells)
  comes_there = subst (λ (s : State). Comes s line (Changes cells)) (sym holds.is) comes

  images : Throughout old new (λ c. IsTold old → IsImageOf h c ⊎ Publishes h.state line c)
  images = throughout_weaker old new _ _ run (λ c either told. ⊎_elim (λ image. inl image) (λ recovers. inr (next, (cells, comes_there, next_is), recovers)) (either told))

  commit_is : (before.saved.commit + 1) ≡ h.state.commit + 1
  commit_is = ap (λ (t : State). t.commit + 1) (sym holds.is)

  pub published_taken : Covers new (held next None) → next ≡ state_of after → reply ≡ ok_line i (before.saved.commit + 1) → Taken old new after h i line reply Done
  published_taken covers there told = record {
    after = held next None;
    holds = record { covers = covers; is = there };
    outcome = (Changes cells, comes_there, (told ∙ ap (ok_line i) commit_is, ap (λ (t : State). held t None) next_is));
    images = images;
  }

  pub doubt_taken : Rose (g.faults old.slots) (g.faults new.slots) → Covers new (held h.state (Some next)) → before ≡ after → reply ≡ error_line i (doubt_text (before.saved.commit + 1)) → Taken old new after h i line reply Disk
  doubt_taken rose covers there told = record {
    after = held h.state (Some next);
    holds = record { covers = covers; is = holds.is ∙ ap state_of there };
    outcome = (rose, (Changes cells, comes_there, inr (told ∙ ap (λ n. error_line i (doubt_text n)) commit_is, ap (λ (t : State). held h.state (Some t)) next_is)));
    images = images;
  }

  pub failed_taken : Rose (g.faults old.slots) (g.faults new.slots) → Covers new h → before ≡ after → reply ≡ error_line i (codes "301 disk fault") → Taken old new after h i line reply Disk
  failed_taken rose covers there told = record {
    after = h;
    holds = record { covers = covers; is = holds.is ∙ ap state_of there };
    outcome = (rose, (Changes cells, comes_there, inl (told, refl)));
    images = images;
  }

-- a line for which there was no memory left everything as it was
pub starved_at : {C : Type 0} {g : _} (old new : Catalog C g) (before after : Store) (h : Held) → new ≡ old → after ≡ before → Holds old before h → (i : ℕ) (line : Line) (reply : List ℕ) → reply ≡ error_line i (codes "401 no memory") → Taken old new after h i line reply NoMemory
starved_at {C} {g} old new before after h same_catalog same_store holds i line reply e =
    subst (λ (x : Catalog C g). Taken old x after h i line reply NoMemory) (sym same_catalog)
    (subst (λ (x : Store). Taken old old x h i line reply NoMemory) (sym same_store) (starved_taken old before h holds i line reply e))
