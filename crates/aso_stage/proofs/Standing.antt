-- Which state a record stands for.
use Rattle.std.proofs.Common.{◌≡◌, ◌∙◌, ◌^◌, ℕ, true, false, true≢false, List, [], length, map, ap, sym, refl, subst}
use Rattle.std.specs.Prelude.{ℤ, Some, nat_lt, unsigned_abs}
use Rattle.std.proofs.lemmas.Bool.Decides.{Decides-eqb}
use Rattle.aso_outline.specs.declared.draft.Draft.{Draft}
use Rattle.aso_outtext.specs.Answers.{Gives}
use Rattle.aso_catalog.specs.declared.record.LeafCell.{LeafCell}
use Rattle.aso_catalog.specs.declared.record.Record.{Record}
use Rattle.aso_spec.specs.Cells.{Key, add_at}
use Rattle.aso_cellnames.specs.Leaves.{are_leaves, leaf_counts}
use Rattle.aso_machine.specs.CellSteps.{sum_in}
use Rattle.aso_machine.specs.State.{State, committed, entry, fits_outline, new_store, state_with}
use Rattle.aso_machine.proofs.Rising.{added_record, entries_added, next_fits}
use Rattle.aso_stage.specs.declared.store.Store.{Store}
use Rattle.aso_stage.specs.Store.{Keeps, Stands, StandsForNone}
use Rattle.aso_stage.specs.Stores.{IsStoreOf, state_of}

-- the record of a store without cells
pub first_stands : (text out : List ℕ) (o : Draft) (d : ℕ) (cells : List LeafCell) → out ≡ text → cells ≡ [] → d ≡ length o.dims → Keeps text o
    → Stands (record { layout = 1; commit = 0; outline = out; dimensions = d; cells = cells }) (new_store text o)
first_stands text out o d cells same none dims keeps = record {
  keeps = subst (λ (t : List ℕ). Keeps t o) (sym same) keeps;
  fits = rw (none, (Decides-eqb d (length o.dims)).1 dims) refl;
  is = rw (same, none) refl;
}

pub stands_with : (r : Record) (o : Draft) → Keeps r.outline o → fits_outline r o ≡ true → Stands r (state_with r o)
stands_with r o keeps fits = record { keeps = keeps; fits = fits; is = refl }

-- a state is that of the record with the state's own outline
pub stands_again : (r : Record) (s : State) → Stands r s → Stands r (state_with r s.outline)
stands_again r s stands = stands_with r s.outline stands.keeps stands.fits

-- where a text gives one outline at most, and the cells don't fit it, or it gives none
pub stands_unfit : (r : Record) (o : Draft) → ((p : Draft) → Gives r.outline p → o ≡ p) → fits_outline r o ≡ false → StandsForNone r
stands_unfit r o only unfit s stands =
    let same : o ≡ s.outline = only s.outline stands.keeps.gives in
    true≢false (sym stands.fits ∙ sym (ap (fits_outline r) same) ∙ unfit)

pub opened_stands : (r : Record) (store : Store) → IsStoreOf r (Some store) → Stands r (state_of store)
opened_stands r store is = subst (λ (x : Record). Stands x (state_of store)) is.0 is.1

-- ---- the next record

pub next_stands : (r : Record) (o : Draft) (key : Key) (z : ℤ) → Stands r (state_with r o) → are_leaves (leaf_counts o) key ≡ true → nat_lt (unsigned_abs (sum_in key z r.cells)) (10 ^ 18) ≡ true
    → Stands (added_record r key z) (committed (state_with r o) (add_at key z (map entry r.cells)))
next_stands r o key z stands leaves small = record {
  keeps = stands.keeps;
  fits = next_fits r o key z stands.fits leaves small;
  is = ap (λ (cs : List (Key × ℤ)). committed (state_with r o) cs) (sym (entries_added key z r.cells));
}
