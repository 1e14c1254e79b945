-- The store of the code, as a state.
use Rattle.std.specs.Prelude.{◌≡◌, ℤ, map, Option, Some, None}
use Rattle.aso_catalog.specs.declared.record.Record.{Record}
use Rattle.aso_spec.specs.Cells.{Key, add_at}
use Rattle.aso_machine.specs.State.{State, committed, entry, state_with}
use Rattle.aso_stage.specs.declared.store.Store.{Store}
use Rattle.aso_stage.specs.Store.{Stands, StandsForNone}

abbrev pub state_of : Store → State
state_of store = state_with store.saved store.outline

-- its record stands for its state
abbrev pub IsStore : Store → Type 0
IsStore store = Stands store.saved (state_of store)

-- the store of a record, or none where the record stands for no state
abbrev pub IsStoreOf : Record → Option Store → Type 0
IsStoreOf r None = StandsForNone r
IsStoreOf r (Some store) = (store.saved ≡ r) × IsStore store

-- its state after the commit of an amount that is added to a cell
abbrev pub added_state : Store → Key → ℤ → State
added_state store key z = committed (state_of store) (add_at key z (map entry store.saved.cells))
