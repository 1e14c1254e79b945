-- A line that is taken over a catalog.
use Rattle.std.specs.Prelude.{◌≡◌, ◌⊎◌, ℕ, List, Option, Result, Ok, Err}
use Rattle.aso_num.specs.declared.status.Status.{Status}
use Rattle.aso_disk.specs.Causes.{Rose}
use Rattle.aso_disk.specs.Texts.{Appends, AppendsFront}
use Rattle.aso_disk.specs.declared.trouble.Trouble.{Trouble}
use Rattle.aso_script.specs.Script.{Line}
use Rattle.aso_catalog.specs.declared.catalog.Catalog.{Catalog}
use Rattle.aso_catalog.specs.Record.{IsStorable}
use Rattle.aso_catalog.specs.View.{IsTold, Throughout, current_layout}
use Rattle.aso_stage.specs.declared.store.Store.{Store}
use Rattle.aso_stage.specs.Stores.{IsStore, state_of}
use Rattle.aso_machine.specs.Machine.{Held, Outcome}
use Rattle.aso_stage.specs.Images.{Covers, IsImageOf, Publishes}

-- the store is one that can be stored, of the catalog's layout
pub record IsReady {C : Type 0} {g : _} (catalog : Catalog C g) (s : Store) : Type 0 where
  pub store : IsStore s
  pub storable : IsStorable s.saved
  pub layout : current_layout catalog ≡ s.saved.layout

-- The catalog covers the store's state, with the doubt that is held beside it.
pub record Holds {C : Type 0} {g : _} (catalog : Catalog C g) (store : Store) (h : Held) : Type 0 where
  pub covers : Covers catalog h
  pub is : h.state ≡ state_of store

-- The line was answered so as statement i, which is an outcome of it; the catalog covers what is held afterwards, and at each moment a
-- crash leaves what was held before it or what its publish leaves.
pub record Taken {C : Type 0} {g : _} (old new : Catalog C g) (store : Store) (h : Held) (i : ℕ) (line : Line) (reply : List ℕ) (status : Status) : Type 0 where
  pub after : Held
  pub holds : Holds new store after
  pub outcome : Outcome (Rose (g.faults old.slots) (g.faults new.slots)) h i line reply status after
  pub images : Throughout old new (λ c. IsTold old → IsImageOf h c ⊎ Publishes h.state line c)

-- the reply was put and this is its status, or the sink cut it
abbrev pub PutsReply : Option (List ℕ) → Option (List ℕ) → List ℕ → Status → Result Status Trouble → Type 0
PutsReply before after reply status (Ok told) = (told ≡ status) × Appends before after reply
PutsReply before after reply status (Err trouble) = AppendsFront before after reply

-- a line was taken, and its reply put
pub record Replies {C : Type 0} {g : _} (old new : Catalog C g) (store : Store) (h : Held) (i : ℕ) (line : Line) (before after : Option (List ℕ)) (ended : Result Status Trouble) : Type 0 where
  pub reply : List ℕ
  pub status : Status
  pub taken : Taken old new store h i line reply status
  pub puts : PutsReply before after reply status ended
