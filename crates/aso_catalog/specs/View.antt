-- A catalog as the layers above see it. What it says of records is said for each device: of one that tells its bytes it
-- is what a read gives, and of one that tells none it may be anything.
use Rattle.std.specs.Prelude.{ℕ, ◌+◌, ◌-◌, ◌*◌, ◌<◌, ◌≤◌, ◌≡◌, true, false, Bool, List, [], ◌∷◌, ◌++◌, Contains, length, slice_index_or as get_or, Option, Some, None, IsSome, MatchOption, is_some, if◌then◌else◌}
use Rattle.std.specs.Int.{to_be_bytes, w32}
use Rattle.std.specs.Option.{ForSome}
use Rattle.aso_disk.specs.Slots.{LeavesOnly, Write}
use Rattle.aso_catalog.specs.Image.{area, body_of, open_body, chosen, layout_of, BeforeOrDoubt, IsSound, OpensWith}
use Rattle.aso_catalog.specs.Record.{IsRecord}
use Rattle.aso_catalog.specs.declared.record.Record.{Record}
use Rattle.aso_catalog.specs.declared.catalog.Catalog.{Catalog}

-- ---- the device

-- the device that it stands on
abbrev pub device_of : {C : Type 0} {g : _} → Catalog C g → C
device_of {C} {g} catalog = catalog.slots

-- the device tells its bytes
abbrev pub IsTold : {C : Type 0} {g : _} → Catalog C g → Type 0
IsTold {C} {g} catalog = IsSome (g.seen catalog.slots)

-- the device tells its bytes afterwards exactly where it told them before
abbrev pub TellsAlike : {C : Type 0} {g : _} → Catalog C g → Catalog C g → Type 0
TellsAlike {C} {g} old new = is_some (g.seen new.slots) ≡ is_some (g.seen old.slots)

-- ---- the record

-- the layout of its record, or 0
abbrev pub current_layout : {C : Type 0} {g : _} → Catalog C g → ℕ
current_layout {C} {g} catalog = catalog.layout

-- its record has this body, or it has none
abbrev pub HasRecord : {C : Type 0} {g : _} → Catalog C g → Option (List ℕ) → Type 0
HasRecord {C} {g} catalog body = ForSome (g.seen catalog.slots) (λ seen. open_body (area catalog.current seen) ≡ body)

-- its record is the one that it was
abbrev pub KeepsRecord : {C : Type 0} {g : _} → Catalog C g → Catalog C g → Type 0
KeepsRecord old new = (body : Option (List ℕ)) → HasRecord old body → HasRecord new body

-- ---- the area that a publish would fill

-- its gate is known to be closed on the disk
abbrev pub is_shut : {C : Type 0} {g : _} → Catalog C g → Bool
is_shut {C} {g} catalog = catalog.shut

-- this body stands behind its gate
abbrev pub HasOther : {C : Type 0} {g : _} → Catalog C g → List ℕ → Type 0
HasOther {C} {g} catalog body = ForSome (g.seen catalog.slots) (λ seen. body_of (area (1 - catalog.current) seen) ≡ body)

-- a record of the next layout stands on the disk behind the closed gate
abbrev pub IsFilled : {C : Type 0} {g : _} → Catalog C g → Type 0
IsFilled {C} {g} catalog = (catalog.shut ≡ true) × (catalog.kept ≡ true)

-- this body stands behind a gate of which it isn't known whether it is open
abbrev pub IsInDoubt : {C : Type 0} {g : _} → Catalog C g → List ℕ → Type 0
IsInDoubt catalog body = (is_shut catalog ≡ false) × HasOther catalog body

-- what stands behind a gate that isn't known to be closed is no newer than the record: there is no doubt
abbrev pub IsSettled : {C : Type 0} {g : _} → Catalog C g → Type 0
IsSettled {C} {g} catalog = is_shut catalog ≡ false → ForSome (g.seen catalog.slots) (λ seen. layout_of (body_of (area (1 - catalog.current) seen)) ≤ catalog.layout)

-- ---- writes

-- the place of its gate
abbrev pub gate_place : {C : Type 0} {g : _} → Catalog C g → ℕ
gate_place {C} {g} catalog = 131072 * (1 - catalog.current)

-- the write that closes the gate, where it isn't known to be closed
abbrev pub closing : {C : Type 0} {g : _} → Catalog C g → List Write
closing catalog = if is_shut catalog then [] else (gate_place catalog, 0 ∷ []) ∷ []

-- the write of a body behind the gate
abbrev pub filling : {C : Type 0} {g : _} → Catalog C g → List ℕ → Write
filling catalog body = (gate_place catalog + 1, to_be_bytes w32 (length body) ++ body)

-- the write that opens the gate
abbrev pub opening : {C : Type 0} {g : _} → Catalog C g → Write
opening catalog = (gate_place catalog, 1 ∷ [])

-- between the two moments these writes were begun, in this order, and no others
abbrev pub Begins : {C : Type 0} {g : _} → Catalog C g → Catalog C g → List Write → Type 0
Begins {C} {g} old new made = g.writes new.slots ≡ g.writes old.slots ++ made

-- between the two moments this write was begun
abbrev pub HasBegun : {C : Type 0} {g : _} → Catalog C g → Catalog C g → Write → Type 0
HasBegun old new write = (made : List Write) × Begins old new made × Contains made write

-- of all writes that were begun this one was the last
abbrev pub IsLastBegun : {C : Type 0} {g : _} → Catalog C g → Write → Type 0
IsLastBegun {C} {g} catalog write = (before : List Write) × (g.writes catalog.slots ≡ before ++ write ∷ [])

-- ---- images

-- an image is opened with the record, or with a newer one that is in doubt
abbrev pub IsBefore : {C : Type 0} {g : _} → Catalog C g → List ℕ → Type 0
IsBefore {C} {g} catalog image = ForSome (g.seen catalog.slots) (λ seen. BeforeOrDoubt (open_body (area catalog.current seen)) catalog.shut catalog.layout (body_of (area (1 - catalog.current) seen)) image)

-- an image that may be opened with the record or a doubt of afterwards might have been before
abbrev pub NoNewDoubt : {C : Type 0} {g : _} → Catalog C g → Catalog C g → Type 0
NoNewDoubt old new = (image : List ℕ) → IsBefore new image → IsBefore old image

-- between the two moments no crash leaves an image without P
abbrev pub Throughout : {C : Type 0} {g : _} → Catalog C g → Catalog C g → (List ℕ → Type 0) → Type 0
Throughout {C} {g} old new P = LeavesOnly g.moment g.left old.slots new.slots P

-- an image is opened with one of these bodies
abbrev pub IsOneOf : List (List ℕ) → List ℕ → Type 0
IsOneOf bodies image = (i : ℕ) × (i < length bodies) × OpensWith image (Some (get_or bodies i []))

-- ---- opening

-- an image is opened with what was found, and the catalog has its record
pub record IsOpened {C : Type 0} {g : _} (catalog : Catalog C g) (found : Option Record) (image : List ℕ) : Type 0 where
  pub sound : IsSound image
  pub holds : HasRecord catalog (chosen image)
  pub gives : MatchOption found (chosen image ≡ None) (λ r. (body : List ℕ) × (chosen image ≡ Some body) × IsRecord r body)
