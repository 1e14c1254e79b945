-- What opening finds in the two areas.
use Rattle.std.specs.Prelude.{ℕ, zero, suc, ◌-◌, ◌<◌, ◌≤◌, ◌≡◌, ◌≢◌, Bool, true, false, List, drop, length, Option, Some, None}
use Rattle.std.specs.Option.{ForSome}
use Rattle.aso_catalog.specs.Image.{area, gate_of, body_of, size_in, IsWhole}
use Rattle.aso_catalog.specs.Record.{IsRecord}
use Rattle.aso_catalog.specs.declared.record.Record.{Record}
use Rattle.aso_catalog.specs.declared.fault.CatalogFault.{CatalogFault}
use Rattle.aso_catalog.specs.declared.fault.CatalogFault.TheVariants.{Short, BadArea, Twin, Fault, NoMemory}

-- the record behind an area's gate, where that is open
pub record IsFound (bytes : List ℕ) (found : Option Record) : Type 0 where
  pub closed : found ≡ None → gate_of bytes ≢ 1
  pub opened : (r : Record) → found ≡ Some r → (gate_of bytes ≡ 1) × (size_in (drop 1 bytes) ≤ 131067) × IsRecord r (body_of bytes)

abbrev pub of_area : Option Record → Option Record → ℕ → Option Record
of_area first second zero = first
of_area first second (suc n) = second

-- the record of greater layout, and whether the other area is closed
pub record IsChoice (first second : Option Record) (current layout : ℕ) (present shut : Bool) (found : Option Record) : Type 0 where
  pub within : current ≤ 1
  pub is : of_area first second current ≡ found
  pub there : present ≡ true → (r : Record) × (found ≡ Some r) × (r.layout ≡ layout)
  pub absent : present ≡ false → (found ≡ None) × (layout ≡ 0)
  pub closed : shut ≡ true → of_area first second (1 - current) ≡ None
  pub older : shut ≡ false → (r : Record) × (of_area first second (1 - current) ≡ Some r) × (r.layout < layout)

-- what is found in the two areas of an image, and chosen
pub record IsOpening (image : List ℕ) (current layout : ℕ) (present shut : Bool) (found : Option Record) : Type 0 where
  pub first : Option Record
  pub second : Option Record
  pub in_first : IsFound (area 0 image) first
  pub in_second : IsFound (area 1 image) second
  pub choice : IsChoice first second current layout present shut found

-- a record of this layout was found
abbrev pub HasLayout : Option Record → ℕ → Type 0
HasLayout found layout = (r : Record) × (found ≡ Some r) × (r.layout ≡ layout)

-- the bytes of an open area that holds no record
abbrev pub IsBad : List ℕ → Type 0
IsBad bytes = (gate_of bytes ≡ 1) × (IsWhole (drop 1 bytes) → ⊥)

abbrev pub IsBadArea : ℕ → List ℕ → Type 0
IsBadArea a image = IsBad (area a image)

-- an open area that holds a record of this layout
abbrev pub HoldsLayout : ℕ → ℕ → List ℕ → Type 0
HoldsLayout a layout image = (r : Record) × (gate_of (area a image) ≡ 1) × IsRecord r (body_of (area a image)) × (r.layout ≡ layout)

-- what a refusal says of the image; of areas that both are bad it names the first
abbrev pub IsDamage : List ℕ → CatalogFault → Type 0
IsDamage image (Short size) = (size ≡ length image) × (size < 262144)
IsDamage image (BadArea a at) = (262144 ≤ length image) × (at ≡ 0) × (a ≤ 1) × IsBadArea a image × (a ≡ 1 → IsBadArea 0 image → ⊥)
IsDamage image (Twin layout) = (262144 ≤ length image) × HoldsLayout 0 layout image × HoldsLayout 1 layout image
IsDamage image Fault = Unit {0}
IsDamage image NoMemory = Unit {0}

-- bytes that were read as an area have P: they are those of the image that a device tells, where it tells one
pub record ReadsArea (number : ℕ) (told : Option (List ℕ)) (P : List ℕ → Type 0) : Type 0 where
  pub bytes : List ℕ
  pub long : length bytes ≡ 131072
  pub is_told : ForSome told (λ image. area number image ≡ bytes)
  pub has : P bytes

-- what a refusal of one area says of it
abbrev pub IsAreaFault : ℕ → Option (List ℕ) → CatalogFault → Type 0
IsAreaFault number told (Short size) = ⊥
IsAreaFault number told (BadArea a at) = (at ≡ 0) × (a ≡ number) × ReadsArea number told IsBad
IsAreaFault number told (Twin layout) = ⊥
IsAreaFault number told Fault = Unit {0}
IsAreaFault number told NoMemory = Unit {0}

abbrev pub IsShortOrFault : CatalogFault → Type 0
IsShortOrFault (Short size) = Unit {0}
IsShortOrFault (BadArea a at) = ⊥
IsShortOrFault (Twin layout) = ⊥
IsShortOrFault Fault = Unit {0}
IsShortOrFault NoMemory = ⊥
