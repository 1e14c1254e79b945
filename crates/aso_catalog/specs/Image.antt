-- The catalog's device: two areas, each a gate byte, a body's length and the body.
use Rattle.std.specs.Prelude.{ℕ, ◌+◌, ◌-◌, ◌*◌, ◌<◌, ◌≤◌, ◌≡◌, ◌≢◌, ◌⊎◌, Bool, true, false, List, take, drop, length, Option, Some, None, IfSome, slice_index, nat_lt, ◌==◌, if◌then◌else◌}
use Rattle.std.specs.Int.{from_be_bytes, w32, w64}
use Rattle.std.specs.Option.{ForSome}
use Rattle.aso_disk.specs.Slots.{piece}
use Rattle.aso_catalog.specs.declared.record.Record.{Record}
use Rattle.aso_catalog.specs.Record.{IsRecord}

-- the bytes of an area
unfoldable pub area : ℕ → List ℕ → List ℕ
area a image = piece (131072 * a) 131072 image

unfoldable pub gate_of : List ℕ → ℕ
gate_of bytes = slice_index bytes 0

-- the body behind its length
unfoldable pub framed : List ℕ → List ℕ
framed bytes = take (from_be_bytes w32 (take 4 bytes)) (drop 4 bytes)

-- the body that stands behind an area's gate
abbrev pub body_of : List ℕ → List ℕ
body_of bytes = framed (drop 1 bytes)

-- the length in front of a body
abbrev pub size_in : List ℕ → ℕ
size_in bytes = from_be_bytes w32 (take 4 bytes)

-- the layout that a record's body names, behind its magic
unfoldable pub layout_of : List ℕ → ℕ
layout_of body = from_be_bytes w64 (take 8 (drop 4 body))

-- a record of this layout that fits into an area
pub record IsBody (layout : ℕ) (body : List ℕ) : Type 0 where
  pub r : Record
  pub spelled : IsRecord r body
  pub names : r.layout ≡ layout
  pub fits : length body ≤ 131067

-- a length that an area has room for, and a record
pub record IsWhole (bytes : List ℕ) : Type 0 where
  pub fits : size_in bytes ≤ 131067
  pub r : Record
  pub spelled : IsRecord r (framed bytes)

-- the body of an area whose gate is open
unfoldable pub open_body : List ℕ → Option (List ℕ)
open_body bytes = if gate_of bytes == 1 then Some (body_of bytes) else None

-- of two open areas that of greater layout
abbrev pub greater : Option (List ℕ) → Option (List ℕ) → Option (List ℕ)
greater None y = y
greater (Some x) None = Some x
greater (Some x) (Some y) = if nat_lt (layout_of x) (layout_of y) then Some y else Some x

-- the body in the open area of greater layout
unfoldable pub chosen : List ℕ → Option (List ℕ)
chosen image = greater (open_body (area 0 image)) (open_body (area 1 image))

-- each open area holds a record, and two open ones hold different layouts
pub record IsSound (image : List ℕ) : Type 0 where
  pub whole : (a : ℕ) → a ≤ 1 → gate_of (area a image) ≡ 1 → ∥ IsWhole (drop 1 (area a image)) ∥₁
  pub apart : gate_of (area 0 image) ≡ 1 → gate_of (area 1 image) ≡ 1 → layout_of (body_of (area 0 image)) ≢ layout_of (body_of (area 1 image))

-- what an image is opened with: this body, or None where no gate is open
pub record OpensWith (image : List ℕ) (body : Option (List ℕ)) : Type 0 where
  pub sound : IsSound image
  pub taken : chosen image ≡ body

-- How an image that a crash may leave stands to what a read gives, where `current` is the area of the current record:
-- that area is the same, and the other one's gate is closed where it is known to be, and behind it stands the same
-- where that was synced.
pub record Stands (current : ℕ) (shut kept : Bool) (seen image : List ℕ) : Type 0 where
  pub same : area current image ≡ area current seen
  pub closed : shut ≡ true → gate_of (area (1 - current) image) ≢ 1
  pub behind : kept ≡ true → drop 1 (area (1 - current) image) ≡ drop 1 (area (1 - current) seen)

-- The current record is open where there is one, and each image that a crash may leave stands so to what a read gives.
pub record IsCatalog (current layout : ℕ) (present shut kept : Bool) (seen : List ℕ) (left : List ℕ → Type 0) : Type 0 where
  pub there : present ≡ true → gate_of (area current seen) ≡ 1
  pub names : present ≡ true → layout_of (body_of (area current seen)) ≡ layout
  pub sound : present ≡ true → ∥ IsWhole (drop 1 (area current seen)) ∥₁
  pub absent : present ≡ false → gate_of (area current seen) ≢ 1
  pub none : present ≡ false → layout ≡ 0
  pub apart : kept ≡ true → layout_of (body_of (area (1 - current) seen)) ≢ layout
  pub whole : kept ≡ true → ∥ IsWhole (drop 1 (area (1 - current) seen)) ∥₁
  pub ready : kept ≡ true → shut ≡ true → layout_of (body_of (area (1 - current) seen)) ≡ layout + 1
  pub each : (c : List ℕ) → left c → Stands current shut kept seen c

-- an image is opened with this body, or with another one whose layout is greater
abbrev pub IsOrNewer : Option (List ℕ) → ℕ → List ℕ → List ℕ → Type 0
IsOrNewer current layout body image = OpensWith image current ⊎ ((layout < layout_of body) × OpensWith image (Some body))

-- the same, where the other one counts only if its gate isn't known to be closed
abbrev pub BeforeOrDoubt : Option (List ℕ) → Bool → ℕ → List ℕ → List ℕ → Type 0
BeforeOrDoubt current shut layout body image = OpensWith image current ⊎ ((shut ≡ false) × (layout < layout_of body) × OpensWith image (Some body))

-- some image has P: the one that a device tells, where it tells one
pub record SomeImage (told : Option (List ℕ)) (P : List ℕ → Type 0) : Type 0 where
  pub image : List ℕ
  pub is_told : IfSome told (λ seen. image ≡ seen)
  pub has : P image

-- from some moment between old and new on, a crash leaves an image with P
pub record FromSync {D : Type 0} (moment : D → ℕ) (left : D → ℕ → List ℕ → Type 0) (old new : D) (P : List ℕ → Type 0) : Type 0 where
  pub at : ℕ
  pub from : moment old ≤ at
  pub to : at ≤ moment new
  pub each : (k : ℕ) (c : List ℕ) → at ≤ k → k ≤ moment new → left new k c → P c

-- the bytes that a device tells, where it tells them
abbrev pub IsSeen : Option (List ℕ) → List ℕ → Type 0
IsSeen told image = ForSome told (λ seen. image ≡ seen)
