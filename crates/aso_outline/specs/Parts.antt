-- The members in parts by their needs: all members of a circle are in one part, and what a member needs is in no later part.
use Rattle.std.specs.Prelude.{◌≡◌, ℕ, Bool, true, List, nat_le, nat_lt, slice_get, unwrap_or}
use Rattle.std.specs.List.{list_all}
use Rattle.aso_outline.specs.declared.draft.Draft.{Draft}
use Rattle.aso_outline.specs.Ranks.{needs}

-- the part of a member, in a table of parts
abbrev pub part_in : List ℕ → ℕ → ℕ
part_in parts k = unwrap_or (slice_get parts k) 0

-- no member that it needs is in a later part
abbrev pub is_in_order : Draft → List ℕ → ℕ → Bool
is_in_order o parts k = list_all (λ m. nat_le (part_in parts m) (part_in parts k)) (needs o k)

-- each member that it needs is in an earlier part
abbrev pub is_after_needs : Draft → List ℕ → ℕ → Bool
is_after_needs o parts k = list_all (λ m. nat_lt (part_in parts m) (part_in parts k)) (needs o k)

abbrev pub AreInOrder : Draft → List ℕ → Type 0
AreInOrder o parts = (k : ℕ) → is_in_order o parts k ≡ true
