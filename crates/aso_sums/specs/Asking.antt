-- The members that are asked, and the table of their places.
use Rattle.std.specs.Prelude.{◌≡◌, ◌≢◌, ◌<◌, ◌-◌, ◌^◌, ℕ, List, ◌++◌, length, Some, slice_get}
use Rattle.std.specs.List.{All}
use Rattle.aso_outline.specs.declared.draft.Draft.{Draft}
use Rattle.aso_outline.specs.Members.{seats}
use Rattle.aso_sums.specs.declared.asked.Asked.{Asked}

-- no place
abbrev pub nowhere : ℕ
nowhere = 2 ^ 32 - 1

-- Members of the outline. Where the table has a place for a number, the member of that number stands there.
pub record IsAsking (o : Draft) (a : Asked) : Type 0 where
  pub numbers : All (λ m. m < length (seats o)) a.members.items
  pub long : length a.places.items ≡ length (seats o)
  pub found : (m k : ℕ) → slice_get a.places.items m ≡ Some k → k ≢ nowhere → slice_get a.members.items k ≡ Some m

-- some members more are asked
abbrev pub Extends : List ℕ → List ℕ → Type 0
Extends old new = (more : List ℕ) × (new ≡ old ++ more)
