-- The members by number, each with what its rank needs.
use Rattle.std.specs.Prelude.{◌≡◌, ◌<◌, ℕ, Bool, false, List, Option, None, Some, length, map, slice_get, unwrap_or}
use Rattle.aso_tree.specs.Trees.{places_of}
use Rattle.aso_outline.specs.declared.draft.Draft.{Draft}
use Rattle.aso_outline.specs.declared.row.Row.{Row}
use Rattle.aso_outline.specs.declared.row.Standing.{Standing}
use Rattle.aso_outline.specs.Members.{seats}
use Rattle.aso_outline.specs.Ranks.{greatest_rank, needs, rank, rank_from, rank_within, standing_of}

abbrev pub row_at : Draft → ℕ → Standing × List ℕ
row_at o n = (standing_of o n, needs o n)

abbrev pub row_of : Row → Standing × List ℕ
row_of r = (r.standing, r.needs.items)

abbrev pub AreRows : Draft → List Row → Type 0
AreRows o rows = map row_of rows ≡ map (row_at o) (places_of (seats o))

-- the rank of each member, in the order of the numbers
abbrev pub AreRanks : Draft → List (Option ℕ) → Type 0
AreRanks o ranks = ranks ≡ map (rank o) (places_of (seats o))

-- the rank of a member in a table of ranks; past its end stands nothing that needs one
abbrev pub rank_in : List (Option ℕ) → ℕ → Option ℕ
rank_in ranks k = unwrap_or (slice_get ranks k) (Some 0)

-- the rank that follows for a member from those in the table
abbrev pub rank_after : Draft → List (Option ℕ) → ℕ → Option ℕ
rank_after o ranks k = rank_from (standing_of o k) (greatest_rank (map (rank_in ranks) (needs o k)))

-- the table has ranks of members, and some may lack
pub record AreKnown (o : Draft) (ranks : List (Option ℕ)) : Type 0 where
  pub long : length ranks ≡ length (seats o)
  pub right : (k r : ℕ) → rank_in ranks k ≡ Some r → rank o k ≡ Some r

-- it has each rank that is found in fewer turns
abbrev pub HasTurns : Draft → ℕ → List (Option ℕ) → Type 0
HasTurns o turns ranks = (t k r : ℕ) → t < turns → rank_within t o k ≡ Some r → rank_in ranks k ≡ Some r

-- no rank that it lacks follows from it
abbrev pub IsClosed : Draft → List (Option ℕ) → Type 0
IsClosed o ranks = (k : ℕ) → rank_in ranks k ≡ None → rank_after o ranks k ≡ None

-- whether a member reaches a goal, in a table for one goal
abbrev pub reach_in : List Bool → ℕ → Bool
reach_in reach k = unwrap_or (slice_get reach k) false
