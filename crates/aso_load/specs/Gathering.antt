-- What was gathered of the records so far.
use Rattle.std.specs.Prelude.{◌≡◌, ◌+◌, ◌<◌, ℕ, ◌++◌, [], List, length, map, ℤ, Result, if◌then◌else◌}
use Rattle.std.specs.List.{cons_option, filter, flat_map}
use Rattle.aso_outline.specs.declared.draft.Draft.{Draft}
use Rattle.aso_rules.specs.declared.rules.Rules.{Rules}
use Rattle.aso_load.specs.Records.{given, is_skipped, outcome, reject_at, rejects_from}
use Rattle.aso_load.specs.declared.gathered.Gathered.{Gathered}

-- the outcome of the record of this number was added
pub record Adds (x : Result (List (List ℕ × ℤ)) ℕ) (row : ℕ) (before after : Gathered) : Type 0 where
  pub amounts : after.amounts.items ≡ before.amounts.items ++ given x
  pub rejects : after.rejects.items ≡ before.rejects.items ++ cons_option (reject_at row x) []
  pub skipped : after.skipped ≡ before.skipped + (if is_skipped x then 1 else 0)

-- of all these outcomes, the first of them the record of number `first`, what is not yet gathered are those of the records that are
-- left, from number `row` on
pub record IsSoFar (o : Draft) (rules : Rules) (all : List (Result (List (List ℕ × ℤ)) ℕ)) (first row : ℕ) (g : Gathered) (left : List (List (List ℕ))) : Type 0 where
  pub amounts : flat_map given all ≡ g.amounts.items ++ flat_map given (map (outcome o rules) left)
  pub rejects : rejects_from first all ≡ g.rejects.items ++ rejects_from row (map (outcome o rules) left)
  pub skipped : length (filter is_skipped all) ≡ g.skipped + length (filter is_skipped (map (outcome o rules) left))
  pub few : g.skipped < row
