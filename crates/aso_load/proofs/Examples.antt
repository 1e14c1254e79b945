-- The definitions, computed on data files of the Basic outline.
use Rattle.std.proofs.Common.{◌≡◌, ℕ, List, [], ◌∷◌, refl, codes, map}
use Rattle.std.specs.Prelude.{pos, Err, Ok}
use lib.Utf8.{encode}
use Rattle.std.specs.Str.{chars, is_utf8}
use Rattle.csv.proofs.OnLiterals.{csv_on_literals}
use Rattle.aso_outline.specs.Members.{find, leaf_names, seats}
use Rattle.aso_outline.proofs.Basic.{basic}
use Rattle.aso_rules.proofs.Examples.{row_rules}
use Rattle.aso_load.specs.Csv.{records_of}
use Rattle.aso_load.specs.Fields.{trimmed}
use Rattle.aso_load.specs.Records.{loaded, outcome}

row_records : records_of 124 (codes "N.Y.| 2.50|#Mi\nCA||\nMA|1.00001|2\nNY|3\n")
    ≡ ((codes "N.Y." ∷ codes " 2.50" ∷ codes "#Mi" ∷ []) ∷ (codes "CA" ∷ [] ∷ [] ∷ []) ∷ (codes "MA" ∷ codes "1.00001" ∷ codes "2" ∷ []) ∷ (codes "NY" ∷ codes "3" ∷ []) ∷ [])
unfolding csv_on_literals
row_records = refl

row_loads : loaded basic row_rules (codes "N.Y.| 2.50|#Mi\nCA||\nMA|1.00001|2\nNY|3\n") ≡ record {
  amounts = (1 ∷ 0 ∷ 0 ∷ [], pos 25000) ∷ [];
  rejects = record { row = 3; reason = 5 } ∷ record { row = 4; reason = 1 } ∷ [];
  skipped = 1;
}
unfolding csv_on_literals find seats leaf_names is_utf8 chars encode
row_loads = refl

spaces : map trimmed (codes "  a b  " ∷ codes "   " ∷ [] ∷ codes "c" ∷ codes "\td" ∷ []) ≡ (codes "a b" ∷ [] ∷ [] ∷ codes "c" ∷ codes "\td" ∷ [])
spaces = refl

-- a name that nothing has comes before a member that is no data leaf, whichever field has it; then what is no amount, then what is too great
reasons : map (outcome basic row_rules) (
    (codes "Paris" ∷ codes "x" ∷ codes "1" ∷ [])
    ∷ (codes "East" ∷ codes "x" ∷ codes "1" ∷ [])
    ∷ (codes "Jan" ∷ codes "100000000000000" ∷ codes "1" ∷ [])
    ∷ (codes "NY" ∷ codes "100000000000000" ∷ codes "x" ∷ [])
    ∷ (codes "NY" ∷ codes "100000000000000" ∷ codes "1" ∷ [])
    ∷ ((255 ∷ []) ∷ codes "1" ∷ codes "1" ∷ []) ∷ [])
    ≡ (Err 3 ∷ Err 4 ∷ Err 4 ∷ Err 5 ∷ Err 6 ∷ Err 2 ∷ [])
unfolding find seats leaf_names is_utf8 chars encode
reasons = refl
