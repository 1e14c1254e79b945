-- How records are kept: a row for each, and the leaves of all behind one another.
use Rattle.std.specs.Prelude.{◌≡◌, ℕ, ◌+◌, ◌++◌, ℤ, List, [], ◌∷◌, take, drop}
use Rattle.aso_buffer.specs.declared.row.Row.{Row}

-- the records of rows whose leaves stand behind one another
abbrev pub records_of : List Row → List ℕ → List (List ℕ × ℤ)
records_of [] leaves = []
records_of (r ∷ rows) leaves = (take r.leaves leaves, r.amount) ∷ records_of rows (drop r.leaves leaves)

-- how many leaves rows have
abbrev pub leaves_in : List Row → ℕ
leaves_in [] = 0
leaves_in (r ∷ rows) = r.leaves + leaves_in rows

-- the second list begins with the first
abbrev pub Extends : {A : Type 0} → List A → List A → Type 0
Extends {A} before after = (more : List A) × (after ≡ before ++ more)
