-- Which parts in which order are an outline and a sheet, and what lines say.
use Rattle.std.specs.Prelude.{◌≡◌, ℕ, ◌+◌, ◌≤◌, List, [], ◌∷◌, ◌++◌, map, ◌⊎◌, codes}
use Rattle.aso_sheettext.specs.Sheet.{Member, Outline, Sheet, Part, Database, OneMember, OneCell, Columns, Rows}
use Rattle.aso_sheettext.specs.Written.{AreLines}

-- Each member is at most one deeper than the one before it. `most` bounds the first.
abbrev pub AreNested : ℕ → List Member → Type 0
AreNested most [] = Unit {0}
AreNested most (m ∷ ms) = (m.depth ≤ most) × AreNested (m.depth + 1) ms

-- the database may be left out where it is Sample.Basic
abbrev pub MakeOutline : List Part → Outline → Type 0
MakeOutline ps o =
    AreNested 0 o.members
    × ((ps ≡ Database o.app o.db ∷ map OneMember o.members) ⊎ ((o.app ≡ codes "Sample") × (o.db ≡ codes "Basic") × (ps ≡ map OneMember o.members)))

-- the outline, the cells and then the two axes
abbrev pub MakeSheet : List Part → Sheet → Type 0
MakeSheet ps s = (os : List Part) × MakeOutline os s.outline × (ps ≡ os ++ (map OneCell s.cells ++ Columns s.columns ∷ Rows s.rows ∷ []))

-- the lines are those of parts that make it
abbrev pub Says : {A : Type 0} → (List Part → A → Type 0) → List (List ℕ) → A → Type 0
Says Make lines a = (ps : List Part) × Make ps a × AreLines ps lines

abbrev pub SaysOutline : List (List ℕ) → Outline → Type 0
SaysOutline = Says MakeOutline

abbrev pub SaysSheet : List (List ℕ) → Sheet → Type 0
SaysSheet = Says MakeSheet
