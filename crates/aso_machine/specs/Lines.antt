-- What a line of a script says: an addition, a query, or neither.
use Rattle.std.specs.Prelude.{◌≡◌, ◌⊎◌, ℕ, ◌-◌, ◌≤◌, ◌<◌, Bool, true, false, ◌||◌, List, [], ◌∷◌, length, take, nat_eq, if◌then◌else◌, codes}
use Rattle.std.specs.List.{ends_with}
use Rattle.std.specs.Str.{is_utf8, str_eq_ignore_ascii_case}
use Rattle.aso_script.specs.Script.{Addition, Spells}
use Rattle.aso_mdx.specs.declared.query.Query.{Query}
use Rattle.aso_mdx.specs.Grammar.{IsQueryFault, SpellsQuery}

pub data Reading : Type 0 where
  -- an amount is added to a cell
  Adds : (addition : Addition) → Reading
  -- a grid is asked
  Asks : (query : Query) → Reading
  -- neither; the line is at fault at this byte of it
  Faulty : (at : ℕ) → Reading

-- ---- lines of queries

-- its first bytes are this word, in letters of any case
abbrev pub begins : List ℕ → List ℕ → Bool
begins word line = str_eq_ignore_ascii_case (take (length word) line) word

abbrev pub is_of_query : List ℕ → Bool
is_of_query line = begins (codes "select") line || begins (codes "with") line

-- it ends with a semicolon and LF
abbrev pub is_ended : List ℕ → Bool
is_ended line = ends_with nat_eq line (codes ";\n")

-- how many bytes at its end are no part of the query's text: the semicolon and LF, or LF alone
abbrev pub end_len : List ℕ → ℕ
end_len line = if is_ended line then 2 else (if ends_with nat_eq line (10 ∷ []) then 1 else 0)

abbrev pub query_text : List ℕ → List ℕ
query_text line = take (length line - end_len line) line

-- so many bytes are the longest front that is UTF-8
pub record IsLongestFront (text : List ℕ) (n : ℕ) : Type 0 where
  pub within : n ≤ length text
  pub utf8 : is_utf8 (take n text) ≡ true
  pub longest : (m : ℕ) → n < m → m ≤ length text → is_utf8 (take m text) ≡ false

-- Where the text stops being that of a query: where its longest UTF-8 front is at fault, or behind it where the front is a query's.
pub record StopsAt (text : List ℕ) (at : ℕ) : Type 0 where
  pub n : ℕ
  pub front : IsLongestFront text n
  pub here : IsQueryFault (take n text) at ⊎ ((q : Query) × SpellsQuery (take n text) q × (at ≡ n))

-- the line is a query's whole text, a semicolon and LF
pub record IsQueryLine (line : List ℕ) (q : Query) : Type 0 where
  pub of : is_of_query line ≡ true
  pub ended : is_ended line ≡ true
  pub utf8 : is_utf8 (query_text line) ≡ true
  pub spelled : SpellsQuery (query_text line) q

-- ---- readings

-- A line of a query is at fault where its text stops being that of one, and any other at its first byte.
abbrev pub IsFaultyAt : List ℕ → ℕ → Type 0
IsFaultyAt line at = ((is_of_query line ≡ true) × StopsAt (query_text line) at) ⊎ ((is_of_query line ≡ false) × (at ≡ 0))

-- what the line says
abbrev pub IsRead : List ℕ → Reading → Type 0
IsRead line (Adds a) = Spells line a
IsRead line (Asks q) = IsQueryLine line q
IsRead line (Faulty at) = ((a : Addition) → Spells line a → ⊥) × (((q : Query) → IsQueryLine line q → ⊥) × IsFaultyAt line at)
