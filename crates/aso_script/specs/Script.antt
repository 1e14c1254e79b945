-- What a script says, and how it is written: lines, of which some add an amount to a cell.
use Rattle.std.specs.Prelude.{◌≡◌, ℕ, ◌+◌, Bool, not, ◌&&◌, ◌||◌, List, [], ◌∷◌, ◌++◌, length, IsTrue, is_ok, nat_eq, nat_lt, nat_le, ◌==◌, if◌then◌else◌, codes}
use Rattle.std.specs.List.{list_all, join_by, ends_with}
use Rattle.std.specs.Str.{is_utf8}
use Rattle.aso_num.specs.AmountText.{amount_of, parts_of}
use Rattle.aso_outline.specs.Members.{Name}
use Rattle.aso_outline.specs.Rules.{is_word}

-- an amount that is added to the cell that some members name; it is kept as it is written
pub record Addition : Type 0 where
  pub app : List ℕ
  pub db : List ℕ
  pub names : List Name
  pub amount : List ℕ

-- ---- which additions there are

-- one character or more, none of them a bracket
abbrev pub is_listed : Name → Bool
is_listed name = is_utf8 name && (nat_lt 0 (length name) && list_all (λ b. not ((b == 91) || (b == 93))) name)

-- from 1 to 64 names
abbrev pub is_list : List Name → Bool
is_list names = (nat_lt 0 (length names) && nat_le (length names) 64) && list_all is_listed names

-- an amount's text with a digit before its point, a digit behind it where it has one, and at most four decimals
abbrev pub is_amount : List ℕ → Bool
is_amount text =
    is_ok (amount_of text)
    && ((nat_lt 0 (length (parts_of text).whole) && nat_le (length (parts_of text).decimals) 4) && not (ends_with nat_eq text (46 ∷ [])))

abbrev pub is_database : List ℕ → List ℕ → Bool
is_database app db = is_word app && is_word db

abbrev pub is_addition : Addition → Bool
is_addition a = is_database a.app a.db && (is_list a.names && is_amount a.amount)

-- ---- how they are written

abbrev pub bracketed : Name → List ℕ
bracketed name = 91 ∷ name ++ 93 ∷ []

-- names in brackets, with commas between them
abbrev pub list_text : List Name → List ℕ
list_text names = join_by bracketed (44 ∷ []) names

abbrev pub database_text : List ℕ → List ℕ → List ℕ
database_text app db = app ++ 46 ∷ db

abbrev pub addition_text : Addition → List ℕ
addition_text a = codes "alter database " ++ database_text a.app a.db ++ codes " add cell (" ++ list_text a.names ++ codes ") " ++ a.amount ++ codes ";"

-- A line, with the LF at its end, is the spelling of an addition.
pub record Spells (line : List ℕ) (a : Addition) : Type 0 where
  pub whole : IsTrue (is_addition a)
  pub spelled : line ≡ addition_text a ++ 10 ∷ []

-- ---- the lines of a script

-- a byte in front of the first line, which is a line by itself where it is an LF
abbrev pub onto_line : ℕ → List (List ℕ) → List (List ℕ)
onto_line b [] = (b ∷ []) ∷ []
onto_line b (line ∷ lines) = if b == 10 then (b ∷ []) ∷ line ∷ lines else (b ∷ line) ∷ lines

-- a text as its lines, each with the LF at its end, which the last one may lack
unfoldable pub lines_of : List ℕ → List (List ℕ)
lines_of [] = []
lines_of (b ∷ bs) = onto_line b (lines_of bs)

-- a line and the byte at which it begins
pub record Line : Type 0 where
  pub at : ℕ
  pub bytes : List ℕ

abbrev pub placed : ℕ → List (List ℕ) → List Line
placed at [] = []
placed at (line ∷ lines) = record { at = at; bytes = line } ∷ placed (at + length line) lines

-- the lines, the first one line 1
unfoldable pub script_lines : List ℕ → List Line
script_lines text = placed 0 (lines_of text)
