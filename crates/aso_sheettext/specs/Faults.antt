-- What a whole text says, and where one that says nothing is at fault.
use Rattle.std.specs.Prelude.{◌≡◌, ℕ, List, [], ◌∷◌, ◌++◌, map, length}
use Rattle.aso_sheettext.specs.Sheet.{Outline, Sheet}
use Rattle.aso_sheettext.specs.Lines.{Line, lines_of}
use Rattle.aso_sheettext.specs.Says.{SaysOutline, SaysSheet}

abbrev pub bytes_of : List Line → List (List ℕ)
bytes_of lines = map (λ line. line.bytes) lines

abbrev pub TextSaysOutline : List ℕ → Outline → Type 0
TextSaysOutline text o = SaysOutline (bytes_of (lines_of text)) o

abbrev pub TextSaysSheet : List ℕ → Sheet → Type 0
TextSaysSheet text s = SaysSheet (bytes_of (lines_of text)) s

-- with some lines behind them, or with none, these lines say something
abbrev pub Begins : {A : Type 0} → (List (List ℕ) → A → Type 0) → List (List ℕ) → Type 0
Begins {A} P lines = (more : List (List ℕ)) × (a : A) × P (lines ++ more) a

-- where the first of these lines begins, or the text's end
abbrev pub start_of : List Line → ℕ → ℕ
start_of [] end = end
start_of (line ∷ lines) end = line.at

-- behind the first lines the next one can't stand; where there is none, they say nothing by themselves
abbrev pub Ends : {A : Type 0} → (List (List ℕ) → A → Type 0) → List Line → List Line → Type 0
Ends {A} P front [] = (a : A) → P (bytes_of front) a → ⊥
Ends P front (line ∷ lines) = Begins P (bytes_of front ++ line.bytes ∷ []) → ⊥

-- The place of a fault: the first line with which the lines up to it begin nothing that can be said; where all of them begin
-- something, the text's end.
pub record IsFaultAt {A : Type 0} (P : List (List ℕ) → A → Type 0) (text : List ℕ) (at : ℕ) : Type 0 where
  pub front : List Line
  pub rest : List Line
  pub cut : lines_of text ≡ front ++ rest
  pub before : Begins P (bytes_of front)
  pub here : Ends P front rest
  pub place : at ≡ start_of rest (length text)

abbrev pub IsOutlineFault : List ℕ → ℕ → Type 0
IsOutlineFault text at = IsFaultAt SaysOutline text at

abbrev pub IsSheetFault : List ℕ → ℕ → Type 0
IsSheetFault text at = IsFaultAt SaysSheet text at
