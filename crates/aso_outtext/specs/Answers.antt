-- The outline that a text gives, or why it gives none.
use Rattle.std.specs.Prelude.{◌≡◌, ◌⊎◌, ℕ, ◌==◌, ◌||◌, Bool, true, false, List, [], ◌∷◌, Result, Some, None, Ok, Err, if◌then◌else◌, ⊤}
use Rattle.aso_outline.specs.declared.draft.Draft.{Draft}
use Rattle.aso_outline.specs.Rules.{broken}
use Rattle.aso_sheettext.specs.Sheet.{Outline as Lines}
use Rattle.aso_sheettext.specs.Faults.{IsOutlineFault, TextSaysOutline}
use Rattle.aso_outjson.specs.Answers.{IsOutline, IsRefusal as IsJsonRefusal}
use Rattle.aso_outtext.specs.declared.fault.TextFault.{TextFault}
use Rattle.aso_outtext.specs.declared.fault.TextFault.TheVariants.{Line, Refused, Json, NoMemory}
use Rattle.aso_outtext.specs.Drafts.{draft_of}

-- a space, a tab, LF or CR
abbrev pub is_blank : ℕ → Bool
is_blank b = (b == 32 || b == 9) || (b == 10 || b == 13)

-- Its first byte that isn't blank is an opening brace: then it is read as JSON, and else as the lines of a sheet.
abbrev pub is_json : List ℕ → Bool
is_json [] = false
is_json (b ∷ bs) = if is_blank b then is_json bs else b == 123

-- its lines say an outline that keeps the rules
pub record LinesGive (text : List ℕ) (o : Draft) : Type 0 where
  pub lines : Lines
  pub said : TextSaysOutline text lines
  pub draft : o ≡ draft_of lines
  pub keeps : broken o ≡ None

abbrev pub Gives : List ℕ → Draft → Type 0
Gives text o = ((is_json text ≡ true) × IsOutline text o) ⊎ ((is_json text ≡ false) × LinesGive text o)

-- its lines say an outline, and this is the first rule that it breaks, with the least member
pub record LinesBreak (text : List ℕ) (rule member : ℕ) : Type 0 where
  pub lines : Lines
  pub said : TextSaysOutline text lines
  pub breaks : broken (draft_of lines) ≡ Some (rule, member)

abbrev pub IsRefusal : List ℕ → TextFault → Type 0
IsRefusal text (Line at) = (is_json text ≡ false) × IsOutlineFault text at
IsRefusal text (Refused rule member) = (is_json text ≡ false) × LinesBreak text rule member
IsRefusal text (Json fault) = (is_json text ≡ true) × IsJsonRefusal text fault
IsRefusal text (NoMemory e) = ⊤

-- this outline, unless memory ran out
abbrev pub Reads : Result Draft TextFault → Draft → Type 0
Reads (Ok o) p = o ≡ p
Reads (Err (NoMemory e)) p = ⊤
Reads (Err fault) p = ⊥
