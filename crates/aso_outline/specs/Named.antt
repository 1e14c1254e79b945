-- What a table of names says of a draft.
use Rattle.std.specs.Prelude.{◌≡◌, ℕ, Option, Some, None}
use Rattle.std.specs.HashMap.{get_by_text}
use Rattle.std.specs.List.{position}
use Rattle.aso_tree.specs.Trees.{places_of}
use Rattle.aso_outline.specs.declared.draft.Draft.{Draft}
use Rattle.aso_outline.specs.declared.table.Named.{Named}
use Rattle.aso_outline.specs.declared.table.Named.TheVariants.{All, Repeat}
use Rattle.aso_outline.specs.declared.table.NameTable.{NameTable}
use Rattle.aso_outline.specs.declared.table.Verdict.{Verdict}
use Rattle.aso_outline.specs.declared.table.Verdict.TheVariants.{Breaks, Keeps}
use Rattle.aso_outline.specs.declared.table.Judged.{Judged}
use Rattle.aso_outline.specs.declared.table.Judged.TheVariants as judged
use Rattle.aso_outline.specs.declared.table.Ranked.{Ranked}
use Rattle.aso_outline.specs.declared.table.Ranked.TheVariants.{Right, Wrong}
use Rattle.aso_outline.specs.Graph.{AreRanks}
use Rattle.aso_outline.specs.Pairs.{pair}
use Rattle.aso_outline.specs.Members.{Name, find, seats}
use Rattle.aso_outline.specs.Rules.{least_formula, repeats, own_names}

-- each name stands for the member that has it
abbrev pub Finds : Draft → NameTable → Type 0
Finds o names = (q : Name) → get_by_text names.map q ≡ find o q

-- all names differ and are in the table, or this is the first that repeats an earlier one
abbrev pub IsNamed : Draft → Named → Type 0
IsNamed o (All names) = Finds o names × (position (repeats (own_names o)) (places_of (seats o)) ≡ None)
IsNamed o (Repeat number) = position (repeats (own_names o)) (places_of (seats o)) ≡ Some number

-- no member breaks the rule on formulas, and these are the ranks; or this is the first that does
abbrev pub IsRanked : Draft → Ranked → Type 0
IsRanked o (Right ranks) = AreRanks o ranks.items × (least_formula o ≡ None)
IsRanked o (Wrong number) = least_formula o ≡ Some number

-- the broken rule, or the ranks
abbrev pub IsJudged : Option (ℕ × ℕ) → Draft → Judged → Type 0
IsJudged rule o (judged.Breaks b) = rule ≡ Some (pair b)
IsJudged rule o (judged.Keeps ranks) = (rule ≡ None) × AreRanks o ranks.items

-- the broken rule, or the members by name and the ranks
abbrev pub IsVerdict : Option (ℕ × ℕ) → Draft → Verdict → Type 0
IsVerdict rule o (Breaks b) = rule ≡ Some (pair b)
IsVerdict rule o (Keeps names ranks) = (rule ≡ None) × Finds o names × AreRanks o ranks.items
