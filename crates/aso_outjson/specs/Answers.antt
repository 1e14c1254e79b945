-- What the reading of a text answers.
use Rattle.std.specs.Prelude.{◌≡◌, ℕ, List, Result, Some, None, Ok, Err, string_bytes, ⊤}
use Rattle.serde_json.specs.Data.{Data}
use Rattle.aso_outline.specs.declared.draft.Draft.{Draft}
use Rattle.aso_outline.specs.Rules.{broken}
use Rattle.aso_rules.specs.Answers.{IsJson}
use Rattle.aso_outjson.specs.Fields.{Found, Path}
use Rattle.aso_outjson.specs.Pointer.{pointer}
use Rattle.aso_outjson.specs.Objects.{outline_in}
use Rattle.aso_outjson.specs.Formulas.{IsDraft, IsFault, all_formulas}
use Rattle.aso_outjson.specs.declared.written.Written.{Written}
use Rattle.aso_outjson.specs.declared.fault.JsonFault.{JsonFault}
use Rattle.aso_outjson.specs.declared.fault.JsonFault.TheVariants.{NotJson, Field, Formula, Refused, NoMemory}

-- the text is JSON that writes this outline, the formulas as texts
abbrev pub IsWritten : List ℕ → Written → Type 0
IsWritten text w = (d : Data) × IsJson text d × (outline_in d ≡ Ok w)

-- the text is JSON that writes the draft
abbrev pub Writes : List ℕ → Draft → Type 0
Writes text o = (w : Written) × IsWritten text w × IsDraft w o

-- the text writes this draft, which keeps the rules
abbrev pub IsOutline : List ℕ → Draft → Type 0
IsOutline text o = Writes text o × (broken o ≡ None)

-- why a text gives no outline
abbrev pub IsRefusal : List ℕ → JsonFault → Type 0
IsRefusal text NotJson = (d : Data) → IsJson text d → ⊥
IsRefusal text (Field path) = (d : Data) × (place : Path) × IsJson text d × (outline_in d ≡ Err place) × (string_bytes path ≡ pointer place)
IsRefusal text (Formula member at) = (w : Written) × IsWritten text w × IsFault (all_formulas w) 0 (Formula member at)
IsRefusal text (Refused rule member) = (o : Draft) × Writes text o × (broken o ≡ Some (rule, member))
IsRefusal text (NoMemory e) = ⊤

-- this outline, unless memory ran out
abbrev pub Reads : Result Draft JsonFault → Draft → Type 0
Reads (Ok o) p = o ≡ p
Reads (Err (NoMemory e)) p = ⊤
Reads (Err fault) p = ⊥

-- ---- the parts of a refusal: of the text, of its value, and of its draft

abbrev pub IsNoJson : List ℕ → JsonFault → Type 0
IsNoJson text NotJson = (d : Data) → IsJson text d → ⊥
IsNoJson text (NoMemory e) = ⊤
IsNoJson text fault = ⊥

abbrev pub IsFieldFault : Found Written → JsonFault → Type 0
IsFieldFault found (Field path) = (place : Path) × (found ≡ Err place) × (string_bytes path ≡ pointer place)
IsFieldFault found (NoMemory e) = ⊤
IsFieldFault found fault = ⊥

abbrev pub IsBroken : Draft → JsonFault → Type 0
IsBroken o (Refused rule member) = broken o ≡ Some (rule, member)
IsBroken o (NoMemory e) = ⊤
IsBroken o fault = ⊥
