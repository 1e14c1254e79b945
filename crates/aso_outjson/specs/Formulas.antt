-- The formulas of a written outline: the draft that they make of it, or the first that is at fault.
use Rattle.std.specs.Prelude.{◌≡◌, ℕ, Bool, true, false, zero, suc, ◌+◌, List, [], ◌∷◌, ◌++◌, length, flat_map, Option, Some, None, nat_lt, if◌then◌else◌, ⊤}
use Rattle.std.specs.List.{AllZip}
use Rattle.aso_outline.specs.Members.{Name}
use Rattle.aso_outline.specs.declared.draft.Draft.{Draft}
use Rattle.aso_outline.specs.declared.draft.DraftAttr.{DraftAttr}
use Rattle.aso_outline.specs.declared.draft.DraftDim.{DraftDim}
use Rattle.aso_outline.specs.declared.draft.DraftHier.{DraftHier}
use Rattle.aso_outline.specs.declared.draft.DraftMember.{DraftMember}
use Rattle.aso_outline.specs.declared.draft.Expr.{Expr}
use Rattle.aso_formula.specs.Formula.{IsFormulaFault, SpellsFormula}
use Rattle.aso_outjson.specs.Words.{capped}
use Rattle.aso_outjson.specs.declared.fault.JsonFault.{JsonFault}
use Rattle.aso_outjson.specs.declared.fault.JsonFault.TheVariants.{Formula, NoMemory}
use Rattle.aso_outjson.specs.declared.written.Kind.{Kind}
use Rattle.aso_outjson.specs.declared.written.Kind.TheVariants.{Stored, Dynamic}
use Rattle.aso_outjson.specs.declared.written.Written.{Written}
use Rattle.aso_outjson.specs.declared.written.WrittenAttr.{WrittenAttr}
use Rattle.aso_outjson.specs.declared.written.WrittenDim.{WrittenDim}
use Rattle.aso_outjson.specs.declared.written.WrittenHier.{WrittenHier}
use Rattle.aso_outjson.specs.declared.written.WrittenMember.{WrittenMember}

-- ---- the draft

-- a formula for each text, which spells it
abbrev pub IsFormula : Option Name → Option Expr → Type 0
IsFormula None None = ⊤
IsFormula (Some text) (Some e) = SpellsFormula text e
IsFormula _ _ = ⊥

-- the member, with its formula for the text
abbrev pub IsMember : WrittenMember → DraftMember → Type 0
IsMember w m =
    IsFormula w.formula m.formula
    × (m ≡ record { name = w.name; parent = w.parent; shared = w.shared; label_only = w.label_only; op = w.op; solve = w.solve; formula = m.formula; carries = w.carries })

abbrev pub is_dynamic : Kind → Bool
is_dynamic Stored = false
is_dynamic Dynamic = true

abbrev pub IsHier : WrittenHier → DraftHier → Type 0
IsHier w h = AllZip IsMember w.root.members h.members × (h ≡ record { dynamic = is_dynamic w.kind; members = h.members })

abbrev pub IsDim : WrittenDim → DraftDim → Type 0
IsDim w d = AllZip IsHier w.hiers d.hiers × (d ≡ record { name = w.name; aggregate = w.aggregate; hiers = d.hiers })

abbrev pub IsAttr : WrittenAttr → DraftAttr → Type 0
IsAttr w a = AllZip IsMember w.root.members a.members × (a ≡ record { name = w.name; base = w.base; members = a.members })

abbrev pub IsDraft : Written → Draft → Type 0
IsDraft w o = AllZip IsDim w.dims o.dims × AllZip IsAttr w.attrs o.attrs × (o ≡ record { app = w.app; db = w.db; dims = o.dims; attrs = o.attrs })

-- ---- the texts, in the order of the members' numbers

abbrev pub formula_of : WrittenMember → List (Option Name)
formula_of m = m.formula ∷ []

abbrev pub hier_formulas : WrittenHier → List (Option Name)
hier_formulas h = flat_map formula_of h.root.members

abbrev pub attr_formulas : WrittenAttr → List (Option Name)
attr_formulas a = flat_map formula_of a.root.members

-- the member above several hierarchies has no formula
abbrev pub whole : List WrittenHier → List (Option Name)
whole hs = if nat_lt 1 (length hs) then None ∷ [] else []

abbrev pub dim_formulas : WrittenDim → List (Option Name)
dim_formulas d = whole d.hiers ++ flat_map hier_formulas d.hiers

abbrev pub all_formulas : Written → List (Option Name)
all_formulas w = flat_map dim_formulas w.dims ++ flat_map attr_formulas w.attrs

-- ---- the first fault

abbrev pub IsSpelled : Option Name → Type 0
IsSpelled None = ⊤
IsSpelled (Some text) = (e : Expr) × SpellsFormula text e

abbrev pub IsAtFault : Option Name → ℕ → Type 0
IsAtFault None at = ⊥
IsAtFault (Some text) at = IsFormulaFault text at

-- the text of this number is at fault at this byte, and each before it spells a formula
abbrev pub IsFirstFault : List (Option Name) → ℕ → ℕ → Type 0
IsFirstFault [] number at = ⊥
IsFirstFault (text ∷ texts) zero at = IsAtFault text at
IsFirstFault (text ∷ texts) (suc number) at = IsSpelled text × IsFirstFault texts number at

-- The first fault among these texts, of which the first has this number. What is past 32 bits is told as their greatest number.
abbrev pub IsFault : List (Option Name) → ℕ → JsonFault → Type 0
IsFault texts from (Formula member at) = (n : ℕ) × (byte : ℕ) × IsFirstFault texts n byte × (member ≡ capped (from + n)) × (at ≡ capped byte)
IsFault texts from (NoMemory e) = ⊤
IsFault texts from fault = ⊥

-- So many numbers were gone on; in 32 bits the greatest number stays.
abbrev pub IsFurther : ℕ → ℕ → ℕ → Type 0
IsFurther from count next = capped next ≡ capped (from + count)
