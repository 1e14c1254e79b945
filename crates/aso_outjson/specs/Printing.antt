-- The JSON value of an outline, and its text. Each object has its fields in the order of their names' bytes, but for those that
-- have the default.
use Rattle.std.specs.Prelude.{◌≡◌, ◌<◌, ◌^◌, ℕ, zero, suc, ◌==◌, Bool, true, false, List, [], ◌∷◌, length, map, Option, Some, None, option_map, slice_get, slice_index, unwrap_or, if◌then◌else◌, codes, ⊤}
use Rattle.std.specs.List.{filter, AllByRecursion}
use Rattle.serde_json.specs.Data.{Data, null, boolean, number, string, array, object, unsigned, Members, no_members, member, put}
use Rattle.serde_json.specs.View.{items_of}
use Rattle.serde_json.specs.Written.{compact_text}
use Rattle.aso_tree.specs.Trees.{places_of, IsTree}
use Rattle.aso_outline.specs.Members.{Name, parents_of}
use Rattle.aso_outline.specs.declared.draft.Aggregate.{Aggregate}
use Rattle.aso_outline.specs.declared.draft.Aggregate.TheVariants.{All, Top, Bottom}
use Rattle.aso_outline.specs.declared.draft.Draft.{Draft}
use Rattle.aso_outline.specs.declared.draft.DraftAttr.{DraftAttr}
use Rattle.aso_outline.specs.declared.draft.DraftDim.{DraftDim}
use Rattle.aso_outline.specs.declared.draft.DraftHier.{DraftHier}
use Rattle.aso_outline.specs.declared.draft.DraftMember.{DraftMember}
use Rattle.aso_outline.specs.declared.draft.Expr.{Expr}
use Rattle.aso_outline.specs.declared.draft.Op.{Op}
use Rattle.aso_outline.specs.declared.draft.Op.TheVariants.{Plus, Minus, Times, Over, Skip}
use Rattle.aso_formula.specs.Formula.{SpellsFormula}
use Rattle.aso_formula.specs.Printing.{formula_text}

-- ---- fields

-- a field by its name: its value, or nothing where it is left out
abbrev pub Field : Type 0
Field = Name × Option Data

abbrev pub with_field : Name → Option Data → Members → Members
with_field name None ms = ms
with_field name (Some d) ms = member name d ms

abbrev pub fields_of : List Field → Members
fields_of [] = no_members
fields_of (f ∷ fs) = with_field f.0 f.1 (fields_of fs)

abbrev pub object_of : List Field → Data
object_of fs = object (fields_of fs)

-- ---- values

abbrev pub list_of : List Data → Data
list_of ds = array (items_of ds)

-- a text that is always there
abbrev pub always : Name → Option Data
always text = Some (string text)

-- left out where it is false
abbrev pub if_set : Bool → Option Data
if_set flag = if flag then Some (boolean true) else None

-- left out where it is empty
abbrev pub unless_empty : List Data → Option Data
unless_empty [] = None
unless_empty (d ∷ ds) = Some (list_of (d ∷ ds))

-- left out where it is +
abbrev pub op_value : Op → Option Data
op_value Plus = None
op_value Minus = Some (string (codes "-"))
op_value Times = Some (string (codes "*"))
op_value Over = Some (string (codes "/"))
op_value Skip = Some (string (codes "~"))

abbrev pub solve_value : Option ℕ → Option Data
solve_value solve = option_map (λ n. number (unsigned n)) solve

abbrev pub formula_value : Option Expr → Option Data
formula_value formula = option_map (λ e. string (formula_text e)) formula

-- left out where all levels are offered
abbrev pub aggregate_value : Aggregate → Option Data
aggregate_value All = None
aggregate_value Top = Some (string (codes "top"))
aggregate_value Bottom = Some (string (codes "none"))

abbrev pub kind_value : Bool → Data
kind_value dynamic = string (if dynamic then codes "dynamic" else codes "stored")

-- ---- objects

-- a member, with the values of those below it
abbrev pub member_fields : DraftMember → List Data → List Field
member_fields m below =
    (codes "attributes", unless_empty (map string m.carries))
    ∷ (codes "children", unless_empty below)
    ∷ (codes "formula", formula_value m.formula)
    ∷ (codes "label_only", if_set m.label_only)
    ∷ (codes "name", always m.name)
    ∷ (codes "op", op_value m.op)
    ∷ (codes "shared", if_set m.shared)
    ∷ (codes "solve", solve_value m.solve) ∷ []

-- the members whose parent stands at this place of their tree
abbrev pub children_of : List DraftMember → ℕ → List ℕ
children_of ms at = filter (λ j. slice_index (parents_of ms) j == at) (places_of ms)

-- the member at a place of its tree, with those that stand below it in so many levels with its own
unfoldable pub member_value : ℕ → List DraftMember → ℕ → Data
member_value zero ms at = null
member_value (suc n) ms at =
    unwrap_or (option_map (λ m. object_of (member_fields m (map (member_value n ms) (children_of ms at)))) (slice_get ms at)) null

-- the root of a tree, below which no member stands deeper than 31 levels
abbrev pub root_value : List DraftMember → Data
root_value ms = member_value 32 ms 0

abbrev pub hier_fields : DraftHier → List Field
hier_fields h = (codes "kind", Some (kind_value h.dynamic)) ∷ (codes "root", Some (root_value h.members)) ∷ []

abbrev pub hier_value : DraftHier → Data
hier_value h = object_of (hier_fields h)

abbrev pub dim_fields : DraftDim → List Field
dim_fields d =
    (codes "aggregate", aggregate_value d.aggregate)
    ∷ (codes "hierarchies", Some (list_of (map hier_value d.hiers)))
    ∷ (codes "name", always d.name) ∷ []

abbrev pub dim_value : DraftDim → Data
dim_value d = object_of (dim_fields d)

abbrev pub attr_fields : DraftAttr → List Field
attr_fields a = (codes "base", always a.base) ∷ (codes "name", always a.name) ∷ (codes "root", Some (root_value a.members)) ∷ []

abbrev pub attr_value : DraftAttr → Data
attr_value a = object_of (attr_fields a)

abbrev pub outline_fields : Draft → List Field
outline_fields o =
    (codes "app", always o.app)
    ∷ (codes "attributes", unless_empty (map attr_value o.attrs))
    ∷ (codes "db", always o.db)
    ∷ (codes "dimensions", Some (list_of (map dim_value o.dims))) ∷ []

abbrev pub outline_value : Draft → Data
outline_value o = object_of (outline_fields o)

-- the text, with no space between its parts
abbrev pub outline_text : Draft → List ℕ
outline_text o = compact_text (outline_value o)

-- a value is put at a name, where there is one
abbrev pub with_put : Name → Option Data → Members → Members
with_put name None ms = ms
with_put name (Some d) ms = put name d ms

-- ---- trees of an outline

-- a tree in preorder, not too deep and not too long, with a root
pub record IsSound (ms : List DraftMember) : Type 0 where
  pub tree : IsTree (parents_of ms)
  pub short : length ms < 2 ^ 32
  pub some : 0 < length ms

abbrev pub AreSoundHiers : List DraftHier → Type 0
AreSoundHiers hs = (k : ℕ) (h : DraftHier) → slice_get hs k ≡ Some h → IsSound h.members

abbrev pub AreSoundDims : List DraftDim → Type 0
AreSoundDims ds = (k : ℕ) (d : DraftDim) → slice_get ds k ≡ Some d → AreSoundHiers d.hiers

abbrev pub AreSoundAttrs : List DraftAttr → Type 0
AreSoundAttrs bs = (k : ℕ) (a : DraftAttr) → slice_get bs k ≡ Some a → IsSound a.members

-- ---- formulas that a text spells

abbrev pub IsSpelled : Option Expr → Type 0
IsSpelled None = ⊤
IsSpelled (Some e) = (text : List ℕ) × SpellsFormula text e

abbrev pub AreSpelledIn : List DraftMember → Type 0
AreSpelledIn ms = AllByRecursion (λ (m : DraftMember). IsSpelled m.formula) ms

-- each formula of the outline is one that some text spells
abbrev pub AreSpelled : Draft → Type 0
AreSpelled o =
    AllByRecursion (λ (d : DraftDim). AllByRecursion (λ (h : DraftHier). AreSpelledIn h.members) d.hiers) o.dims
    × AllByRecursion (λ (a : DraftAttr). AreSpelledIn a.members) o.attrs
