-- The names of fields, and the words and numbers that a field may have.
use Rattle.std.specs.Prelude.{ℕ, ◌||◌, ◌^◌, ◌-◌, min, nat_le, Bool, Option, Some, None, option_and_then, if◌then◌else◌, codes}
use Rattle.serde_json.specs.Data.{Data}
use Rattle.serde_json.specs.Find.{as_number, as_u64}
use Rattle.aso_outline.specs.Members.{Name, same_name}
use Rattle.aso_outline.specs.declared.draft.Op.{Op}
use Rattle.aso_outline.specs.declared.draft.Op.TheVariants.{Plus, Minus, Times, Over, Skip}
use Rattle.aso_outline.specs.declared.draft.Aggregate.{Aggregate}
use Rattle.aso_outline.specs.declared.draft.Aggregate.TheVariants.{All, Top, Bottom}
use Rattle.aso_outjson.specs.Fields.{Found, or_fault}
use Rattle.aso_outjson.specs.declared.written.Kind.{Kind}
use Rattle.aso_outjson.specs.declared.written.Kind.TheVariants.{Stored, Dynamic}
use Rattle.aso_outjson.specs.declared.object.Object.{Object}
use Rattle.aso_outjson.specs.declared.object.Object.TheVariants as object

abbrev pub is_field : Object → Name → Bool
is_field object.Outline k = same_name k (codes "app") || same_name k (codes "db") || same_name k (codes "dimensions") || same_name k (codes "attributes")
is_field object.Dimension k = same_name k (codes "name") || same_name k (codes "aggregate") || same_name k (codes "hierarchies")
is_field object.Hierarchy k = same_name k (codes "kind") || same_name k (codes "root")
is_field object.Attribute k = same_name k (codes "name") || same_name k (codes "base") || same_name k (codes "root")
is_field object.Member k =
    same_name k (codes "name") || same_name k (codes "shared") || same_name k (codes "label_only") || same_name k (codes "op") || same_name k (codes "solve")
    || same_name k (codes "formula") || same_name k (codes "attributes") || same_name k (codes "children")

abbrev pub aggregate_of : Name → Option Aggregate
aggregate_of word =
    if same_name word (codes "all") then Some All
    else (if same_name word (codes "top") then Some Top
    else (if same_name word (codes "none") then Some Bottom else None))

abbrev pub kind_of : Name → Option Kind
kind_of word = if same_name word (codes "stored") then Some Stored else (if same_name word (codes "dynamic") then Some Dynamic else None)

abbrev pub op_of : Name → Option Op
op_of word =
    if same_name word (codes "+") then Some Plus
    else (if same_name word (codes "-") then Some Minus
    else (if same_name word (codes "*") then Some Times
    else (if same_name word (codes "/") then Some Over
    else (if same_name word (codes "~") then Some Skip else None))))

abbrev pub up_to_255 : ℕ → Option ℕ
up_to_255 n = if nat_le n 255 then Some n else None

-- a whole number from 0 to 255
abbrev pub solve_in : Data → Found ℕ
solve_in d = or_fault (option_and_then up_to_255 (option_and_then as_u64 (as_number d)))

-- a number in 32 bits, which hold none past the greatest
abbrev pub capped : ℕ → ℕ
capped n = min n (2 ^ 32 - 1)
