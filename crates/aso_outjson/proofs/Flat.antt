-- What is printed has no float, and nests less deep than JSON may.
use Rattle.std.proofs.Common.{◌≡◌, ◌∙◌, ℕ, zero, suc, ◌+◌, ◌*◌, ◌≤◌, Bool, true, false, List, [], ◌∷◌, map, Option, Some, None, refl, arith}
use Rattle.std.specs.Prelude.{⊤, option_map, slice_get, unwrap_or}
use Rattle.std.specs.List.{AllByRecursion}
use Rattle.serde_json.specs.Data.{Data, null, string, items_depth}
use Rattle.serde_json.specs.View.{items_of}
use Rattle.serde_json.specs.Written.{has_float, items_have_float}
use Rattle.aso_outline.specs.declared.draft.Aggregate.{Aggregate}
use Rattle.aso_outline.specs.declared.draft.Aggregate.TheVariants.{All, Top, Bottom}
use Rattle.aso_outline.specs.declared.draft.Draft.{Draft}
use Rattle.aso_outline.specs.declared.draft.DraftAttr.{DraftAttr}
use Rattle.aso_outline.specs.declared.draft.DraftDim.{DraftDim}
use Rattle.aso_outline.specs.declared.draft.DraftHier.{DraftHier}
use Rattle.aso_outline.specs.declared.draft.DraftMember.{DraftMember}
use Rattle.aso_outline.specs.declared.draft.Expr.{Expr}
use Rattle.aso_outline.specs.declared.draft.Op.{Op}
use Rattle.aso_outline.specs.declared.draft.Op.TheVariants.{Plus, Minus, Times, Over, Skip}
use Rattle.aso_outline.specs.Members.{Name}
use Rattle.aso_outjson.specs.Printing.{aggregate_value, always, attr_fields, attr_value, children_of, dim_fields, dim_value, formula_value, hier_fields, hier_value, if_set, kind_value, list_of, member_fields, member_value, object_of, op_value, outline_fields, outline_value, root_value, solve_value, unless_empty}
use Rattle.aso_outjson.proofs.FieldLists.{IsFlat, IsFlatIf, flat_object, or_false}

-- ---- lists

flat_items : (n : ℕ) (ds : List Data) → AllByRecursion (IsFlat n) ds → (items_have_float (items_of ds) ≡ false) × (items_depth (items_of ds) ≤ n)
flat_items n [] all = (refl, omega arith)
flat_items n (d ∷ ds) all =
    let rest = flat_items n ds all.1 in (or_false (has_float d) (items_have_float (items_of ds)) all.0.0 rest.0, omega (arith, all.0.1, rest.1))

flat_list : (n : ℕ) (ds : List Data) → AllByRecursion (IsFlat n) ds → IsFlat (suc n) (list_of ds)
flat_list n ds all = let items = flat_items n ds all in (items.0, omega (arith, items.1))

flat_unless_empty : (n : ℕ) (ds : List Data) → AllByRecursion (IsFlat n) ds → IsFlatIf (suc n) (unless_empty ds)
flat_unless_empty n [] all = tt
flat_unless_empty n (d ∷ ds) all = flat_list n (d ∷ ds) all

flat_map_of : {X : Type 0} (n : ℕ) (value : X → Data) → ((x : X) → IsFlat n (value x)) → (xs : List X) → AllByRecursion (IsFlat n) (map value xs)
flat_map_of n value flat [] = tt
flat_map_of n value flat (x ∷ xs) = (flat x, flat_map_of n value flat xs)

-- ---- values of fields

flat_text : (n : ℕ) (text : Name) → IsFlat n (string text)
flat_text n text = (refl, omega arith)

flat_flag : (n : ℕ) (flag : Bool) → IsFlatIf n (if_set flag)
flat_flag n true = (refl, omega arith)
flat_flag n false = tt

flat_op : (n : ℕ) (op : Op) → IsFlatIf n (op_value op)
flat_op n Plus = tt
flat_op n Minus = (refl, omega arith)
flat_op n Times = (refl, omega arith)
flat_op n Over = (refl, omega arith)
flat_op n Skip = (refl, omega arith)

flat_solve : (n : ℕ) (solve : Option ℕ) → IsFlatIf n (solve_value solve)
flat_solve n None = tt
flat_solve n (Some order) = (refl, omega arith)

flat_formula : (n : ℕ) (formula : Option Expr) → IsFlatIf n (formula_value formula)
flat_formula n None = tt
flat_formula n (Some e) = (refl, omega arith)

flat_aggregate : (n : ℕ) (aggregate : Aggregate) → IsFlatIf n (aggregate_value aggregate)
flat_aggregate n All = tt
flat_aggregate n Top = (refl, omega arith)
flat_aggregate n Bottom = (refl, omega arith)

flat_kind : (n : ℕ) (dynamic : Bool) → IsFlat n (kind_value dynamic)
flat_kind n dynamic = (refl, omega arith)

-- ---- objects

flat_member : (n : ℕ) (m : DraftMember) (below : List Data) → AllByRecursion (IsFlat n) below → IsFlat (suc (suc n)) (object_of (member_fields m below))
flat_member n m below all = flat_object (suc n) (member_fields m below) (
  flat_unless_empty n (map string m.carries) (flat_map_of n string (flat_text n) m.carries),
  (flat_unless_empty n below all, (flat_formula (suc n) m.formula, (flat_flag (suc n) m.label_only, (flat_text (suc n) m.name, (flat_op (suc n) m.op, (flat_flag (suc n) m.shared, (flat_solve (suc n) m.solve, tt))))))),
)

abbrev levels : ℕ → ℕ
levels zero = 0
levels (suc n) = suc (suc (levels n))

flat_found : (n : ℕ) (below : List Data) (found : Option DraftMember) → AllByRecursion (IsFlat n) below → IsFlat (suc (suc n)) (unwrap_or (option_map (λ m. object_of (member_fields m below)) found) null)
flat_found n below None all = (refl, omega arith)
flat_found n below (Some m) all = flat_member n m below all

flat_node : (n : ℕ) (ms : List DraftMember) (at : ℕ) → IsFlat (levels n) (member_value n ms at)
unfolding member_value
flat_node zero ms at = (refl, omega arith)
flat_node (suc n) ms at = flat_found (levels n) (map (member_value n ms) (children_of ms at)) (slice_get ms at) (flat_map_of (levels n) (member_value n ms) (flat_node n ms) (children_of ms at))

flat_root : (ms : List DraftMember) → IsFlat 64 (root_value ms)
flat_root ms = flat_node 32 ms 0

flat_hier : (h : DraftHier) → IsFlat 65 (hier_value h)
flat_hier h = flat_object 64 (hier_fields h) (flat_kind 64 h.dynamic, (flat_root h.members, tt))

flat_dim : (d : DraftDim) → IsFlat 67 (dim_value d)
flat_dim d = flat_object 66 (dim_fields d) (flat_aggregate 66 d.aggregate, (flat_list 65 (map hier_value d.hiers) (flat_map_of 65 hier_value flat_hier d.hiers), (flat_text 66 d.name, tt)))

flat_attr : (a : DraftAttr) → IsFlat 67 (attr_value a)
flat_attr a = let flat = flat_object 64 (attr_fields a) (flat_text 64 a.base, (flat_text 64 a.name, (flat_root a.members, tt))) in (flat.0, omega (arith, flat.1))

pub flat_outline : (o : Draft) → IsFlat 69 (outline_value o)
flat_outline o = flat_object 68 (outline_fields o) (
  flat_text 68 o.app,
  (flat_unless_empty 67 (map attr_value o.attrs) (flat_map_of 67 attr_value flat_attr o.attrs), (flat_text 68 o.db, (flat_list 67 (map dim_value o.dims) (flat_map_of 67 dim_value flat_dim o.dims), tt))),
)
