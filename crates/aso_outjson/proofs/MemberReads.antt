-- What is printed of a member is read as the member.
use Rattle.std.proofs.Common.{◌≡◌, ◌∙◌, ℕ, ◌+◌, Bool, true, false, List, [], ◌∷◌, map, Option, Some, None, Ok, Err, refl, sym, ap, codes}
use Rattle.std.specs.Prelude.{⊤, nat_le, option_map, slice_get}
use Rattle.std.specs.Fmt.{decimal}
use Rattle.std.specs.List.{AllByRecursion}
use Rattle.serde_json.specs.Data.{Data, Items, string}
use Rattle.serde_json.specs.Find.{as_array, get}
use Rattle.serde_json.specs.View.{items_of}
use Rattle.aso_outline.specs.declared.draft.DraftMember.{DraftMember}
use Rattle.aso_outline.specs.declared.draft.Expr.{Expr}
use Rattle.aso_outline.specs.declared.draft.Op.{Op}
use Rattle.aso_outline.specs.declared.draft.Op.TheVariants.{Plus, Minus, Times, Over, Skip}
use Rattle.aso_outline.specs.Members.{Name}
use Rattle.aso_formula.specs.Printing.{formula_text}
use Rattle.aso_rules.specs.Json.{listed}
use Rattle.aso_outjson.specs.Fields.{Found, ◌>>=◌, each, flag_in, joined, list_in, lists_in, may, need, or_default, or_fault, some, text_in, under, word_in}
use Rattle.aso_outjson.specs.Members.{member_in}
use Rattle.aso_outjson.specs.Printing.{always, formula_value, if_set, list_of, member_fields, object_of, op_value, solve_value, unless_empty}
use Rattle.aso_outjson.specs.Words.{op_of, solve_in}
use Rattle.aso_outjson.specs.declared.written.WrittenMember.{WrittenMember}
use Rattle.aso_outjson.proofs.FieldLists.{get_field}

-- ---- fields

pub bind_ok : {A B : Type 0} (found : Found A) (x : A) (f : A → Found B) → found ≡ Ok x → (found >>= f) ≡ f x
bind_ok found x f is = ap (λ r. r >>= f) is

pub need_reads : {A : Type 0} (f : Data → Found A) (name : Name) (d v : Data) (x : A) → get name d ≡ Some v → f v ≡ Ok x → need f name d ≡ Ok x
need_reads f name d v x there is = ap (λ o. under name (or_fault o >>= f)) there ∙ ap (under name) is

pub may_reads : {A : Type 0} (f : Data → Found A) (default : A) (name : Name) (d : Data) (value : Option Data) (x : A) → get name d ≡ value → or_default f default value ≡ Ok x → may f default name d ≡ Ok x
may_reads f default name d value x there is = ap (λ o. under name (or_default f default o)) there ∙ ap (under name) is

-- ---- lists

listed_items : (ds : List Data) → listed (items_of ds) ≡ ds
listed_items [] = refl
listed_items (d ∷ ds) = ap (λ es. d ∷ es) (listed_items ds)

pub list_reads : {A : Type 0} (f : Data → Found A) (ds : List Data) (xs : List A) → each f 0 ds ≡ Ok xs → list_in f (list_of ds) ≡ Ok xs
list_reads f ds xs is = ap (each f 0) (listed_items ds) ∙ is

pub list_or_none : {A : Type 0} (f : Data → Found A) (ds : List Data) (xs : List A) → each f 0 ds ≡ Ok xs → or_default (list_in f) [] (unless_empty ds) ≡ Ok xs
list_or_none f [] xs is = is
list_or_none f (d ∷ ds) xs is = list_reads f (d ∷ ds) xs is

pub lists_or_none : {A : Type 0} (f : ℕ → Data → Found (List A)) (at : ℕ) (ds : List Data) (xs : List A) → joined f 0 at ds ≡ Ok xs → or_default (lists_in f at) [] (unless_empty ds) ≡ Ok xs
lists_or_none f at [] xs is = is
lists_or_none f at (d ∷ ds) xs is = ap (joined f 0 at) (listed_items (d ∷ ds)) ∙ is

pub each_reads : {X A : Type 0} (f : Data → Found A) (value : X → Data) (part : X → A) (Fits : X → Type 0) → ((x : X) → Fits x → f (value x) ≡ Ok (part x))
    → (n : ℕ) (xs : List X) → AllByRecursion Fits xs → each f n (map value xs) ≡ Ok (map part xs)
each_reads f value part Fits reads n [] fit = refl
each_reads f value part Fits reads n (x ∷ xs) fit =
    ap (λ r. under (decimal n) r >>= λ y. each f (n + 1) (map value xs) >>= λ ys. Ok (y ∷ ys)) (reads x fit.0)
    ∙ ap (λ r. r >>= λ ys. Ok (part x ∷ ys)) (each_reads f value part Fits reads (n + 1) xs fit.1)

texts_read : (n : ℕ) (names : List Name) → each text_in n (map string names) ≡ Ok names
texts_read n [] = refl
texts_read n (name ∷ names) = ap (λ r. r >>= λ ys. Ok (name ∷ ys)) (texts_read (n + 1) names)

-- ---- values

flag_reads : (flag : Bool) → or_default flag_in false (if_set flag) ≡ Ok flag
flag_reads true = refl
flag_reads false = refl

op_reads : (op : Op) → or_default (word_in op_of) Plus (op_value op) ≡ Ok op
op_reads Plus = refl
op_reads Minus = refl
op_reads Times = refl
op_reads Over = refl
op_reads Skip = refl

-- a solve order that a field may have
abbrev pub IsOrder : Option ℕ → Type 0
IsOrder None = ⊤
IsOrder (Some n) = nat_le n 255 ≡ true

solve_reads : (solve : Option ℕ) → IsOrder solve → or_default (some solve_in) None (solve_value solve) ≡ Ok solve
solve_reads None h = refl
solve_reads (Some n) h = rw h refl

formula_reads : (formula : Option Expr) → or_default (some text_in) None (formula_value formula) ≡ Ok (option_map formula_text formula)
formula_reads None = refl
formula_reads (Some e) = refl

-- ---- a member

-- the member with its formula as a text
abbrev pub written_member : DraftMember → WrittenMember
written_member m = record {
  name = m.name;
  parent = m.parent;
  shared = m.shared;
  label_only = m.label_only;
  op = m.op;
  solve = m.solve;
  formula = option_map formula_text m.formula;
  carries = m.carries;
}

module _ (m : DraftMember) (below : List Data) where
  abbrev d : Data
  d = object_of (member_fields m below)

  name_there : get (codes "name") d ≡ Some (string m.name)
  name_there = get_field (codes "name") (member_fields m below) (always m.name) refl

  shared_there : get (codes "shared") d ≡ if_set m.shared
  shared_there = get_field (codes "shared") (member_fields m below) (if_set m.shared) refl

  label_there : get (codes "label_only") d ≡ if_set m.label_only
  label_there = get_field (codes "label_only") (member_fields m below) (if_set m.label_only) refl

  op_there : get (codes "op") d ≡ op_value m.op
  op_there = get_field (codes "op") (member_fields m below) (op_value m.op) refl

  solve_there : get (codes "solve") d ≡ solve_value m.solve
  solve_there = get_field (codes "solve") (member_fields m below) (solve_value m.solve) refl

  formula_there : get (codes "formula") d ≡ formula_value m.formula
  formula_there = get_field (codes "formula") (member_fields m below) (formula_value m.formula) refl

  carries_there : get (codes "attributes") d ≡ unless_empty (map string m.carries)
  carries_there = get_field (codes "attributes") (member_fields m below) (unless_empty (map string m.carries)) refl

  pub children_there : get (codes "children") d ≡ unless_empty below
  children_there = get_field (codes "children") (member_fields m below) (unless_empty below) refl

  pub member_reads : (parent : ℕ) → m.parent ≡ parent → IsOrder m.solve → member_in parent d ≡ Ok (written_member m)
  unfolding member_in
  member_reads parent is order =
      bind_ok _ _ _ (need_reads text_in (codes "name") d (string m.name) m.name name_there refl)
      ∙ (bind_ok _ _ _ (may_reads flag_in false (codes "shared") d (if_set m.shared) m.shared shared_there (flag_reads m.shared))
      ∙ (bind_ok _ _ _ (may_reads flag_in false (codes "label_only") d (if_set m.label_only) m.label_only label_there (flag_reads m.label_only))
      ∙ (bind_ok _ _ _ (may_reads (word_in op_of) Plus (codes "op") d (op_value m.op) m.op op_there (op_reads m.op))
      ∙ (bind_ok _ _ _ (may_reads (some solve_in) None (codes "solve") d (solve_value m.solve) m.solve solve_there (solve_reads m.solve order))
      ∙ (bind_ok _ _ _ (may_reads (some text_in) None (codes "formula") d (formula_value m.formula) (option_map formula_text m.formula) formula_there (formula_reads m.formula))
      ∙ (bind_ok _ _ _ (may_reads (list_in text_in) [] (codes "attributes") d (unless_empty (map string m.carries)) m.carries carries_there (list_or_none text_in (map string m.carries) m.carries (texts_read 0 m.carries)))
      ∙ ap (λ p. Ok (record {
        name = m.name;
        parent = p;
        shared = m.shared;
        label_only = m.label_only;
        op = m.op;
        solve = m.solve;
        formula = option_map formula_text m.formula;
        carries = m.carries;
      })) (sym is)))))))
