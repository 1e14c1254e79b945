-- A member with those below it, which a JSON value writes.
use Rattle.std.specs.Prelude.{ℕ, zero, suc, ◌+◌, ◌-◌, ◌^◌, false, List, [], ◌∷◌, None, Ok, Err, codes}
use Rattle.serde_json.specs.Data.{Data}
use Rattle.aso_outline.specs.declared.draft.Op.TheVariants.{Plus}
use Rattle.aso_outjson.specs.Fields.{Found, ◌>>=◌, flag_in, list_in, lists_in, may, need, no_others, object_in, some, text_in, word_in}
use Rattle.aso_outjson.specs.Words.{capped, is_field, op_of, solve_in}
use Rattle.aso_outjson.specs.declared.object.Object.TheVariants.{Member}
use Rattle.aso_outjson.specs.declared.written.WrittenMember.{WrittenMember}
use Rattle.aso_outjson.specs.declared.written.WrittenTree.{WrittenTree}

-- a member, but for its children and what else its object has
unfoldable pub member_in : ℕ → Data → Found WrittenMember
member_in parent d = do
  _ ← object_in d
  name ← need text_in (codes "name") d
  shared ← may flag_in false (codes "shared") d
  label_only ← may flag_in false (codes "label_only") d
  op ← may (word_in op_of) Plus (codes "op") d
  solve ← may (some solve_in) None (codes "solve") d
  formula ← may (some text_in) None (codes "formula") d
  carries ← may (list_in text_in) [] (codes "attributes") d
  Ok (record { name = name; parent = parent; shared = shared; label_only = label_only; op = op; solve = solve; formula = formula; carries = carries })

-- A member at this place of its tree, before those below it, of which at most so many stand one below another. A parent is
-- its place in the tree.
unfoldable pub tree_at : ℕ → ℕ → ℕ → Data → Found (List WrittenMember)
tree_at zero parent at d = Err []
tree_at (suc n) parent at d = do
  m ← member_in parent d
  below ← may (lists_in (tree_at n (capped at)) (at + 1)) [] (codes "children") d
  _ ← no_others (is_field Member) d
  Ok (m ∷ below)

-- A tree, whose root has the greatest number for a parent. No text nests deeper than 127 objects and lists.
unfoldable pub tree_in : Data → Found WrittenTree
tree_in d = do
  ms ← tree_at 127 (2 ^ 32 - 1) 0 d
  Ok (record { members = ms })
