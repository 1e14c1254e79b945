-- The printed form, computed on two dimensions of the Basic outline, its attribute dimension, and a member that has every field.
use Rattle.std.proofs.Common.{◌≡◌, ℕ, List, [], ◌∷◌, true, false, refl, codes, Some}
use Rattle.serde_json.specs.Data.{Data, boolean, number, string, array, object, unsigned, item, no_items, member, no_members}
use Rattle.serde_json.specs.Written.{compact_text}
use Rattle.serde_json.proofs.OnLiterals.{serde_json_on_literals}
use Rattle.aso_outline.specs.declared.draft.DraftMember.{DraftMember}
use Rattle.aso_outline.specs.declared.draft.Op.TheVariants.{Minus}
use Rattle.aso_outline.proofs.Basic.{cell, market, size, year}
use Rattle.aso_formula.specs.Printing.{formula_text}
use Rattle.aso_outjson.specs.Pointer.{put_for}
use Rattle.aso_outjson.specs.Printing.{attr_value, dim_value, member_fields, member_value, object_of}

-- the text, with ' for each quote
abbrev shown : Data → List ℕ
shown d = put_for 34 (codes "'") (compact_text d)

year_is_printed : shown (dim_value year) ≡ codes "{'hierarchies':[{'kind':'stored','root':{'children':[{'name':'Jan'},{'name':'Feb'}],'name':'Year'}}],'name':'Year'}"
unfolding serde_json_on_literals member_value
year_is_printed = refl

market_is_printed : shown (dim_value market) ≡ codes "{'hierarchies':[{'kind':'stored','root':{'children':[{'children':[{'attributes':['Large'],'name':'NY'},{'attributes':['Small'],'name':'MA'}],'name':'East'},{'attributes':['Small'],'name':'CA'}],'name':'Total'}},{'kind':'stored','root':{'children':[{'name':'NY','shared':true},{'name':'CA','shared':true}],'name':'Big'}},{'kind':'dynamic','root':{'children':[{'name':'NY','shared':true},{'name':'CA','shared':true}],'name':'Sum'}}],'name':'Market'}"
unfolding serde_json_on_literals member_value
market_is_printed = refl

size_is_printed : shown (attr_value size) ≡ codes "{'base':'Market','name':'Size','root':{'children':[{'name':'Large'},{'name':'Small'}],'name':'Size'}}"
unfolding serde_json_on_literals member_value
size_is_printed = refl

abbrev every : DraftMember
every = record { name = codes "F"; parent = 0; shared = true; label_only = true; op = Minus; solve = Some 7; formula = Some (cell (codes "x")); carries = codes "Big" ∷ [] }

every_field_is_there : object_of (member_fields every (string (codes "below") ∷ [])) ≡ object (
    member (codes "attributes") (array (item (string (codes "Big")) no_items))
    (member (codes "children") (array (item (string (codes "below")) no_items))
    (member (codes "formula") (string (formula_text (cell (codes "x"))))
    (member (codes "label_only") (boolean true)
    (member (codes "name") (string (codes "F"))
    (member (codes "op") (string (codes "-"))
    (member (codes "shared") (boolean true)
    (member (codes "solve") (number (unsigned 7)) no_members))))))))
every_field_is_there = refl
