-- The outline that a JSON value writes, or the place of its first fault: each object by its fields in their order, and then
-- whatever else it has.
use Rattle.std.specs.Prelude.{[], Ok, codes}
use Rattle.serde_json.specs.Data.{Data}
use Rattle.aso_outline.specs.declared.draft.Aggregate.TheVariants.{All}
use Rattle.aso_outjson.specs.Fields.{Found, ◌>>=◌, list_in, may, need, no_others, object_in, text_in, word_in}
use Rattle.aso_outjson.specs.Words.{aggregate_of, kind_of, is_field}
use Rattle.aso_outjson.specs.Members.{tree_in}
use Rattle.aso_outjson.specs.declared.object.Object.TheVariants.{Outline, Dimension, Hierarchy, Attribute}
use Rattle.aso_outjson.specs.declared.written.Written.{Written}
use Rattle.aso_outjson.specs.declared.written.WrittenAttr.{WrittenAttr}
use Rattle.aso_outjson.specs.declared.written.WrittenDim.{WrittenDim}
use Rattle.aso_outjson.specs.declared.written.WrittenHier.{WrittenHier}

unfoldable pub hier_in : Data → Found WrittenHier
hier_in d = do
  _ ← object_in d
  kind ← need (word_in kind_of) (codes "kind") d
  root ← need tree_in (codes "root") d
  _ ← no_others (is_field Hierarchy) d
  Ok (record { kind = kind; root = root })

unfoldable pub dim_in : Data → Found WrittenDim
dim_in d = do
  _ ← object_in d
  name ← need text_in (codes "name") d
  aggregate ← may (word_in aggregate_of) All (codes "aggregate") d
  hiers ← need (list_in hier_in) (codes "hierarchies") d
  _ ← no_others (is_field Dimension) d
  Ok (record { name = name; aggregate = aggregate; hiers = hiers })

unfoldable pub attr_in : Data → Found WrittenAttr
attr_in d = do
  _ ← object_in d
  name ← need text_in (codes "name") d
  base ← need text_in (codes "base") d
  root ← need tree_in (codes "root") d
  _ ← no_others (is_field Attribute) d
  Ok (record { name = name; base = base; root = root })

unfoldable pub outline_in : Data → Found Written
outline_in d = do
  _ ← object_in d
  app ← need text_in (codes "app") d
  db ← need text_in (codes "db") d
  dims ← need (list_in dim_in) (codes "dimensions") d
  attrs ← may (list_in attr_in) [] (codes "attributes") d
  _ ← no_others (is_field Outline) d
  Ok (record { app = app; db = db; dims = dims; attrs = attrs })
