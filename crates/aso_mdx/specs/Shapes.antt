-- The set that a function of a member gives.
use Rattle.std.specs.Prelude.{List}
use Rattle.aso_mdx.specs.declared.query.SetText.{SetText}
use Rattle.aso_mdx.specs.declared.query.SetText.TheVariants.{Children as ChildrenOf, Members as MembersOf, Descendants as DescendantsOf, Leaves as LeavesOf}
use Rattle.aso_mdx.specs.declared.shape.Shape.{Shape}
use Rattle.aso_mdx.specs.declared.shape.Shape.TheVariants.{Children, Members, Descendants, Leaves}
use Rattle.aso_mdx.specs.Grammar.{Name}

abbrev pub shape_of : Shape → List Name → SetText
shape_of Children = ChildrenOf
shape_of Members = MembersOf
shape_of Descendants = DescendantsOf
shape_of Leaves = LeavesOf
