-- What the definitions give on the Basic outline.
use Rattle.std.proofs.Common.{◌≡◌, ℕ, List, [], ◌∷◌, refl, codes, Some, None}
use Rattle.aso_outline.specs.declared.draft.Expr.TheBlock.{hidden-the_row-Expr-0}
use Rattle.aso_outline.specs.declared.seat.DimRef.{DimRef}
use Rattle.aso_outline.specs.declared.seat.DimRef.TheVariants.{Base, Attr}
use Rattle.aso_outline.specs.Members.{Name, seats, find}
use Rattle.aso_outline.specs.Tables.{before_attr, before_dim, before_hier}
use Rattle.aso_outline.proofs.Basic.{basic}
use Rattle.aso_mdx.specs.declared.query.SetText.{SetText}
use Rattle.aso_mdx.specs.declared.query.SetText.TheVariants.{Braced, Member, Tuple, Children, Members, Descendants, Leaves, Crossjoin}
use Rattle.aso_axes.specs.declared.part.Part.TheVariants as part
use Rattle.aso_axes.specs.Members.{below, children_of, given, unshared}

-- the roots of Market's hierarchies; Big's shared children as their data leaves; a leaf has none
roots : given basic part.Children 3 ≡ (4 ∷ 9 ∷ 12 ∷ [])
unfolding seats before_hier before_dim hidden-the_row-Expr-0 denote.Hole.Carrier.hidden
roots = refl

shared_children : given basic part.Children 9 ≡ (6 ∷ 8 ∷ [])
unfolding seats find hidden-the_row-Expr-0 denote.Hole.Carrier.hidden
shared_children = refl

no_children : given basic part.Children 1 ≡ []
unfolding seats hidden-the_row-Expr-0 denote.Hole.Carrier.hidden
no_children = refl

all_of_market : given basic part.Members 3 ≡ (3 ∷ 4 ∷ 5 ∷ 6 ∷ 7 ∷ 8 ∷ 9 ∷ 12 ∷ [])
unfolding seats hidden-the_row-Expr-0 denote.Hole.Carrier.hidden
all_of_market = refl

all_below_market : given basic part.Descendants 3 ≡ (3 ∷ 4 ∷ 5 ∷ 6 ∷ 7 ∷ 8 ∷ 9 ∷ 6 ∷ 8 ∷ 12 ∷ 6 ∷ 8 ∷ [])
unfolding seats find hidden-the_row-Expr-0 denote.Hole.Carrier.hidden
all_below_market = refl

below_east : given basic part.Descendants 5 ≡ (5 ∷ 6 ∷ 7 ∷ [])
unfolding seats find hidden-the_row-Expr-0 denote.Hole.Carrier.hidden
below_east = refl

leaves_of_market : given basic part.Leaves 3 ≡ (6 ∷ 7 ∷ 8 ∷ 6 ∷ 8 ∷ 6 ∷ 8 ∷ [])
unfolding seats find hidden-the_row-Expr-0 denote.Hole.Carrier.hidden
leaves_of_market = refl

-- a query's own member
own_member : given basic part.Leaves 23 ≡ (23 ∷ [])
unfolding seats hidden-the_row-Expr-0 denote.Hole.Carrier.hidden
own_member = refl
