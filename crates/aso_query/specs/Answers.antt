-- What a query comes to over stored values: a refusal, or a grid.
use Rattle.std.specs.Prelude.{◌≡◌, ◌⊎◌, ℕ, List, [], ◌++◌, map, length, Some, Ok}
use Rattle.std.specs.List.{filter_map, find as first}
use Rattle.aso_num.specs.declared.value.Val.{Val}
use Rattle.aso_outline.specs.declared.draft.Draft.{Draft}
use Rattle.aso_outline.specs.declared.draft.Tuple.{Tuple}
use Rattle.aso_outline.specs.Members.{Name}
use Rattle.aso_mdx.specs.declared.query.Query.{Query}
use Rattle.aso_axes.specs.Members.{Own, name_of}
use Rattle.aso_axes.specs.declared.fault.AxisFault.TheVariants as axis
use Rattle.aso_calc.specs.Known.{is_out}
use Rattle.aso_calc.specs.Needs.{AreDistinct, Suffice, needed}
use Rattle.aso_calc.specs.Values.{value}
use Rattle.aso_grid.specs.declared.grid_plan.GridPlan.{GridPlan}
use Rattle.aso_grid.specs.Grids.{grid_lines, kept_columns, kept_rows}
use Rattle.aso_grid.specs.Plans.{AreLong, IsQueryRefusal, IsSized, IsTaken, plan_of}
use Rattle.aso_query.specs.declared.asking.Asked.{Asked}
use Rattle.aso_query.specs.declared.refusal.QueryRefusal.{QueryRefusal}
use Rattle.aso_query.specs.declared.refusal.QueryRefusal.TheVariants.{UnknownMember, Dimension, Formula, TooLarge, Range}
use Rattle.aso_query.specs.Owns.{AreTaken, IsOwnsRefusal}

-- the stored value of each tuple
abbrev pub Stored : Type 0
Stored = Tuple → Val

-- ---- what is asked

-- its own members are taken, and its names, dimensions and sizes are in order
abbrev pub IsInOrder : Draft → Query → Own → Type 0
IsInOrder o q own = AreTaken o [] q.own own × IsTaken o own q

-- why its names, dimensions or sizes aren't in order
abbrev pub IsPlanRefusal : Draft → Own → Query → QueryRefusal → Type 0
IsPlanRefusal o own q (UnknownMember name) = IsQueryRefusal o own q (axis.UnknownMember name)
IsPlanRefusal o own q (Dimension name) = IsQueryRefusal o own q (axis.Dimension name)
IsPlanRefusal o own q (TooLarge cells) = IsQueryRefusal o own q (axis.TooLarge cells)
IsPlanRefusal o own q (Formula name at) = ⊥
IsPlanRefusal o own q (Range names) = ⊥

-- the first refusal of a query, whatever the cells: of its own members, in their order, then of its names, dimensions and sizes
abbrev pub IsAskedRefusal : Draft → Query → QueryRefusal → Type 0
IsAskedRefusal o q r = IsOwnsRefusal o [] q.own r ⊎ ((own : Own) × AreTaken o [] q.own own × IsPlanRefusal o own q r)

-- The plan of a query whose parts are in order, and the stored tuples on which the values of its cells rest.
pub record IsAsked (o : Draft) (q : Query) (a : Asked) : Type 0 where
  pub order : IsInOrder o q a.extra.members.items
  pub plan : a.plan ≡ plan_of o a.extra.members.items q
  pub needs : a.needs.items ≡ needed o a.extra.members.items a.plan.cells

-- what the answer to it needs
pub record IsReady (o : Draft) (a : Asked) : Type 0 where
  pub sized : IsSized a.plan
  pub long : AreLong o a.plan.cells
  pub once : AreDistinct a.needs.items
  pub suffice : Suffice o a.extra.members.items a.needs.items a.plan.cells

-- ---- the answer

-- a number that is out of range is no value
abbrev pub AreValues : Draft → Own → Stored → List Tuple → List Val → Type 0
AreValues o own stored cells vs = map (λ v. Ok v) vs ≡ map (value o own stored) cells

-- the names of a cell's members, the dimensions in their order and then the attribute dimensions that are asked
abbrev pub names_of : Draft → Own → Tuple → List Name
names_of o own t = map (name_of o own) t.base ++ map (name_of o own) (filter_map (λ a. a) t.attrs)

-- the first cell, row by row, whose value is out of range
abbrev pub IsPast : Draft → Own → Stored → GridPlan → QueryRefusal → Type 0
IsPast o own stored p (Range names) = (t : Tuple) × (first (λ t. is_out (value o own stored t)) p.cells ≡ Some t) × (names ≡ names_of o own t)
IsPast o own stored p r = ⊥

-- the grid over the values of its cells, and how many rows and columns are printed
pub record IsGridOver (o : Draft) (own : Own) (stored : Stored) (p : GridPlan) (height width : ℕ) (text : List ℕ) : Type 0 where
  pub values : List Val
  pub are : AreValues o own stored p.cells values
  pub rows : height ≡ length (kept_rows p values)
  pub columns : width ≡ length (kept_columns p values)
  pub lines : text ≡ grid_lines o own p values

-- ---- the whole

-- a query's refusal over stored values
abbrev pub IsRefused : Draft → Stored → Query → QueryRefusal → Type 0
IsRefused o stored q r = IsAskedRefusal o q r ⊎ ((own : Own) × IsInOrder o q own × IsPast o own stored (plan_of o own q) r)

-- a query's grid over stored values
abbrev pub IsGridOf : Draft → Stored → Query → ℕ → ℕ → List ℕ → Type 0
IsGridOf o stored q rows columns text = (own : Own) × IsInOrder o q own × IsGridOver o own stored (plan_of o own q) rows columns text
