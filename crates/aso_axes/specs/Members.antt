-- Members by their numbers: those of the outline, and behind them a query's own. What the functions of a member give.
use Rattle.std.specs.Prelude.{◌<◌, ◌^◌, ℕ, zero, suc, ◌+◌, ◌-◌, ◌==◌, Bool, true, false, not, ◌&&◌, List, [], ◌∷◌, length, map, Option, Some, None, nat_lt, if◌then◌else◌, slice_get, unwrap_or}
use Rattle.std.specs.Option.{option_map, option_or}
use Rattle.std.specs.List.{filter, position, range_with_len}
use Rattle.aso_tree.specs.Trees.{places_of, under}
use Rattle.aso_outline.specs.declared.draft.Draft.{Draft}
use Rattle.aso_outline.specs.declared.draft.ExtraMember.{ExtraMember}
use Rattle.aso_outline.specs.declared.seat.Seat.{Seat}
use Rattle.aso_outline.specs.declared.seat.Seat.TheVariants.{Whole, Inner, Carried}
use Rattle.aso_outline.specs.declared.seat.DimRef.{DimRef}
use Rattle.aso_outline.specs.declared.seat.DimRef.TheVariants.{Base, Attr}
use Rattle.aso_outline.specs.Heights.{height_of}
use Rattle.aso_outline.specs.Members.{Name, dim_at, dim_seats, find, is_computed, parents_of, place_of, same_name, seats, tree_of}
use Rattle.aso_outline.specs.Numbers.{dim_ref, root_of, seat_of}
use Rattle.aso_outline.specs.Ranks.{children, number_in}
use Rattle.aso_outline.specs.Rules.{is_base, is_shared, name_at}
use Rattle.aso_outline.specs.Targets.{number_of}
use Rattle.aso_axes.specs.declared.part.Part.{Part}
use Rattle.aso_axes.specs.declared.part.Part.TheVariants.{Itself, Children, Members, Descendants, Leaves}
use Rattle.aso_axes.specs.declared.part.Purpose.{Purpose}
use Rattle.aso_axes.specs.declared.part.Purpose.TheVariants.{Axis, Region}

-- the members that a query defines
abbrev pub Own : Type 0
Own = List ExtraMember

-- each member has a number of 32 bits
abbrev pub IsNumbered : Draft → Own → Type 0
IsNumbered o own = length (seats o) + length own < 2 ^ 32

abbrev pub is_own : Draft → ℕ → Bool
is_own o n = not (nat_lt n (length (seats o)))

-- the query's own member of a number
abbrev pub own_at : Draft → Own → ℕ → Option ExtraMember
own_at o own n = slice_get own (n - length (seats o))

-- the place of a name among the query's own members
abbrev pub own_place : Own → Name → Option ℕ
own_place own name = position (λ (m : ExtraMember). same_name name m.name) own

-- the number of the member of a name
abbrev pub member_named : Draft → Own → Name → Option ℕ
member_named o own name = option_or (find o name) (option_map (λ k. length (seats o) + k) (own_place own name))

-- the dimension of a member
abbrev pub dim_of_member : Draft → Own → ℕ → DimRef
dim_of_member o own n = if is_own o n then Base (unwrap_or (option_map (λ (m : ExtraMember). m.dim) (own_at o own n)) 0) else dim_ref (seat_of o n)

-- the name of a member
abbrev pub name_of : Draft → Own → ℕ → Name
name_of o own n = if is_own o n then unwrap_or (option_map (λ (m : ExtraMember). m.name) (own_at o own n)) [] else name_at o (seat_of o n)

abbrev pub same_dim : DimRef → DimRef → Bool
same_dim (Base d) (Base e) = d == e
same_dim (Attr a) (Attr b) = a == b
same_dim d e = false

-- ---- functions of a member

-- a shared member is its data leaf, the member of its name
abbrev pub unshared : Draft → ℕ → ℕ
unshared o n = if is_shared o (seat_of o n) then unwrap_or (find o (name_at o (seat_of o n))) n else n

-- The children in outline order. Those of a dimension's own member above several hierarchies are their roots.
abbrev pub children_of : Draft → ℕ → Seat → List ℕ
children_of o n (Whole d) = map (λ h. number_of o (Inner d h 0)) (places_of (dim_at o d).hiers)
children_of o n s = children o n s

-- The member and all below it, in preorder. Below a dimension's own member is the whole dimension.
abbrev pub below : Draft → ℕ → Seat → List ℕ
below o n (Whole d) = range_with_len n (length (dim_seats (dim_at o d) d))
below o n s = map (number_in n s) (under (parents_of (tree_of o s)) (place_of s))

abbrev pub is_at_bottom : Draft → ℕ → Bool
is_at_bottom o n = height_of o (seat_of o n) == 0

abbrev pub is_unshared : Draft → ℕ → Bool
is_unshared o n = not (is_shared o (seat_of o n))

abbrev pub descendants : Draft → ℕ → List ℕ
descendants o n = map (unshared o) (below o n (seat_of o n))

-- what a function gives of a member of the outline
abbrev pub given_in : Draft → Part → ℕ → List ℕ
given_in o Itself n = n ∷ []
given_in o Children n = map (unshared o) (children_of o n (seat_of o n))
given_in o Members n = filter (is_unshared o) (below o n (seat_of o n))
given_in o Descendants n = descendants o n
given_in o Leaves n = filter (is_at_bottom o) (descendants o n)

-- of a query's own member, which has no children
abbrev pub given_own : Part → ℕ → List ℕ
given_own Children n = []
given_own Members n = []
given_own part n = n ∷ []

-- the members that a function gives of a member, in outline order
abbrev pub given : Draft → Part → ℕ → List ℕ
given o part n = if is_own o n then given_own part n else given_in o part n

-- a dimension's own member
abbrev pub is_root : Draft → ℕ → Bool
is_root o n = not (is_own o n) && (n == number_of o (root_of o (dim_ref (seat_of o n))))

-- all members of a dimension are asked of the dimension's own member alone
abbrev pub can_give : Draft → Part → ℕ → Bool
can_give o Members n = is_root o n
can_give o part n = true

-- An axis may have any member. A region has stored members of base dimensions, which are those that hold data leaves.
abbrev pub may_have : Draft → Purpose → ℕ → Bool
may_have o Axis n = true
may_have o Region n = not (is_own o n) && (is_base (seat_of o n) && not (is_computed o (seat_of o n)))
