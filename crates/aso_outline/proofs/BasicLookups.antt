-- What the look-ups give on the Basic outline's 23 members, and on a tree of uneven height.
use Rattle.std.proofs.Common.{◌≡◌, List, [], ◌∷◌, true, false, refl, codes, Some, None, map}
use Rattle.std.specs.List.{range_with_len}
use Rattle.aso_outline.specs.declared.draft.Draft.{Draft}
use Rattle.aso_outline.specs.declared.draft.Expr.TheBlock.{hidden-the_row-Expr-0}
use Rattle.aso_outline.specs.declared.seat.Seat.{Seat}
use Rattle.aso_outline.specs.declared.seat.Seat.TheVariants.{Whole, Inner, Carried}
use Rattle.aso_outline.specs.declared.seat.DimRef.TheVariants.{Base, Attr}
use Rattle.aso_tree.specs.Trees.{classes, class_of}
use Rattle.aso_outline.specs.Members.{seats, resolve, leaf_names}
use Rattle.aso_outline.specs.Classes.{carries, class_at, classes_at, is_stored, leaf_count, leaf_of, leaf_seat}
use Rattle.aso_outline.specs.Heights.{first_child_of, height_of, next_child_of, top_of}
use Rattle.aso_outline.specs.Marks.{solve_of}
use Rattle.aso_outline.specs.Ranks.{named}
use Rattle.aso_outline.specs.Numbers.{root_of, seat_of}
use Rattle.aso_outline.proofs.Basic.{basic, dim, m, outline, root, stored}

abbrev on_all : {X : Type 0} → (Draft → Seat → X) → List X
on_all f = map (λ n. f basic (seat_of basic n)) (range_with_len 0 23)

members : on_all (λ _ s. s)
    ≡ (Inner 0 0 0 ∷ Inner 0 0 1 ∷ Inner 0 0 2
    ∷ Whole 1 ∷ Inner 1 0 0 ∷ Inner 1 0 1 ∷ Inner 1 0 2 ∷ Inner 1 0 3 ∷ Inner 1 0 4 ∷ Inner 1 1 0 ∷ Inner 1 1 1 ∷ Inner 1 1 2 ∷ Inner 1 2 0 ∷ Inner 1 2 1 ∷ Inner 1 2 2
    ∷ Inner 2 0 0 ∷ Inner 2 0 1 ∷ Inner 2 0 2 ∷ Inner 2 0 3 ∷ Inner 2 0 4
    ∷ Carried 0 0 ∷ Carried 0 1 ∷ Carried 0 2 ∷ [])
unfolding seats
members = refl

-- Market, Total 2, East 1; Big; Sum; Measures; Size
heights : on_all height_of ≡ (1 ∷ 0 ∷ 0 ∷ 3 ∷ 2 ∷ 1 ∷ 0 ∷ 0 ∷ 0 ∷ 1 ∷ 0 ∷ 0 ∷ 1 ∷ 0 ∷ 0 ∷ 1 ∷ 0 ∷ 0 ∷ 0 ∷ 0 ∷ 1 ∷ 0 ∷ 0 ∷ [])
unfolding seats
heights = refl

-- Market stands for Total, Measures for Sales
resolved : map (λ s. resolve basic s) (Whole 1 ∷ Inner 1 0 1 ∷ Inner 2 0 0 ∷ Carried 0 0 ∷ []) ≡ (Inner 1 0 0 ∷ Inner 1 0 1 ∷ Inner 2 0 1 ∷ Carried 0 0 ∷ [])
resolved = refl

-- a shared member is its data leaf, and a leaf with a formula is none
leaves : on_all leaf_of
    ≡ (None ∷ Some 0 ∷ Some 1
    ∷ None ∷ None ∷ None ∷ Some 0 ∷ Some 1 ∷ Some 2 ∷ None ∷ Some 0 ∷ Some 2 ∷ None ∷ Some 0 ∷ Some 2
    ∷ None ∷ Some 0 ∷ Some 1 ∷ None ∷ None
    ∷ None ∷ None ∷ None ∷ [])
unfolding seats leaf_names hidden-the_row-Expr-0 denote.Hole.Carrier.hidden
leaves = refl

leaf_counts : map (leaf_count basic) (0 ∷ 1 ∷ 2 ∷ []) ≡ (2 ∷ 3 ∷ 2 ∷ [])
leaf_counts = refl

leaf_seats : map (leaf_seat basic 1) (0 ∷ 1 ∷ 2 ∷ []) ≡ (Inner 1 0 2 ∷ Inner 1 0 3 ∷ Inner 1 0 4 ∷ [])
leaf_seats = refl

-- Sum, Margin and Pct are computed
stored_ones : on_all is_stored
    ≡ (true ∷ true ∷ true
    ∷ true ∷ true ∷ true ∷ true ∷ true ∷ true ∷ true ∷ true ∷ true ∷ false ∷ true ∷ true
    ∷ true ∷ true ∷ true ∷ false ∷ false
    ∷ true ∷ true ∷ true ∷ [])
unfolding seats
stored_ones = refl

-- Market by Total: NY, MA, CA; East, CA; Total. By Big, which has no MA: Big.
market_classes : map (λ level. map (class_at basic 1 0 level) (0 ∷ 1 ∷ 2 ∷ [])) (0 ∷ 1 ∷ 2 ∷ [])
    ≡ ((Some 0 ∷ Some 1 ∷ Some 2 ∷ []) ∷ (Some 0 ∷ Some 0 ∷ Some 1 ∷ []) ∷ (Some 0 ∷ Some 0 ∷ Some 0 ∷ []) ∷ [])
unfolding class_of classes
market_classes = refl

big_classes : map (class_at basic 1 1 1) (0 ∷ 1 ∷ 2 ∷ []) ≡ (Some 0 ∷ None ∷ Some 0 ∷ [])
unfolding class_of classes leaf_names
big_classes = refl

class_counts : map (classes_at basic 1 0) (0 ∷ 1 ∷ 2 ∷ []) ≡ (3 ∷ 2 ∷ 1 ∷ [])
unfolding classes
class_counts = refl

-- a label-only root is no top
tops : (top_of basic 0 0 ∷ top_of basic 1 0 ∷ top_of basic 1 1 ∷ top_of basic 2 0 ∷ []) ≡ (1 ∷ 2 ∷ 1 ∷ 0 ∷ [])
tops = refl

roots : (root_of basic (Base 0) ∷ root_of basic (Base 1) ∷ root_of basic (Base 2) ∷ root_of basic (Attr 0) ∷ []) ≡ (Inner 0 0 0 ∷ Whole 1 ∷ Inner 2 0 0 ∷ Carried 0 0 ∷ [])
roots = refl

first_children : map (first_child_of basic) (Whole 1 ∷ Inner 1 0 0 ∷ Inner 1 0 2 ∷ Carried 0 0 ∷ []) ≡ (Some (Inner 1 0 0) ∷ Some (Inner 1 0 1) ∷ None ∷ Some (Carried 0 1) ∷ [])
first_children = refl

-- the children of Market are Total, Big and Sum
next_children : map (next_child_of basic) (Inner 1 0 0 ∷ Inner 1 1 0 ∷ Inner 1 2 0 ∷ Inner 1 0 1 ∷ Inner 1 0 3 ∷ Inner 0 0 0 ∷ Carried 0 1 ∷ [])
    ≡ (Some (Inner 1 1 0) ∷ Some (Inner 1 2 0) ∷ None ∷ Some (Inner 1 0 4) ∷ None ∷ None ∷ Some (Carried 0 2) ∷ [])
next_children = refl

-- NY is Large, MA is Small, and both have a Size
sizes : map (λ leaf. map (λ i. carries basic 1 leaf (Carried 0 i)) (0 ∷ 1 ∷ 2 ∷ [])) (0 ∷ 1 ∷ []) ≡ ((true ∷ true ∷ false ∷ []) ∷ (true ∷ false ∷ true ∷ []) ∷ [])
unfolding named seats
sizes = refl

orders : map (solve_of basic) (Inner 1 2 0 ∷ Inner 2 0 3 ∷ []) ≡ (10 ∷ 20 ∷ [])
orders = refl

-- Geo has the children A and B; A1 stands below A
abbrev geo : Draft
geo = outline (dim (codes "Geo") (stored (m root (codes "Geo") ∷ m 0 (codes "A") ∷ m 1 (codes "A1") ∷ m 0 (codes "B") ∷ []) ∷ []) ∷ []) []

geo_heights : map (height_of geo) (Inner 0 0 0 ∷ Inner 0 0 1 ∷ Inner 0 0 2 ∷ Inner 0 0 3 ∷ []) ≡ (2 ∷ 1 ∷ 0 ∷ 0 ∷ [])
geo_heights = refl

-- at level 1 A and B, at level 2 Geo
geo_classes : map (λ level. map (class_at geo 0 0 level) (0 ∷ 1 ∷ [])) (1 ∷ 2 ∷ []) ≡ ((Some 0 ∷ Some 1 ∷ []) ∷ (Some 0 ∷ Some 0 ∷ []) ∷ [])
unfolding class_of classes
geo_classes = refl
