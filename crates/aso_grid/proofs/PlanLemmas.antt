-- The cells of a plan, by the places of their dimensions.
use Rattle.std.specs.Prelude.{slice_get}
use Rattle.std.specs.List.{AllByRecursion, flat_map}
use Rattle.std.proofs.Common.{◌≡◌, ◌∙◌, ℕ, zero, suc, ◌-◌, ◌*◌, ◌<◌, ◌≤◌, List, [], ◌∷◌, ◌++◌, length, map, Option, Some, None, refl, subst, sym, ap, arith, length-append, zero-mul, suc-mul}
use Rattle.std.proofs.Math.Nat.{mul-le-mul}
use Rattle.std.proofs.lemmas.List.{length-map}
use Rattle.std.proofs.lemmas.List.FromFn.{length-range_with_len}
use Rattle.aso_outline.specs.declared.draft.Draft.{Draft}
use Rattle.aso_outline.specs.declared.draft.Tuple.{Tuple}
use Rattle.aso_outline.specs.declared.seat.DimRef.{DimRef}
use Rattle.aso_tree.specs.Trees.{places_of}
use Rattle.aso_mdx.specs.declared.query.Query.{Query}
use Rattle.aso_axes.specs.Members.{Own}
use Rattle.aso_grid.specs.Places.{attr_place_of, attr_places_of, base_place_of, base_places_of, member_if, member_of, tuple_in, tuples_of_row}
use Rattle.aso_grid.specs.Plans.{AreLong, IsSized, base_at, cells_of, cells_of_row, columns_of, coordinates, excess_in, plan_of, rows_of}
use Rattle.aso_grid.proofs.SizeLemmas.{few_columns, few_rows}

pub map-map : {X Y Z : Type 0} (g : Y → Z) (f : X → Y) (xs : List X) → map g (map f xs) ≡ map (λ x. g (f x)) xs
map-map g f [] = refl
map-map g f (x ∷ xs) = ap (λ (zs : List _). g (f x) ∷ zs) (map-map g f xs)

map_same : {X Y : Type 0} (f g : X → Y) → ((x : X) → f x ≡ g x) → (xs : List X) → map f xs ≡ map g xs
map_same f g same [] = refl
map_same f g same (x ∷ xs) = ap (λ (y : _). y ∷ map f xs) (same x) ∙ ap (λ (ys : List _). g x ∷ ys) (map_same f g same xs)

pub flat_same : {X Y : Type 0} (f g : X → List Y) → ((x : X) → f x ≡ g x) → (xs : List X) → flat_map f xs ≡ flat_map g xs
flat_same f g same [] = refl
flat_same f g same (x ∷ xs) = ap (λ (ys : List _). ys ++ flat_map f xs) (same x) ∙ ap (λ (ys : List _). g x ++ ys) (flat_same f g same xs)

module _ (o : Draft) (dims : List DimRef) where
  tuple_of : List ℕ → List (Option ℕ) → Tuple
  tuple_of base attrs = record { base = base; attrs = attrs }

  tuple_is : (members : List ℕ) → tuple_in (base_places_of o dims) (attr_places_of o dims) members ≡ coordinates o dims members
  unfolding tuple_of
  tuple_is members =
      ap (λ (base : List ℕ). tuple_of base (map (member_if members) (attr_places_of o dims))) (map-map (member_of members) (base_place_of o dims) (places_of o.dims))
      ∙ ap (λ (attrs : List (Option ℕ)). tuple_of (map (base_at o dims members) (places_of o.dims)) attrs) (map-map (member_if members) (attr_place_of dims) (places_of o.attrs))

  pub cells_are : (columns rows : List (List ℕ)) (slicer : List ℕ) → flat_map (tuples_of_row (base_places_of o dims) (attr_places_of o dims) columns slicer) rows ≡ cells_of o dims columns rows slicer
  cells_are columns rows slicer =
      flat_same (tuples_of_row (base_places_of o dims) (attr_places_of o dims) columns slicer) (cells_of_row o dims columns slicer)
      (λ row. map_same (λ column. tuple_in (base_places_of o dims) (attr_places_of o dims) (column ++ (row ++ slicer))) (λ column. coordinates o dims (column ++ (row ++ slicer))) (λ column. tuple_is (column ++ (row ++ slicer))) columns)
      rows

  pub long_cells : (columns rows : List (List ℕ)) (slicer : List ℕ) → length (cells_of o dims columns rows slicer) ≡ length rows * length columns
  long_cells columns [] slicer = sym (zero-mul (length columns))
  long_cells columns (row ∷ rows) slicer =
      let here : length (cells_of_row o dims columns slicer row) ≡ length columns = length-map columns (λ column. coordinates o dims (column ++ (row ++ slicer))) in
      omega (arith, length-append (cells_of_row o dims columns slicer row) (cells_of o dims columns rows slicer), here, long_cells columns rows slicer, suc-mul (length rows) (length columns))

pub sized : (o : Draft) (own : Own) (q : Query) → excess_in o own q ≡ None → IsSized (plan_of o own q)
sized o own q none =
    let columns = (columns_of o own q).rows in
    let rows = (rows_of o own q).rows in
    record {
      few_columns = few_columns (length columns) (length rows) none;
      few_rows = few_rows (length columns) (length rows) none;
      cells = long_cells o _ columns rows _;
    }

-- ---- each cell has one member for each base dimension

IsLong : Draft → Tuple → Type 0
IsLong o t = length t.base ≡ length o.dims

at_place : {X : Type 0} (P : X → Type 0) (xs : List X) → AllByRecursion P xs → (k : ℕ) (x : X) → slice_get xs k ≡ Some x → P x
at_place P [] all k x is = cc
at_place P (y ∷ xs) all zero x is = subst P (cc) all.0
at_place P (y ∷ xs) all (suc k) x is = at_place P xs all.1 k x is

joined : {X : Type 0} (P : X → Type 0) (xs ys : List X) → AllByRecursion P xs → AllByRecursion P ys → AllByRecursion P (xs ++ ys)
joined P [] ys left right = right
joined P (x ∷ xs) ys left right = (left.0, joined P xs ys left.1 right)

module _ (o : Draft) (dims : List DimRef) (columns : List (List ℕ)) (slicer : List ℕ) where
  row_long : (row : List ℕ) (cs : List (List ℕ)) → AllByRecursion (IsLong o) (map (λ column. coordinates o dims (column ++ (row ++ slicer))) cs)
  unfolding IsLong
  row_long row [] = tt
  row_long row (c ∷ cs) =
      (length-map (places_of o.dims) (base_at o dims (c ++ (row ++ slicer))) ∙ length-range_with_len 0 (length o.dims), row_long row cs)

  all_long : (rows : List (List ℕ)) → AllByRecursion (IsLong o) (cells_of o dims columns rows slicer)
  all_long [] = tt
  all_long (row ∷ rows) = joined (IsLong o) (cells_of_row o dims columns slicer row) (cells_of o dims columns rows slicer) (row_long row columns) (all_long rows)

pub long : (o : Draft) (own : Own) (q : Query) → AreLong o (plan_of o own q).cells
unfolding IsLong
long o own q = at_place (IsLong o) (plan_of o own q).cells (all_long o _ (columns_of o own q).rows _ (rows_of o own q).rows)

-- ---- places in a joined list

pub get_left : {X : Type 0} (xs ys : List X) (i : ℕ) → i < length xs → slice_get (xs ++ ys) i ≡ slice_get xs i
get_left [] ys i low = absurd (omega (arith, low))
get_left (x ∷ xs) ys zero low = refl
get_left (x ∷ xs) ys (suc i) low = get_left xs ys i (omega (arith, low))

pub get_right : {X : Type 0} (xs ys : List X) (i : ℕ) → length xs ≤ i → slice_get (xs ++ ys) i ≡ slice_get ys (i - length xs)
get_right [] ys i le = ap (slice_get ys) (omega arith)
get_right (x ∷ xs) ys zero le = absurd (omega (arith, le))
get_right (x ∷ xs) ys (suc i) le = get_right xs ys i (omega (arith, le)) ∙ ap (slice_get ys) (omega arith)

-- ---- the place of a cell

pub small_product : (a b : ℕ) → a ≤ 100000 → b ≤ 100000 → a * b ≤ 10000000000
small_product a b la lb = mul-le-mul la lb
