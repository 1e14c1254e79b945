-- Where the members of each tree stand among all, and that every member has its place.
use Rattle.std.specs.Prelude.{slice_get, nat_lt, if◌then◌else◌}
use Rattle.std.specs.Option.{option_map}
use Rattle.std.specs.List.{flat_map, range_with_len}
use Rattle.std.proofs.Common.{◌≡◌, ◌∙◌, ℕ, zero, suc, ◌+◌, ◌-◌, ◌<◌, ◌≤◌, Bool, true, false, List, [], ◌∷◌, ◌++◌, map, length, Some, refl, sym, ap, arith, length-append, true≢false}
use Rattle.std.proofs.lemmas.Bool.{lt-ltb}
use Rattle.std.proofs.lemmas.Grind.{flat_map-append}
use Rattle.std.proofs.lemmas.Option.{slice_get-map, slice_get-get_or, slice_get_within}
use Rattle.std.proofs.lemmas.List.FromFn.{length-map-range_with_len}
use Rattle.aso_tree.specs.Trees.{places_of}
use Rattle.aso_tree.proofs.Classes.{range_split}
use Rattle.aso_outline.specs.declared.draft.Draft.{Draft}
use Rattle.aso_outline.specs.declared.seat.Seat.{Seat}
use Rattle.aso_outline.specs.declared.seat.Seat.TheVariants.{Whole, Inner, Carried}
use Rattle.aso_outline.specs.Members.{attr_seats, attr_tree, dim_at, dim_seats, hier_seats, seats, tree, whole_seats}
use Rattle.aso_outline.specs.Tables.{before_dim, before_hier, before_attr}
use Rattle.aso_outline.proofs.Ranges.{flat_push}

-- ---- pieces that are joined end to end

get_front : {X : Type 0} (xs ys : List X) (i : ℕ) → i < length xs → slice_get (xs ++ ys) i ≡ slice_get xs i
get_front [] ys i low = absurd (omega (arith, low))
get_front (x ∷ xs) ys zero low = refl
get_front (x ∷ xs) ys (suc i) low = get_front xs ys i (omega (arith, low))

get_back : {X : Type 0} (xs ys : List X) (i j : ℕ) → j ≡ length xs + i → slice_get (xs ++ ys) j ≡ slice_get ys i
get_back [] ys i j e = ap (slice_get ys) (omega (arith, e))
get_back (x ∷ xs) ys i zero e = absurd (omega (arith, e))
get_back (x ∷ xs) ys i (suc j) e = get_back xs ys i j (omega (arith, e))

range_get : (a n i k : ℕ) → i < n → k ≡ a + i → slice_get (range_with_len a n) i ≡ Some k
range_get a zero i k low e = absurd (omega (arith, low))
range_get a (suc n) zero k low e = ap (λ (j : ℕ). Some j) (omega (arith, e))
range_get a (suc n) (suc i) k low e = range_get (a + 1) n i k (omega (arith, low)) (omega (arith, e))

-- what stands at a place of a table of all places
pub map_get : {X : Type 0} (f : ℕ → X) (n i : ℕ) → i < n → slice_get (map f (range_with_len 0 n)) i ≡ Some (f i)
map_get f n i low = slice_get-map f (range_with_len 0 n) i ∙ ap (option_map f) (range_get 0 n i i low (omega arith))

piece : {X : Type 0} (f : ℕ → List X) (n a d i j k : ℕ) → d < n → k ≡ a + d → i < length (f k) → j ≡ length (flat_map f (range_with_len a d)) + i → slice_get (flat_map f (range_with_len a n)) j ≡ slice_get (f k) i
piece f zero a d i j k low is there e = absurd (omega (arith, low))
piece f (suc n) a zero i j k low is there e =
    let same : a ≡ k = omega (arith, is) in
    let here : j ≡ i = omega (arith, e) in
    let long : length (f a) ≡ length (f k) = ap (λ x. length (f x)) same in
    get_front (f a) (flat_map f (range_with_len (a + 1) n)) j (omega (arith, here, long, there)) ∙ (ap (slice_get (f a)) here ∙ ap (λ x. slice_get (f x) i) same)
piece f (suc n) a (suc d) i j k low is there e =
    get_back (f a) (flat_map f (range_with_len (a + 1) n)) (length (flat_map f (range_with_len (a + 1) d)) + i) j (omega (arith, e, length-append (f a) (flat_map f (range_with_len (a + 1) d))))
    ∙ piece f n (a + 1) d i (length (flat_map f (range_with_len (a + 1) d)) + i) k (omega (arith, low)) (omega (arith, is)) there refl

some_there : (xs : List Seat) (k : ℕ) → k < length xs → (s : Seat) × (slice_get xs k ≡ Some s)
some_there xs k low = (_, slice_get-get_or xs k (Whole 0) low)

long_tree : (o : Draft) (d h : ℕ) → length (hier_seats (dim_at o d) d h) ≡ length (tree (dim_at o d) h)
long_tree o d h = length-map-range_with_len (Inner d h) 0 (length (tree (dim_at o d) h))

module _ (o : Draft) where
  abbrev of_dim : ℕ → List Seat
  of_dim d = dim_seats (dim_at o d) d

  abbrev base : List Seat
  base = flat_map of_dim (places_of o.dims)

  abbrev carried : List Seat
  carried = flat_map (attr_seats o) (places_of o.attrs)

  in_dim : (d k j : ℕ) → d < length o.dims → j ≡ before_dim o d + k → (s : Seat) → slice_get (of_dim d) k ≡ Some s → slice_get (seats o) j ≡ Some s
  unfolding seats before_dim
  in_dim d k j low e s is =
      let there : slice_get base j ≡ Some s = piece of_dim (length o.dims) 0 d k j d low (omega arith) (slice_get_within (of_dim d) k s is) e ∙ is in
      get_front base carried j (slice_get_within base j s there) ∙ there

  -- the member at a place of a hierarchy
  pub number_inner : (d h i j : ℕ) → d < length o.dims → h < length (dim_at o d).hiers → i < length (tree (dim_at o d) h) → j ≡ before_hier o d h + i → slice_get (seats o) j ≡ Some (Inner d h i)
  unfolding before_hier
  number_inner d h i j low hier there e =
      let dim = dim_at o d in
      let front : ℕ = length (flat_map (hier_seats dim d) (range_with_len 0 h)) in
      let here : slice_get (hier_seats dim d h) i ≡ Some (Inner d h i) = map_get (Inner d h) (length (tree dim h)) i there in
      let among : slice_get (flat_map (hier_seats dim d) (places_of dim.hiers)) (front + i) ≡ Some (Inner d h i) =
      piece (hier_seats dim d) (length dim.hiers) 0 h i (front + i) h hier (omega arith) (omega (arith, there, long_tree o d h)) refl ∙ here in
      let inside : slice_get (of_dim d) (length (whole_seats dim d) + (front + i)) ≡ Some (Inner d h i) = get_back (whole_seats dim d) (flat_map (hier_seats dim d) (places_of dim.hiers)) (front + i) _ refl ∙ among in
      in_dim d (length (whole_seats dim d) + (front + i)) j low (omega (arith, e)) (Inner d h i) inside

  -- a dimension above several hierarchies
  pub number_whole : (d j : ℕ) → d < length o.dims → 1 < length (dim_at o d).hiers → j ≡ before_dim o d → slice_get (seats o) j ≡ Some (Whole d)
  number_whole d j low several e = in_dim d 0 j low (omega (arith, e)) (Whole d) (first (nat_lt 1 (length (dim_at o d).hiers)) (lt-ltb _ _ several))
    where
      first : (b : Bool) → b ≡ true → slice_get ((if b then Whole d ∷ [] else []) ++ flat_map (hier_seats (dim_at o d) d) (places_of (dim_at o d).hiers)) 0 ≡ Some (Whole d)
      first true is = refl
      first false is = absurd (true≢false (sym is))

  -- the member at a place of an attribute dimension
  pub number_carried : (a i j : ℕ) → a < length o.attrs → i < length (attr_tree o a) → j ≡ before_attr o a + i → slice_get (seats o) j ≡ Some (Carried a i)
  unfolding seats before_attr before_dim
  number_carried a i j low there e =
      let front : ℕ = length (flat_map (attr_seats o) (range_with_len 0 a)) in
      let long : length (attr_seats o a) ≡ length (attr_tree o a) = length-map-range_with_len (Carried a) 0 (length (attr_tree o a)) in
      get_back base carried (front + i) j (omega (arith, e))
      ∙ (piece (attr_seats o) (length o.attrs) 0 a i (front + i) a low (omega arith) (omega (arith, there, long)) refl ∙ map_get (Carried a) (length (attr_tree o a)) i there)

  -- ---- the counts, one more

  pub before_first_dim : before_dim o 0 ≡ 0
  unfolding before_dim
  before_first_dim = refl

  pub before_first_hier : (d : ℕ) → before_hier o d 0 ≡ before_dim o d + length (whole_seats (dim_at o d) d)
  unfolding before_hier
  before_first_hier d = omega arith

  pub before_first_attr : before_attr o 0 ≡ before_dim o (length o.dims)
  unfolding before_attr
  before_first_attr = omega arith

  pub before_next_hier : (d h : ℕ) → before_hier o d (h + 1) ≡ before_hier o d h + length (tree (dim_at o d) h)
  unfolding before_hier
  before_next_hier d h =
      let f = hier_seats (dim_at o d) d in
      let more : length (flat_map f (range_with_len 0 (h + 1))) ≡ length (flat_map f (range_with_len 0 h)) + length (f h) = ap length (flat_push f h) ∙ length-append (flat_map f (range_with_len 0 h)) (f h) in
      omega (arith, more, long_tree o d h)

  pub before_next_dim : (d : ℕ) → before_dim o (d + 1) ≡ before_hier o d (length (dim_at o d).hiers)
  unfolding before_dim before_hier
  before_next_dim d =
      let more : length (flat_map of_dim (range_with_len 0 (d + 1))) ≡ length (flat_map of_dim (range_with_len 0 d)) + length (of_dim d) = ap length (flat_push of_dim d) ∙ length-append (flat_map of_dim (range_with_len 0 d)) (of_dim d) in
      omega (arith, more, length-append (whole_seats (dim_at o d) d) (flat_map (hier_seats (dim_at o d) d) (places_of (dim_at o d).hiers)))

  pub before_next_attr : (a : ℕ) → before_attr o (a + 1) ≡ before_attr o a + length (attr_tree o a)
  unfolding before_attr
  before_next_attr a =
      let more : length (flat_map (attr_seats o) (range_with_len 0 (a + 1))) ≡ length (flat_map (attr_seats o) (range_with_len 0 a)) + length (attr_seats o a) = ap length (flat_push (attr_seats o) a) ∙ length-append (flat_map (attr_seats o) (range_with_len 0 a)) (attr_seats o a) in
      omega (arith, more, length-map-range_with_len (Carried a) 0 (length (attr_tree o a)))

  -- ---- they are at most all

  part : {X : Type 0} (f : ℕ → List X) (d n : ℕ) → d ≤ n → length (flat_map f (range_with_len 0 d)) ≤ length (flat_map f (range_with_len 0 n))
  part f d n le =
      let sum : d + (n - d) ≡ n = omega (arith, le) in
      let parts : flat_map f (range_with_len 0 n) ≡ flat_map f (range_with_len 0 d) ++ flat_map f (range_with_len d (n - d)) =
      ap (λ k. flat_map f (range_with_len 0 k)) (sym sum) ∙ (ap (flat_map f) (range_split d (n - d) 0 d (omega arith)) ∙ flat_map-append f (range_with_len 0 d) (range_with_len d (n - d))) in
      omega (arith, ap length parts, length-append (flat_map f (range_with_len 0 d)) (flat_map f (range_with_len d (n - d))))

  pub dims_fit : (d : ℕ) → d ≤ length o.dims → before_dim o d ≤ length (seats o)
  unfolding seats before_dim
  dims_fit d le = omega (arith, part of_dim d (length o.dims) le, length-append base carried)

  within_dim : (d h : ℕ) → h ≤ length (dim_at o d).hiers → before_hier o d h ≤ before_hier o d (length (dim_at o d).hiers)
  unfolding before_hier
  within_dim d h le = omega (arith, part (hier_seats (dim_at o d) d) h (length (dim_at o d).hiers) le)

  pub hiers_fit : (d h : ℕ) → d < length o.dims → h ≤ length (dim_at o d).hiers → before_hier o d h ≤ length (seats o)
  hiers_fit d h low le = omega (arith, dims_fit (d + 1) (omega (arith, low)), before_next_dim d, within_dim d h le)

  pub attrs_fit : (a : ℕ) → a ≤ length o.attrs → before_attr o a ≤ length (seats o)
  unfolding seats before_attr before_dim
  attrs_fit a le = omega (arith, part (attr_seats o) a (length o.attrs) le, length-append base carried)
