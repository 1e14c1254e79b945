-- Each member's number is the count of those before it.
use Rattle.std.specs.Prelude.{slice_get, nat_lt, if◌then◌else◌}
use Rattle.std.specs.List.{flat_map, range_with_len}
use Rattle.std.proofs.Common.{◌≡◌, ℕ, zero, suc, ◌+◌, ◌<◌, ◌≤◌, Bool, true, false, List, [], ◌∷◌, ◌++◌, map, length, Some, refl, ap, arith}
use Rattle.std.proofs.lemmas.List.{length-append}
use Rattle.std.proofs.lemmas.List.FromFn.{length-map-range_with_len}
use Rattle.std.proofs.lemmas.Option.{none-some, same_Some}
use Rattle.aso_tree.specs.Trees.{places_of}
use Rattle.aso_outline.specs.declared.draft.Draft.{Draft}
use Rattle.aso_outline.specs.declared.seat.Seat.{Seat}
use Rattle.aso_outline.specs.declared.seat.Seat.TheVariants.{Whole, Inner, Carried}
use Rattle.aso_outline.specs.Members.{attr_seats, attr_tree, dim_at, dim_seats, hier_seats, seats, tree, whole_seats}
use Rattle.aso_outline.specs.Tables.{before_attr, before_dim, before_hier}
use Rattle.aso_outline.specs.Targets.{number_of}
use Rattle.aso_outline.proofs.NumberLemmas.{before_first_attr, before_first_dim, before_first_hier, before_next_attr, before_next_dim, before_next_hier}

module _ {X : Type 0} (f : X → ℕ) where
  abbrev CountsFrom : ℕ → List X → Type 0
  CountsFrom a xs = (k : ℕ) (x : X) → slice_get xs k ≡ Some x → f x ≡ a + k

  joined : (a b : ℕ) (xs ys : List X) → b ≡ a + length xs → CountsFrom a xs → CountsFrom b ys → CountsFrom a (xs ++ ys)
  joined a b [] ys e h g k x is = omega (arith, e, g k x is)
  joined a b (y ∷ xs) ys e h g zero x is = h 0 x is
  joined a b (y ∷ xs) ys e h g (suc k) x is = omega (arith, joined (a + 1) b xs ys (omega (arith, e)) (λ j z q. omega (arith, h (suc j) z q)) g k x is)

  mapped : (make : ℕ → X) (a : ℕ) → ((i : ℕ) → f (make i) ≡ a + i) → (n i b : ℕ) → b ≡ a + i → CountsFrom b (map make (range_with_len i n))
  mapped make a each zero i b e k x is = absurd (none-some x is)
  mapped make a each (suc n) i b e zero x is = omega (arith, e, each i, ap f (same_Some (make i) x is))
  mapped make a each (suc n) i b e (suc k) x is = omega (arith, mapped make a each n (i + 1) (b + 1) (omega (arith, e)) k x is)

  pieces : (make : ℕ → List X) (before : ℕ → ℕ) (bound : ℕ) → ((i : ℕ) → i < bound → before (i + 1) ≡ before i + length (make i))
      → ((i : ℕ) → i < bound → CountsFrom (before i) (make i)) → (n a : ℕ) → a + n ≤ bound → CountsFrom (before a) (flat_map make (range_with_len a n))
  pieces make before bound step each zero a low = λ k x is. absurd (none-some x is)
  pieces make before bound step each (suc n) a low =
      joined (before a) (before (a + 1)) (make a) (flat_map make (range_with_len (a + 1) n)) (step a (omega (arith, low))) (each a (omega (arith, low)))
      (pieces make before bound step each n (a + 1) (omega (arith, low)))

module _ (o : Draft) where
  abbrev Counts : ℕ → List Seat → Type 0
  Counts = CountsFrom (number_of o)

  in_whole : (d : ℕ) (b : Bool) → Counts (before_dim o d) (if b then Whole d ∷ [] else [])
  in_whole d true zero x is = omega (arith, ap (number_of o) (same_Some (Whole d) x is))
  in_whole d true (suc k) x is = absurd (none-some x is)
  in_whole d false k x is = absurd (none-some x is)

  long_tree : (d h : ℕ) → length (hier_seats (dim_at o d) d h) ≡ length (tree (dim_at o d) h)
  long_tree d h = length-map-range_with_len (Inner d h) 0 (length (tree (dim_at o d) h))

  in_hiers : (d : ℕ) → Counts (before_hier o d 0) (flat_map (hier_seats (dim_at o d) d) (places_of (dim_at o d).hiers))
  in_hiers d =
      pieces (number_of o) (hier_seats (dim_at o d) d) (before_hier o d) (length (dim_at o d).hiers) (λ h low. omega (arith, before_next_hier o d h, long_tree d h))
      (λ h low. mapped (number_of o) (Inner d h) (before_hier o d h) (λ i. refl) (length (tree (dim_at o d) h)) 0 (before_hier o d h) (omega arith))
      (length (dim_at o d).hiers) 0 (omega arith)

  in_dim : (d : ℕ) → Counts (before_dim o d) (dim_seats (dim_at o d) d)
  in_dim d =
      joined (number_of o) (before_dim o d) (before_hier o d 0) (whole_seats (dim_at o d) d) (flat_map (hier_seats (dim_at o d) d) (places_of (dim_at o d).hiers))
      (before_first_hier o d) (in_whole d (nat_lt 1 (length (dim_at o d).hiers))) (in_hiers d)

  next_dim : (d : ℕ) → before_dim o (d + 1) ≡ before_dim o d + length (dim_seats (dim_at o d) d)
  unfolding before_hier
  next_dim d = omega (arith, before_next_dim o d, length-append (whole_seats (dim_at o d) d) (flat_map (hier_seats (dim_at o d) d) (places_of (dim_at o d).hiers)))

  in_attr : (a : ℕ) → Counts (before_attr o a) (attr_seats o a)
  in_attr a = mapped (number_of o) (Carried a) (before_attr o a) (λ i. refl) (length (attr_tree o a)) 0 (before_attr o a) (omega arith)

  next_attr : (a : ℕ) → before_attr o (a + 1) ≡ before_attr o a + length (attr_seats o a)
  next_attr a = omega (arith, before_next_attr o a, length-map-range_with_len (Carried a) 0 (length (attr_tree o a)))

  abbrev base : List Seat
  base = flat_map (λ d. dim_seats (dim_at o d) d) (places_of o.dims)

  abbrev carried : List Seat
  carried = flat_map (attr_seats o) (places_of o.attrs)

  base_long : before_dim o (length o.dims) ≡ length base
  unfolding before_dim
  base_long = refl

  in_all : Counts (before_dim o 0) (base ++ carried)
  in_all =
      joined (number_of o) (before_dim o 0) (before_attr o 0) base carried (omega (arith, before_first_attr o, before_first_dim o, base_long))
      (pieces (number_of o) (λ d. dim_seats (dim_at o d) d) (before_dim o) (length o.dims) (λ d low. next_dim d) (λ d low. in_dim d) (length o.dims) 0 (omega arith))
      (pieces (number_of o) (attr_seats o) (before_attr o) (length o.attrs) (λ a low. next_attr a) (λ a low. in_attr a) (length o.attrs) 0 (omega arith))

  -- the member of a number has that number
  pub numbered : (m : ℕ) (s : Seat) → slice_get (seats o) m ≡ Some s → m ≡ number_of o s
  unfolding seats
  numbered m s is = omega (arith, in_all m s is, before_first_dim o)
