-- Every member that has a number has its place.
use Rattle.std.specs.Prelude.{slice_get, nat_lt, if◌then◌else◌}
use Rattle.std.specs.List.{flat_map, range_with_len}
use Rattle.std.proofs.Common.{◌≡◌, ℕ, zero, suc, ◌+◌, ◌<◌, ◌≤◌, Bool, true, false, List, [], ◌∷◌, ◌++◌, map, length, Some, refl, arith, subst}
use Rattle.std.proofs.lemmas.Bool.{ltb-true}
use Rattle.std.proofs.lemmas.Option.{none-some, same_Some}
use Rattle.aso_tree.specs.Trees.{places_of}
use Rattle.aso_outline.specs.declared.draft.Draft.{Draft}
use Rattle.aso_outline.specs.declared.seat.Seat.{Seat}
use Rattle.aso_outline.specs.declared.seat.Seat.TheVariants.{Whole, Inner, Carried}
use Rattle.aso_outline.specs.Members.{attr_seats, attr_tree, dim_at, dim_seats, hier_seats, seats, tree, whole_seats}
use Rattle.aso_outline.specs.Numbers.{IsSeat}

module _ {X : Type 0} (P : X → Type 0) where
  abbrev AllOf : List X → Type 0
  AllOf xs = (k : ℕ) (x : X) → slice_get xs k ≡ Some x → P x

  all_joined : (xs ys : List X) → AllOf xs → AllOf ys → AllOf (xs ++ ys)
  all_joined [] ys h g k x is = g k x is
  all_joined (y ∷ xs) ys h g zero x is = h 0 x is
  all_joined (y ∷ xs) ys h g (suc k) x is = all_joined xs ys (λ j z e. h (suc j) z e) g k x is

  all_mapped : (f : ℕ → X) (n a : ℕ) → ((i : ℕ) → a ≤ i → i < a + n → P (f i)) → AllOf (map f (range_with_len a n))
  all_mapped f zero a each k x is = absurd (none-some x is)
  all_mapped f (suc n) a each zero x is = subst P (same_Some (f a) x is) (each a (omega arith) (omega arith))
  all_mapped f (suc n) a each (suc k) x is = all_mapped f n (a + 1) (λ i lo hi. each i (omega (arith, lo)) (omega (arith, hi))) k x is

  all_pieces : (f : ℕ → List X) (n a : ℕ) → ((i : ℕ) → a ≤ i → i < a + n → AllOf (f i)) → AllOf (flat_map f (range_with_len a n))
  all_pieces f zero a each k x is = absurd (none-some x is)
  all_pieces f (suc n) a each k x is = all_joined (f a) (flat_map f (range_with_len (a + 1) n)) (each a (omega arith) (omega arith)) (all_pieces f n (a + 1) (λ i lo hi. each i (omega (arith, lo)) (omega (arith, hi)))) k x is

module _ (o : Draft) where
  in_whole : (d : ℕ) → d < length o.dims → AllOf (IsSeat o) (whole_seats (dim_at o d) d)
  in_whole d low = by_several (nat_lt 1 (length (dim_at o d).hiers)) refl
    where
      by_several : (b : Bool) → nat_lt 1 (length (dim_at o d).hiers) ≡ b → AllOf (IsSeat o) (if b then Whole d ∷ [] else [])
      by_several true e zero x is = subst (IsSeat o) (same_Some (Whole d) x is) (low, ltb-true _ _ e)
      by_several true e (suc k) x is = absurd (none-some x is)
      by_several false e k x is = absurd (none-some x is)

  in_dims : (d : ℕ) → d < length o.dims → AllOf (IsSeat o) (dim_seats (dim_at o d) d)
  in_dims d low =
      all_joined (IsSeat o) (whole_seats (dim_at o d) d) (flat_map (hier_seats (dim_at o d) d) (places_of (dim_at o d).hiers)) (in_whole d low)
      (all_pieces (IsSeat o) (hier_seats (dim_at o d) d) (length (dim_at o d).hiers) 0
      (λ h lo hi. all_mapped (IsSeat o) (Inner d h) (length (tree (dim_at o d) h)) 0 (λ i below above. (low, omega (arith, hi), omega (arith, above)))))

  in_attrs : (a : ℕ) → a < length o.attrs → AllOf (IsSeat o) (attr_seats o a)
  in_attrs a low = all_mapped (IsSeat o) (Carried a) (length (attr_tree o a)) 0 (λ i below above. (low, omega (arith, above)))

  pub placed : (m : ℕ) (s : Seat) → slice_get (seats o) m ≡ Some s → IsSeat o s
  unfolding seats
  placed =
      all_joined (IsSeat o) (flat_map (λ d. dim_seats (dim_at o d) d) (places_of o.dims)) (flat_map (attr_seats o) (places_of o.attrs))
      (all_pieces (IsSeat o) (λ d. dim_seats (dim_at o d) d) (length o.dims) 0 (λ d lo hi. in_dims d (omega (arith, hi))))
      (all_pieces (IsSeat o) (attr_seats o) (length o.attrs) 0 (λ a lo hi. in_attrs a (omega (arith, hi))))
