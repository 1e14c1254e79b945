-- The members at or below a member are numbered in a row.
use Rattle.std.specs.Prelude.{slice_get}
use Rattle.std.specs.List.{flat_map, range_with_len}
use Rattle.std.proofs.Common.{◌≡◌, ◌∙◌, ℕ, zero, suc, ◌+◌, ◌-◌, ◌<◌, ◌≤◌, List, [], ◌∷◌, length, map, Some, None, refl, sym, ap, arith, length-append}
use Rattle.std.proofs.lemmas.Option.{slice_get_within}
use Rattle.aso_tree.specs.Trees.{places_of, under}
use Rattle.aso_outline.specs.declared.draft.Draft.{Draft}
use Rattle.aso_outline.specs.declared.draft.DraftMember.{DraftMember}
use Rattle.aso_outline.specs.declared.seat.Seat.{Seat}
use Rattle.aso_outline.specs.declared.seat.Seat.TheVariants.{Whole, Inner, Carried}
use Rattle.aso_outline.specs.Members.{dim_at, dim_seats, hier_seats, parents_of, place_of, seats, tree, tree_of, whole_seats}
use Rattle.aso_outline.specs.Numbers.{IsDim, IsSeat, dim_ref}
use Rattle.aso_outline.specs.Ranks.{number_in}
use Rattle.aso_outline.specs.Tables.{before_dim, before_hier}
use Rattle.aso_outline.specs.Targets.{number_of}
use Rattle.aso_outline.proofs.NumberLemmas.{before_next_hier, hiers_fit, number_carried, number_inner}
use Rattle.aso_outline.proofs.Numbered.{numbered}
use Rattle.aso_axes.specs.Members.{below}

shifted : (c a n b : ℕ) → b ≡ c + a → map (λ j. c + j) (range_with_len a n) ≡ range_with_len b n
shifted c a zero b e = refl
shifted c a (suc n) b e =
    ap (λ (x : ℕ). x ∷ map (λ j. c + j) (range_with_len (a + 1) n)) (sym e) ∙ ap (λ (xs : List ℕ). b ∷ xs) (shifted c (a + 1) n (b + 1) (omega (arith, e)))

module _ (o : Draft) (m : ℕ) where
  pub in_tree : (s : Seat) (end : ℕ) → slice_get (seats o) m ≡ Some s → place_of s < length (tree_of o s)
      → under (parents_of (tree_of o s)) (place_of s) ≡ range_with_len (place_of s) (end - place_of s) → below o m s ≡ range_with_len m (end - place_of s)
  in_tree (Whole d) end is placed u = absurd (omega (arith, placed))
  in_tree (Inner d h i) end is placed u = ap (map (number_in m (Inner d h i))) u ∙ shifted (m - i) i (end - i) m (omega (arith, numbered o m (Inner d h i) is))
  in_tree (Carried a i) end is placed u = ap (map (number_in m (Carried a i))) u ∙ shifted (m - i) i (end - i) m (omega (arith, numbered o m (Carried a i) is))

  pub end_within : (s : Seat) (end : ℕ) → slice_get (seats o) m ≡ Some s → IsSeat o s → place_of s < end → end ≤ length (tree_of o s) → m + (end - place_of s) ≤ length (seats o)
  end_within (Whole d) end is there above bound = absurd (omega (arith, above, bound))
  end_within (Inner d h i) end is there above bound =
      let n = numbered o m (Inner d h i) is in
      let last = slice_get_within (seats o) (m - i + (end - 1)) (Inner d h (end - 1)) (number_inner o d h (end - 1) (m - i + (end - 1)) there.0 there.1 (omega (arith, above, bound)) (omega (arith, n, above))) in
      omega (arith, last, n, above)
  end_within (Carried a i) end is there above bound =
      let n = numbered o m (Carried a i) is in
      let last = slice_get_within (seats o) (m - i + (end - 1)) (Carried a (end - 1)) (number_carried o a (end - 1) (m - i + (end - 1)) there.0 (omega (arith, above, bound)) (omega (arith, n, above))) in
      omega (arith, last, n, above)

  long_dim : (d : ℕ) → before_hier o d (length (dim_at o d).hiers) ≡ before_dim o d + length (dim_seats (dim_at o d) d)
  unfolding before_hier
  long_dim d = omega (arith, length-append (whole_seats (dim_at o d) d) (flat_map (hier_seats (dim_at o d) d) (places_of (dim_at o d).hiers)))

  behind_dim : (d h : ℕ) → before_dim o d ≤ before_hier o d h
  unfolding before_hier
  behind_dim d h = omega arith

  -- the last hierarchy's first number, and how many members the hierarchy has
  pub record IsLast (d hiers first len : ℕ) : Type 0 where
    pub is : slice_get (seats o) m ≡ Some (Whole d)
    pub low : d < length o.dims
    pub several : 1 < length (dim_at o d).hiers
    pub count : hiers ≡ length (dim_at o d).hiers
    pub number : first ≡ number_of o (Inner d (hiers - 1) 0)
    pub long : len ≡ length (tree (dim_at o d) (hiers - 1))
    pub some : 0 < length (tree (dim_at o d) (hiers - 1))

  module _ (d hiers first len : ℕ) (l : IsLast d hiers first len) where
    end_is : first + len ≡ before_hier o d (length (dim_at o d).hiers)
    end_is =
        let e : hiers - 1 + 1 ≡ length (dim_at o d).hiers = omega (arith, l.several, l.count) in
        omega (arith, l.number, l.long, before_next_hier o d (hiers - 1), ap (before_hier o d) e)

    pub whole_dim : below o m (Whole d) ≡ range_with_len m (first + len - m)
    whole_dim = ap (range_with_len m) (omega (arith, end_is, long_dim d, numbered o m (Whole d) l.is))

    pub whole_above : m < first + len
    whole_above = omega (arith, numbered o m (Whole d) l.is, l.number, l.long, l.some, behind_dim d (hiers - 1))

    pub whole_within : first + len ≤ length (seats o)
    whole_within = omega (arith, end_is, hiers_fit o d (length (dim_at o d).hiers) l.low (omega arith))

  -- the same of a tree that is at hand
  module _ (s : Seat) (ms : List DraftMember) (place end : ℕ) (is : slice_get (seats o) m ≡ Some s) (tree : ms ≡ tree_of o s) (at : place ≡ place_of s) where
    pub members_to_end : place_of s < length (tree_of o s) → under (parents_of ms) place ≡ range_with_len place (end - place) → below o m s ≡ range_with_len m (m + (end - place) - m)
    members_to_end placed u =
        in_tree s end is placed
        (ap (λ (t : List DraftMember). under (parents_of t) (place_of s)) (sym tree)
        ∙ (ap (λ (p : ℕ). under (parents_of ms) p) (sym at) ∙ (u ∙ ap (λ (p : ℕ). range_with_len p (end - p)) at)))
        ∙ ap (range_with_len m) (omega (arith, at))

    pub bound_of_end : IsSeat o s → place < end → end ≤ length ms → m + (end - place) ≤ length (seats o)
    bound_of_end there above bound = omega (arith, at, end_within s end is there (omega (arith, at, above)) (omega (arith, bound, ap length tree)))

-- past the members there is none that is shared
pub none_past : {X : Type 0} (xs : List X) (n : ℕ) → length xs ≤ n → slice_get xs n ≡ None
none_past [] n le = refl
none_past (x ∷ xs) zero le = absurd (omega (arith, le))
none_past (x ∷ xs) (suc n) le = none_past xs n (omega (arith, le))

-- the outline has the dimension of each of its members
pub has_dim : (o : Draft) (s : Seat) → IsSeat o s → IsDim o (dim_ref s)
has_dim o (Whole d) there = there.0
has_dim o (Inner d h i) there = there.0
has_dim o (Carried a i) there = there.0
