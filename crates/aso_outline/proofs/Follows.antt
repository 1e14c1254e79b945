-- Each member begins a tree, or follows in its tree on the member before it.
use Rattle.std.specs.Prelude.{nat_lt, if◌then◌else◌}
use Rattle.std.specs.List.{flat_map, range_with_len}
use Rattle.std.proofs.Common.{◌≡◌, ◌∙◌, ℕ, zero, suc, ◌+◌, ◌<◌, ◌⊎◌, inl, inr, Bool, true, false, List, [], ◌∷◌, ◌++◌, length, map, get_or, refl, sym, ap, arith, add-one}
use Rattle.aso_tree.specs.Trees.{places_of}
use Rattle.aso_outline.specs.declared.draft.Draft.{Draft}
use Rattle.aso_outline.specs.declared.seat.Seat.{Seat}
use Rattle.aso_outline.specs.declared.seat.Seat.TheVariants.{Whole, Inner, Carried}
use Rattle.aso_outline.specs.Members.{attr_seats, attr_tree, dim_at, dim_seats, hier_seats, place_of, seats, tree, tree_of}

abbrev pub Follows : Draft → Seat → Seat → Type 0
Follows o s t = (place_of t ≡ 0) ⊎ ((tree_of o t ≡ tree_of o s) × (place_of t ≡ place_of s + 1))

-- each follows on the one before it, the first on this one
abbrev pub Chain : Draft → Seat → List Seat → Type 0
Chain o s [] = Unit {0}
Chain o s (t ∷ ts) = Follows o s t × Chain o t ts

module _ (o : Draft) where
  chain_append : (xs ys : List Seat) → ((s : Seat) → Chain o s ys) → (s : Seat) → Chain o s xs → Chain o s (xs ++ ys)
  chain_append [] ys more s h = more s
  chain_append (x ∷ xs) ys more s h = (h.0, chain_append xs ys more x h.1)

  chain_flat : {Y : Type 0} (f : Y → List Seat) → ((y : Y) (s : Seat) → Chain o s (f y)) → (ys : List Y) (s : Seat) → Chain o s (flat_map f ys)
  chain_flat f each [] s = tt
  chain_flat f each (y ∷ ys) s = chain_append (f y) (flat_map f ys) (chain_flat f each ys) s (each y s)

  module _ (make : ℕ → Seat) (one_tree : (i j : ℕ) → tree_of o (make i) ≡ tree_of o (make j)) (place : (i : ℕ) → place_of (make i) ≡ i) where
    chain_rest : (n a b : ℕ) → b ≡ a + 1 → Chain o (make a) (map make (range_with_len b n))
    chain_rest zero a b next = tt
    chain_rest (suc n) a b next = (inr (one_tree b a, place b ∙ (next ∙ ap (λ k. k + 1) (sym (place a)))), chain_rest n b (b + 1) refl)

    chain_tree : (n : ℕ) (s : Seat) → Chain o s (map make (range_with_len 0 n))
    chain_tree zero s = tt
    chain_tree (suc n) s = (inl (place 0), chain_rest n 0 1 refl)

  chain_dim : (d : ℕ) (s : Seat) → Chain o s (dim_seats (dim_at o d) d)
  chain_dim d s = with_whole (nat_lt 1 (length (dim_at o d).hiers)) s
    where
      hiers : (s : Seat) → Chain o s (flat_map (hier_seats (dim_at o d) d) (places_of (dim_at o d).hiers))
      hiers = chain_flat (hier_seats (dim_at o d) d) (λ h. chain_tree (Inner d h) (λ _ _. refl) (λ _. refl) (length (tree (dim_at o d) h))) (places_of (dim_at o d).hiers)

      with_whole : (b : Bool) (s : Seat) → Chain o s ((if b then Whole d ∷ [] else []) ++ flat_map (hier_seats (dim_at o d) d) (places_of (dim_at o d).hiers))
      with_whole true s = (inl refl, hiers (Whole d))
      with_whole false s = hiers s

  seats_chain : (s : Seat) → Chain o s (seats o)
  unfolding seats
  seats_chain s =
      chain_append (flat_map (λ d. dim_seats (dim_at o d) d) (places_of o.dims)) (flat_map (attr_seats o) (places_of o.attrs))
      (chain_flat (attr_seats o) (λ a. chain_tree (Carried a) (λ _ _. refl) (λ _. refl) (length (attr_tree o a))) (places_of o.attrs))
      s (chain_flat (λ d. dim_seats (dim_at o d) d) chain_dim (places_of o.dims) s)

  follows_in : (xs : List Seat) (s : Seat) → Chain o s xs → (n : ℕ) (d : Seat) → n < length xs → Follows o (get_or (s ∷ xs) n d) (get_or xs n d)
  follows_in [] s h n d low = absurd (omega (arith, low))
  follows_in (x ∷ xs) s h zero d low = h.0
  follows_in (x ∷ xs) s h (suc n) d low = follows_in xs x h.1 n d (omega (arith, low))

  -- before the first member nothing stands, as in the tree above several hierarchies
  pub follows_at : (n : ℕ) (d : Seat) → n < length (seats o) → Follows o (get_or (Whole 0 ∷ seats o) n d) (get_or (seats o) n d)
  follows_at n d low = follows_in (seats o) (Whole 0) (seats_chain (Whole 0)) n d low

-- the list with one element before it
pub after_first : {X : Type 0} (x : X) (xs : List X) (n : ℕ) (d : X) → get_or (x ∷ xs) (n + 1) d ≡ get_or xs n d
after_first x xs n d = rw add-one refl
