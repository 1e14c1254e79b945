-- The members below a member of a tree: its children, each followed by what stands below it.
use Rattle.std.specs.Prelude.{slice_index}
use Rattle.std.specs.List.{filter, range_with_len}
use Rattle.std.proofs.Common.{◌≡◌, ◌∙◌, ℕ, zero, suc, ◌+◌, ◌-◌, ◌<◌, ◌≤◌, ◌^◌, Bool, true, false, cond, eqb, List, [], ◌∷◌, ◌++◌, length, refl, sym, ap, arith, ⊎_elim, ◌⊎◌, inl, inr, true≢false, eq-eqb}
use Rattle.std.proofs.lemmas.Bool.{ne_eqb}
use Rattle.std.proofs.lemmas.List.Elements.{filter-append}
use Rattle.aso_tree.specs.Trees.{is_under, places_of, IsTree}
use Rattle.aso_tree.proofs.Classes.{range_split, le_or_lt}
use Rattle.aso_tree.proofs.Ends.{EndsAt, next_is_child}
use Rattle.aso_tree.proofs.Preorder.{filter_none, opposite, stands_of, under_cases, under_le, under_self, under_stops, under_trans, under_up}
use Rattle.aso_outline.proofs.ChildPlaces.{none_before}

abbrev pub is_child : List ℕ → ℕ → ℕ → Bool
is_child parents top j = eqb (slice_index parents j) top

-- the children from a place on
abbrev pub kids : List ℕ → ℕ → ℕ → List ℕ
kids parents top k = filter (is_child parents top) (range_with_len k (length parents - k))

-- a place at which a child stands, or at which what stands below ends
abbrev pub IsBorder : List ℕ → ℕ → ℕ → ℕ → Type 0
IsBorder parents top end k = (top < k) × (k ≤ end) × (k < end → slice_index parents k ≡ top)

module _ (parents : List ℕ) (tree : IsTree parents) where
  -- of two nodes above a third one is above the other
  one_above_other : (n a b k : ℕ) → k ≤ n → a ≤ b → is_under parents a k ≡ true → is_under parents b k ≡ true → is_under parents a b ≡ true
  one_above_other zero a b k hn le ha hb =
      ⊎_elim
      (λ (same : k ≡ b). ap (is_under parents a) (sym same) ∙ ha)
      (λ (up : (slice_index parents k < k) × (is_under parents b (slice_index parents k) ≡ true)). absurd (omega (arith, hn, up.0)))
      (under_cases parents b k hb)
  one_above_other (suc n) a b k hn le ha hb =
      ⊎_elim
      (λ (same : k ≡ b). ap (is_under parents a) (sym same) ∙ ha)
      (λ (up_b : (slice_index parents k < k) × (is_under parents b (slice_index parents k) ≡ true)).
      ⊎_elim
      (λ (same : k ≡ a). let low : b ≤ slice_index parents k = under_le (slice_index parents k) parents b (slice_index parents k) (omega arith) up_b.1 in absurd (omega (arith, low, same, le, up_b.0)))
      (λ (up_a : (slice_index parents k < k) × (is_under parents a (slice_index parents k) ≡ true)). one_above_other n a b (slice_index parents k) (omega (arith, hn, up_b.0)) le up_a.1 up_b.1)
      (under_cases parents a k ha))
      (under_cases parents b k hb)

  module _ (short : length parents < 2 ^ 32) (top end : ℕ) (e : EndsAt parents tree top end) where
    top_low : top < length parents
    top_low = omega (arith, e.low, e.fits)

    child_under : (k : ℕ) → top < k → slice_index parents k ≡ top → is_under parents top k ≡ true
    child_under k after is = under_up parents top k (omega (arith, after, is)) (rw is (under_self parents top))

    pub first_border : (next : ℕ) → next ≡ top + 1 → IsBorder parents top end next
    first_border next is = (omega (arith, is), omega (arith, is, e.low), λ low. next_is_child parents tree top next is (e.below next (omega (arith, is)) low))

    no_child_after : (k : ℕ) → end ≤ k → k < length parents → slice_index parents k ≡ top → ⊥
    no_child_after k past low is =
        true≢false (sym (child_under k (omega (arith, past, e.low)) is) ∙ under_stops parents tree top end e.low (e.stop (omega (arith, past, low))) (k - end) k (omega (arith, past)) low)

    -- behind the end stands none
    pub none_left : kids parents top end ≡ []
    none_left = filter_none (is_child parents top) (length parents - end) end (λ k lo hi. ne_eqb _ _ (no_child_after k lo (omega (arith, hi, e.fits))))

    -- all stand behind the node
    pub all_behind : (next : ℕ) → next ≡ top + 1 → filter (is_child parents top) (places_of parents) ≡ kids parents top next
    all_behind next is =
        ap (λ n. filter (is_child parents top) (range_with_len 0 n)) (omega (arith, is, top_low))
        ∙ (ap (filter (is_child parents top)) (range_split next (length parents - next) 0 next (omega arith))
        ∙ (filter-append (is_child parents top) (range_with_len 0 next) (range_with_len next (length parents - next)) ∙ ap (λ xs. xs ++ kids parents top next) (none_before parents tree short top top_low next is)))

    -- a node behind it that has it for a parent stands before the end
    pub child_within : (c : ℕ) → c < length parents → slice_index parents c ≡ top → c < end
    child_within c low is = ⊎_elim (λ (past : end ≤ c). absurd (no_child_after c past low is)) (λ (lt : c < end). lt) (le_or_lt end c)

    module _ (c to : ℕ) (at : IsBorder parents top end c) (low : c < end) (ends : EndsAt parents tree c to) where
      is_one : slice_index parents c ≡ top
      is_one = at.2 low

      below_both : (k : ℕ) → c ≤ k → k < to → is_under parents top k ≡ true
      below_both k lo hi = under_trans k parents top c k (omega arith) (child_under c at.0 is_one) (ends.below k lo hi)

      within : to ≤ end
      within =
          ⊎_elim (λ (le : to ≤ end). le)
          (λ (lt : end < to). let out : is_under parents top end ≡ false = e.stop (omega (arith, lt, ends.fits)) in
          absurd (true≢false (sym (below_both end (omega (arith, low)) lt) ∙ out)))
          (le_or_lt to end)

      -- the node at the end of what stands below a child is the next child
      next_one : (last : ℕ) → to ≡ suc last → to < end → slice_index parents to ≡ top
      next_one last is before =
          ⊎_elim
          (λ (same : to ≡ top). omega (arith, same, at.0, ends.low))
          (λ (up : (slice_index parents to < to) × (is_under parents top (slice_index parents to) ≡ true)).
          let fits : to < length parents = omega (arith, before, e.fits) in
          let above : top ≤ slice_index parents to = under_le (slice_index parents to) parents top (slice_index parents to) (omega arith) up.1 in
          let on_path : is_under parents (slice_index parents to) last ≡ true = ap (λ k. is_under parents (slice_index parents k) last) is ∙ stands_of _ _ (tree (suc last) (omega (arith, is, fits))) in
          let last_below : is_under parents c last ≡ true = ends.below last (omega (arith, is, ends.low)) (omega (arith, is)) in
          ⊎_elim
          (λ (le : c ≤ slice_index parents to).
          let inside : is_under parents c (slice_index parents to) ≡ true = one_above_other last c (slice_index parents to) last (omega arith) le last_below on_path in
          absurd (true≢false (sym (under_up parents c to up.0 inside) ∙ ends.stop fits)))
          (λ (lt : slice_index parents to < c).
          let inside : is_under parents (slice_index parents to) c ≡ true = one_above_other last (slice_index parents to) c last (omega arith) (omega (arith, lt)) on_path last_below in
          ⊎_elim
          (λ (same : c ≡ slice_index parents to). absurd (omega (arith, same, lt)))
          (λ (up_c : (slice_index parents c < c) × (is_under parents (slice_index parents to) (slice_index parents c) ≡ true)).
          let le : slice_index parents to ≤ slice_index parents c = under_le (slice_index parents c) parents (slice_index parents to) (slice_index parents c) (omega arith) up_c.1 in
          omega (arith, le, above, is_one))
          (under_cases parents (slice_index parents to) c inside))
          (le_or_lt c (slice_index parents to)))
          (under_cases parents top to (e.below to (omega (arith, at.0, ends.low)) before))

      pub next_border : IsBorder parents top end to
      next_border = (omega (arith, at.0, ends.low), within, next_one (to - 1) (omega (arith, ends.low)))

      none_between : filter (is_child parents top) (range_with_len (c + 1) (to - (c + 1))) ≡ []
      none_between = filter_none (is_child parents top) (to - (c + 1)) (c + 1) (λ k lo hi. ne_eqb _ _ (λ (is : slice_index parents k ≡ top).
          ⊎_elim
          (λ (same : k ≡ c). omega (arith, same, lo))
          (λ (up : (slice_index parents k < k) × (is_under parents c (slice_index parents k) ≡ true)).
          let le : c ≤ slice_index parents k = under_le (slice_index parents k) parents c (slice_index parents k) (omega arith) up.1 in
          omega (arith, le, is, at.0))
          (under_cases parents c k (ends.below k (omega (arith, lo)) (omega (arith, hi, ends.low))))))

      -- a child stands before those behind what is below it
      pub one_more : kids parents top c ≡ c ∷ kids parents top to
      one_more =
          let long : length parents - c ≡ suc (to - (c + 1) + (length parents - to)) = omega (arith, ends.low, ends.fits) in
          ap (λ n. filter (is_child parents top) (range_with_len c n)) long
          ∙ (ap (λ b. cond b (c ∷ filter (is_child parents top) (range_with_len (c + 1) (to - (c + 1) + (length parents - to)))) (filter (is_child parents top) (range_with_len (c + 1) (to - (c + 1) + (length parents - to))))) (eq-eqb _ _ is_one)
          ∙ ap (λ xs. c ∷ xs) (
          ap (filter (is_child parents top)) (range_split (to - (c + 1)) (length parents - to) (c + 1) to (omega (arith, ends.low)))
          ∙ (filter-append (is_child parents top) (range_with_len (c + 1) (to - (c + 1))) (range_with_len to (length parents - to)) ∙ ap (λ xs. xs ++ kids parents top to) none_between)))
