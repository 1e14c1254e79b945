-- The children of a node stand behind it, as far as nodes lie below it.
use Rattle.std.specs.Prelude.{slice_index}
use Rattle.std.specs.List.{filter, range_with_len}
use Rattle.std.proofs.Common.{◌≡◌, ◌∙◌, ℕ, ◌+◌, ◌-◌, ◌<◌, ◌≤◌, ◌^◌, Bool, false, eqb, List, [], ◌++◌, length, sym, ap, arith, append-nil, true≢false}
use Rattle.std.proofs.lemmas.Bool.{ne_eqb}
use Rattle.std.proofs.lemmas.List.Elements.{filter-append}
use Rattle.aso_tree.specs.Trees.{is_under, places_of, IsTree}
use Rattle.aso_tree.proofs.Children.{not_parent}
use Rattle.aso_tree.proofs.Classes.{range_split}
use Rattle.aso_tree.proofs.Preorder.{filter_none, under_self, under_stops, under_up}
use Rattle.aso_outline.specs.declared.draft.Draft.{Draft}
use Rattle.aso_outline.specs.declared.seat.Seat.{Seat}
use Rattle.aso_outline.specs.Members.{parents_of, place_of, tree_of}
use Rattle.aso_outline.specs.Parents.{one_parent_each}
use Rattle.aso_outline.specs.Ranks.{is_child_place}
use Rattle.aso_outline.specs.Small.{HasTrees}

module _ (parents : List ℕ) (tree : IsTree parents) (short : length parents < 2 ^ 32) (top : ℕ) (low : top < length parents) where
  abbrev is_child : ℕ → Bool
  is_child j = eqb (slice_index parents j) top

  pub none_before : (end : ℕ) → end ≡ top + 1 → filter is_child (range_with_len 0 end) ≡ []
  none_before end is =
      filter_none is_child end 0 (λ k lo hi. ne_eqb _ _ (λ (e : slice_index parents k ≡ top). not_parent parents tree short k top (omega (arith, hi, is, low)) (omega (arith, hi, is)) low e))

  pub none_behind : (end n : ℕ) → top < end → end + n ≡ length parents → (end < length parents → is_under parents top end ≡ false) → filter is_child (places_of parents) ≡ filter is_child (range_with_len 0 end)
  none_behind end n after sum stop =
      let rest : filter is_child (range_with_len end n) ≡ [] = filter_none is_child n end (λ k lo hi. ne_eqb _ _ (λ (e : slice_index parents k ≡ top).
      true≢false (sym (under_up parents top k (omega (arith, e, after, lo)) (rw e (under_self parents top)))
      ∙ under_stops parents tree top end after (stop (omega (arith, lo, hi, sum))) (k - end) k (omega (arith, lo)) (omega (arith, hi, sum))))) in
      ap (λ (m : ℕ). filter is_child (range_with_len 0 m)) (sym sum)
      ∙ (ap (filter is_child) (range_split end n 0 end (omega arith))
      ∙ (filter-append is_child (range_with_len 0 end) (range_with_len end n) ∙ (ap (λ (xs : List ℕ). filter is_child (range_with_len 0 end) ++ xs) rest ∙ append-nil (filter is_child (range_with_len 0 end)))))

module _ (o : Draft) (s : Seat) (trees : HasTrees o) (low : place_of s < length (tree_of o s)) where
  long : length (parents_of (tree_of o s)) ≡ length (tree_of o s)
  long = one_parent_each (tree_of o s)

  short : length (parents_of (tree_of o s)) < 2 ^ 32
  short = omega (arith, long, trees.short s)

  in_parents : place_of s < length (parents_of (tree_of o s))
  in_parents = omega (arith, long, low)

  pub none_yet : (end : ℕ) → end ≡ place_of s + 1 → filter (is_child_place o s) (range_with_len 0 end) ≡ []
  none_yet = none_before (parents_of (tree_of o s)) (trees.tree s) short (place_of s) in_parents

  pub all_found : (end : ℕ) → place_of s < end → end ≤ length (tree_of o s) → (end < length (tree_of o s) → is_under (parents_of (tree_of o s)) (place_of s) end ≡ false)
      → filter (is_child_place o s) (places_of (tree_of o s)) ≡ filter (is_child_place o s) (range_with_len 0 end)
  all_found end after fits stop =
      ap (λ (n : ℕ). filter (is_child_place o s) (range_with_len 0 n)) (sym long)
      ∙ none_behind (parents_of (tree_of o s)) (trees.tree s) short (place_of s) in_parents end (length (tree_of o s) - end) after (omega (arith, long, fits)) (λ within. stop (omega (arith, long, within)))
