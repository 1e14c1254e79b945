-- What follows from keeping the rules.
use Rattle.std.specs.Prelude.{slice_get, unwrap_or, nat_le}
use Rattle.std.specs.Option.{option_map}
use Rattle.std.specs.List.{position, list_all}
use Rattle.std.proofs.Common.{◌≡◌, ℕ, zero, suc, ◌<◌, ◌≤◌, ◌&&◌, ◌⊎◌, ⊎_elim, Bool, true, false, not, cond, List, [], ◌∷◌, length, None, refl, sym, arith, true≢false}
use Rattle.std.proofs.lemmas.Bool.{leb-true, ltb-true, eq-eqb}
use Rattle.aso_outline.specs.declared.draft.Draft.{Draft}
use Rattle.aso_outline.specs.declared.draft.DraftDim.{DraftDim}
use Rattle.aso_outline.specs.declared.draft.DraftHier.{DraftHier}
use Rattle.aso_outline.specs.declared.seat.Seat.TheVariants.{Inner}
use Rattle.aso_outline.specs.Members.{tree, dim_at, no_dim, seats, data_leaves}
use Rattle.aso_outline.specs.Rules.{first_broken, broken, is_counted, has_counts, is_within, is_word, is_counted_dim, has_members, least, breaks_preorder, breaks_roots, has_data_leaf, is_alone, of_members, of_places, of_trees, of_sharing, least_repeat, breaks_names}
use Rattle.aso_outline.specs.Kept.{HasCounts, HasDataLeaves}
use Rattle.aso_outline.proofs.AtSeats.{none_at, none_whole}
use Rattle.aso_outline.proofs.Kept.{kept_first, kept_if, counted_rule}
use Rattle.aso_outline.proofs.Smalls.{and_left, and_right}

module _ (o : Draft) (kept : broken o ≡ None) where
  pub counted : is_counted o ≡ true
  unfolding broken
  counted = kept_if (is_counted o) (kept_first counted_rule of_members o kept).0

  after_counts : first_broken of_members o ≡ None
  unfolding broken
  after_counts = (kept_first counted_rule of_members o kept).1

  after_names : first_broken ((3, least_repeat) ∷ of_places) o ≡ None
  after_names = (kept_first (2, least breaks_names) ((3, least_repeat) ∷ of_places) o after_counts).1

  after_repeat : first_broken of_places o ≡ None
  after_repeat = (kept_first (3, least_repeat) of_places o after_names).1

  after_preorder : first_broken of_trees o ≡ None
  after_preorder = (kept_first (4, least breaks_preorder) of_trees o after_repeat).1

  pub kept_roots : position (breaks_roots o) (seats o) ≡ None
  kept_roots = (kept_first (5, least breaks_roots) of_sharing o after_preorder).0

  pub counts_right : has_counts o ≡ true
  counts_right = and_left (has_counts o) _ counted

  pub kept_counts : HasCounts o
  unfolding has_counts
  kept_counts =
      let dims : is_within 1 16 (length o.dims) ≡ true = and_left (is_within 1 16 (length o.dims)) _ counts_right in
      let rest = and_right (is_within 1 16 (length o.dims)) _ counts_right in
      let words = and_right (has_counts o) _ counted in
      record {
        some_dim = leb-true 1 (length o.dims) (and_left (nat_le 1 (length o.dims)) _ dims);
        few_dims = leb-true (length o.dims) 16 (and_right (nat_le 1 (length o.dims)) _ dims);
        few_attrs = leb-true (length o.attrs) 16 (and_left (nat_le (length o.attrs) 16) _ rest);
        few_members = leb-true (length (seats o)) 1048576 (and_right (is_word o.db) _ (and_right (is_word o.app) _ words));
      }

  -- each dimension has a hierarchy, and each hierarchy a member
  hiers_right : (d : ℕ) → d < length o.dims → is_counted_dim (dim_at o d) ≡ true
  unfolding has_counts
  hiers_right d low =
      let rest = and_right (is_within 1 16 (length o.dims)) _ counts_right in
      let lists = and_right (nat_le (length o.attrs) 16) _ rest in
      each_at is_counted_dim o.dims no_dim (and_left (list_all is_counted_dim o.dims) _ lists) d low
    where
      each_at : {X : Type 0} (p : X → Bool) (xs : List X) (e : X) → list_all p xs ≡ true → (i : ℕ) → i < length xs → p (unwrap_or (slice_get xs i) e) ≡ true
      each_at p [] e all i low = absurd (omega (arith, low))
      each_at p (x ∷ xs) e all zero low = and_left (p x) _ all
      each_at p (x ∷ xs) e all (suc i) low = each_at p xs e (and_right (p x) _ all) i (omega (arith, low))

  first_tree : (hs : List DraftHier) → is_within 1 8 (length hs) ≡ true → list_all (λ (h : DraftHier). has_members h.members) hs ≡ true → 0 < length (unwrap_or (option_map (λ (x : DraftHier). x.members) (slice_get hs 0)) [])
  first_tree [] some all = absurd (true≢false (sym some))
  first_tree (h ∷ hs) some all =
      let one : 1 ≤ length h.members = leb-true 1 (length h.members) (and_left (nat_le 1 (length h.members)) _ (and_left (has_members h.members) _ all)) in
      omega (arith, one)

  not_false : (b : Bool) → not b ≡ false → b ≡ true
  not_false true h = refl
  not_false false h = absurd (true≢false h)

  alone : (a x y z : Bool) → a ≡ true → cond a (not (x && y)) z ≡ false → y ≡ true
  alone true x y z e h = and_right x y (not_false (x && y) h)
  alone false x y z e h = absurd (true≢false (sym e))

  one_or_more : (n : ℕ) → 1 ≤ n → (n ≡ 1) ⊎ (1 < n)
  one_or_more n h = grind arith

  has_leaf : (d : ℕ) → d < length o.dims → has_data_leaf (dim_at o d) ≡ true
  has_leaf d low =
      let dim : DraftDim = dim_at o d in
      let counts = hiers_right d low in
      let some : is_within 1 8 (length dim.hiers) ≡ true = and_left (is_within 1 8 (length dim.hiers)) _ counts in
      let members : 0 < length (tree dim 0) = first_tree dim.hiers some (and_right (is_within 1 8 (length dim.hiers)) _ counts) in
      ⊎_elim
      (λ (one : length dim.hiers ≡ 1). alone (is_alone dim) _ (has_data_leaf dim) _ (eq-eqb (length dim.hiers) 1 one) (none_at o (breaks_roots o) kept_roots (Inner d 0 0) members))
      (λ (several : 1 < length dim.hiers). not_false (has_data_leaf dim) (none_whole o (breaks_roots o) kept_roots d low several))
      (one_or_more (length dim.hiers) (leb-true 1 (length dim.hiers) (and_left (nat_le 1 (length dim.hiers)) _ some)))

  pub kept_leaves : HasDataLeaves o
  kept_leaves d low = ltb-true 0 (length (data_leaves (dim_at o d))) (has_leaf d low)
