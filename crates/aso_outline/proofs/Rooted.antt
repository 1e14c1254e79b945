-- Each hierarchy and each attribute dimension has a root, and a label-only member stands for a member.
use Rattle.std.specs.Prelude.{slice_get, unwrap_or, nat_le, if◌then◌else◌}
use Rattle.std.specs.Option.{option_map}
use Rattle.std.specs.List.{list_all, position}
use Rattle.std.proofs.Common.{◌≡◌, ◌∙◌, ℕ, zero, suc, ◌+◌, ◌<◌, ◌≤◌, ◌&&◌, ◌⊎◌, ⊎_elim, Bool, true, false, not, List, [], ◌∷◌, drop, length, length-drop, Option, Some, None, refl, sym, ap, arith, true≢false}
use Rattle.std.proofs.lemmas.Bool.{leb-true}
use Rattle.std.proofs.lemmas.Option.{none-some, same_Some}
use Rattle.aso_tree.specs.Trees.{is_leaf, places_of, IsTree}
use Rattle.aso_tree.proofs.Ends.{childless}
use Rattle.aso_outline.specs.declared.draft.Draft.{Draft}
use Rattle.aso_outline.specs.declared.draft.DraftAttr.{DraftAttr}
use Rattle.aso_outline.specs.declared.draft.DraftDim.{DraftDim}
use Rattle.aso_outline.specs.declared.draft.DraftHier.{DraftHier}
use Rattle.aso_outline.specs.declared.draft.DraftMember.{DraftMember}
use Rattle.aso_outline.specs.declared.seat.Seat.{Seat}
use Rattle.aso_outline.specs.declared.seat.Seat.TheVariants.{Whole, Inner, Carried}
use Rattle.aso_outline.specs.Kept.{HasRoots}
use Rattle.aso_outline.specs.Members.{dim_at, member_is, no_dim, parents_of, past_labels, resolve, seats, tree}
use Rattle.aso_outline.specs.Numbers.{IsSeat}
use Rattle.aso_outline.specs.Parents.{one_parent_each}
use Rattle.aso_outline.specs.Rules.{Rule, breaks_labels, breaks_sharing, broken, least_repeat, own_names, repeats, first_broken, has_counts, has_members, is_counted_attr, is_counted_dim, is_within, least, rules}
use Rattle.aso_outline.specs.Small.{HasTrees}
use Rattle.aso_outline.proofs.AtSeats.{none_at}
use Rattle.aso_outline.proofs.Kept.{kept_first}
use Rattle.aso_outline.proofs.KeptRules.{counts_right}
use Rattle.aso_outline.proofs.Smalls.{and_left, and_right}

-- ---- each rule is kept

pub each_kept : (rs : List Rule) (o : Draft) → first_broken rs o ≡ None → (k : ℕ) (r : Rule) → slice_get rs k ≡ Some r → r.1 o ≡ None
each_kept [] o kept k r is = absurd (none-some r is)
each_kept (x ∷ rs) o kept zero r is = ap (λ (y : Rule). y.1 o) (sym (same_Some x r is)) ∙ (kept_first x rs o kept).0
each_kept (x ∷ rs) o kept (suc k) r is = each_kept rs o (kept_first x rs o kept).1 k r is

pub kept_labels : (o : Draft) → broken o ≡ None → position (breaks_labels o) (seats o) ≡ None
unfolding broken
kept_labels o kept = each_kept rules o kept 7 (8, least breaks_labels) refl

pub kept_sharing : (o : Draft) → broken o ≡ None → position (breaks_sharing o) (seats o) ≡ None
unfolding broken
kept_sharing o kept = each_kept rules o kept 5 (6, least breaks_sharing) refl

pub kept_names : (o : Draft) → broken o ≡ None → position (repeats (own_names o)) (places_of (seats o)) ≡ None
unfolding broken
kept_names o kept = each_kept rules o kept 2 (3, least_repeat) refl

-- ---- roots

some_member : (ms : List DraftMember) → has_members ms ≡ true → 0 < length ms
some_member ms h = let one : 1 ≤ length ms = leb-true 1 (length ms) (and_left (nat_le 1 (length ms)) _ h) in omega (arith, one)

tree_some : (hs : List DraftHier) → list_all (λ (h : DraftHier). has_members h.members) hs ≡ true → (h : ℕ) → h < length hs → 0 < length (unwrap_or (option_map (λ (x : DraftHier). x.members) (slice_get hs h)) [])
tree_some [] all h low = absurd (omega (arith, low))
tree_some (x ∷ hs) all zero low = some_member x.members (and_left (has_members x.members) _ all)
tree_some (x ∷ hs) all (suc h) low = tree_some hs (and_right (has_members x.members) _ all) h (omega (arith, low))

attr_some : (xs : List DraftAttr) → list_all is_counted_attr xs ≡ true → (a : ℕ) → a < length xs → 0 < length (unwrap_or (option_map (λ (x : DraftAttr). x.members) (slice_get xs a)) [])
attr_some [] all a low = absurd (omega (arith, low))
attr_some (x ∷ xs) all zero low = some_member x.members (and_left (has_members x.members) _ all)
attr_some (x ∷ xs) all (suc a) low = attr_some xs (and_right (has_members x.members) _ all) a (omega (arith, low))

counted_at : (ds : List DraftDim) → list_all is_counted_dim ds ≡ true → (d : ℕ) → d < length ds → is_counted_dim (unwrap_or (slice_get ds d) no_dim) ≡ true
counted_at [] all d low = absurd (omega (arith, low))
counted_at (x ∷ ds) all zero low = and_left (is_counted_dim x) _ all
counted_at (x ∷ ds) all (suc d) low = counted_at ds (and_right (is_counted_dim x) _ all) d (omega (arith, low))

module _ (o : Draft) (kept : broken o ≡ None) where
  lists_right : (list_all is_counted_dim o.dims && list_all is_counted_attr o.attrs) ≡ true
  unfolding has_counts
  lists_right = and_right (nat_le (length o.attrs) 16) _ (and_right (is_within 1 16 (length o.dims)) _ (counts_right o kept))

  counted_dim : (d : ℕ) → d < length o.dims → is_counted_dim (dim_at o d) ≡ true
  counted_dim d low = counted_at o.dims (and_left (list_all is_counted_dim o.dims) _ lists_right) d low

  pub kept_trees : HasRoots o
  kept_trees = record {
    some_hier = λ d low. leb-true 1 (length (dim_at o d).hiers) (and_left (nat_le 1 (length (dim_at o d).hiers)) _ (and_left (is_within 1 8 (length (dim_at o d).hiers)) _ (counted_dim d low)));
    few_hiers = λ d low. leb-true (length (dim_at o d).hiers) 8 (and_right (nat_le 1 (length (dim_at o d).hiers)) _ (and_left (is_within 1 8 (length (dim_at o d).hiers)) _ (counted_dim d low)));
    trees = λ d h low hier. tree_some (dim_at o d).hiers (and_right (is_within 1 8 (length (dim_at o d).hiers)) _ (counted_dim d low)) h hier;
    attrs = λ a low. attr_some o.attrs (and_right (list_all is_counted_dim o.dims) _ lists_right) a low;
  }

-- ---- what a label-only member stands for

zero_or_more : (n : ℕ) → (n ≡ 0) ⊎ (0 < n)
zero_or_more n = grind arith

get_drop : {X : Type 0} (xs : List X) (i k j : ℕ) → j ≡ i + k → slice_get (drop i xs) k ≡ slice_get xs j
get_drop xs zero k j e = ap (slice_get xs) (omega (arith, e))
get_drop [] (suc i) k j e = refl
get_drop (x ∷ xs) (suc i) k zero e = absurd (omega (arith, e))
get_drop (x ∷ xs) (suc i) k (suc j) e = get_drop xs i k j (omega (arith, e))

abbrev is_label_at : List DraftMember → ℕ → Bool
is_label_at ms k = member_is (λ m. m.label_only) ms k

module _ (ms : List DraftMember) (tree : IsTree (parents_of ms)) where
  last_is_leaf : (i : ℕ) → i + 1 ≡ length ms → is_leaf (parents_of ms) i ≡ true
  last_is_leaf i e = childless (parents_of ms) tree i (i + 1) refl (omega (arith, e, one_parent_each ms)) (λ low _. omega (arith, low, e, one_parent_each ms))

  past_from : (xs : List DraftMember) (i : ℕ) → i + length xs ≡ length ms → ((k j : ℕ) → j ≡ i + k → is_label_at xs k ≡ true → is_leaf (parents_of ms) j ≡ false) → 0 < length xs → past_labels xs i < length ms
  past_from [] i e below some = absurd (omega (arith, some))
  past_from (m ∷ xs) i e below some = by_label m.label_only refl (λ (more : 0 < length xs). past_from xs (suc i) (omega (arith, e)) (λ k j is label. below (suc k) j (omega (arith, is)) label) more)
    where
      more : m.label_only ≡ true → 0 < length xs
      more label =
          ⊎_elim
          (λ (none : length xs ≡ 0). absurd (true≢false (sym (last_is_leaf i (omega (arith, e, none))) ∙ below 0 i (omega arith) label)))
          (λ (some : 0 < length xs). some)
          (zero_or_more (length xs))

      by_label : (b : Bool) → m.label_only ≡ b → (0 < length xs → past_labels xs (suc i) < length ms) → (if b then past_labels xs (suc i) else i) < length ms
      by_label true is rest = rest (more is)
      by_label false is rest = omega (arith, e)

  pub past_there : ((k : ℕ) → is_label_at ms k ≡ true → is_leaf (parents_of ms) k ≡ false) → (i : ℕ) → i < length ms → past_labels (drop i ms) i < length ms
  past_there below i low =
      past_from (drop i ms) i (omega (arith, length-drop i ms, low))
      (λ k j is label. below j (ap (λ (x : Option DraftMember). unwrap_or (option_map (λ m. m.label_only) x) false) (sym (get_drop ms i k j is)) ∙ label))
      (omega (arith, length-drop i ms, low))

not_true : (b : Bool) → not b ≡ true → b ≡ false
not_true true h = absurd (true≢false (sym h))
not_true false h = refl

not_not : (a b : Bool) → not (not a && b) ≡ false → a ≡ false
not_not true b h = absurd (true≢false h)
not_not false b h = refl

and_of : (a b : Bool) → a ≡ true → (a && b) ≡ false → b ≡ false
and_of true b e h = h
and_of false b e h = absurd (true≢false (sym e))

module _ (o : Draft) (has : HasTrees o) (roots : HasRoots o) (labels : position (breaks_labels o) (seats o) ≡ None) where
  -- a label-only member has a child
  label_has_child : (d h k : ℕ) → k < length (tree (dim_at o d) h) → is_label_at (tree (dim_at o d) h) k ≡ true → is_leaf (parents_of (tree (dim_at o d) h)) k ≡ false
  label_has_child d h k low label = not_not (is_leaf (parents_of (tree (dim_at o d) h)) k) _ (and_of (is_label_at (tree (dim_at o d) h) k) _ label (none_at o (breaks_labels o) labels (Inner d h k) low))

  label_within : (ms : List DraftMember) (k : ℕ) → is_label_at ms k ≡ true → k < length ms
  label_within [] k label = absurd (true≢false (sym label))
  label_within (m ∷ ms) zero label = omega arith
  label_within (m ∷ ms) (suc k) label = let rest : k < length ms = label_within ms k label in omega (arith, rest)

  stands : (d h i : ℕ) → i < length (tree (dim_at o d) h) → past_labels (drop i (tree (dim_at o d) h)) i < length (tree (dim_at o d) h)
  stands d h i low = past_there (tree (dim_at o d) h) (has.tree (Inner d h 0)) (λ k label. label_has_child d h k (label_within (tree (dim_at o d) h) k label) label) i low

  pub resolved_there : (s : Seat) → IsSeat o s → IsSeat o (resolve o s)
  resolved_there (Whole d) is = (is.0, omega (arith, is.1), stands d 0 0 (roots.trees d 0 is.0 (omega (arith, is.1))))
  resolved_there (Inner d h i) is = (is.0, is.1, stands d h i is.2)
  resolved_there (Carried a i) is = is
