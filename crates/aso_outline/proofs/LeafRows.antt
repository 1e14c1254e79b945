-- The data leaves that a member holds stand in a row.
use Rattle.std.specs.Prelude.{is_some, nat_le, nat_lt, slice_get, slice_index, unwrap_or, if◌then◌else◌}
use Rattle.std.specs.Option.{option_map, option_and_then}
use Rattle.std.specs.List.{filter, position, range_with_len}
use Rattle.std.proofs.Common.{◌≡◌, ◌∙◌, ℕ, zero, suc, ◌+◌, ◌<◌, ◌≤◌, ◌&&◌, ◌||◌, ◌⊎◌, ⊎_elim, inl, inr, Bool, true, false, not, eqb, cond, ◌∷◌, length, get_or, Option, Some, None, refl, sym, ap, arith, true≢false}
use Rattle.std.proofs.lemmas.Bool.{eqb-true, le-leb, le-ltb, leb-true, lt-ltb, ltb-true}
use Rattle.std.proofs.lemmas.List.Quantifiers.{position-Some}
use Rattle.std.proofs.lemmas.Option.{get_or_from_slice_get, none-some, same_Some, slice_get-get_or, slice_get_within}
use Rattle.std.proofs.lemmas.List.Folds.{list_any_at}
use Rattle.aso_tree.proofs.Positions.{some_if_any}
use Rattle.aso_tree.specs.Trees.{class_of, height, is_under, places_of, IsTree}
use Rattle.aso_tree.proofs.ClassRanges.{in_passing_range}
use Rattle.aso_tree.proofs.Ends.{EndsAt}
use Rattle.aso_outline.specs.declared.draft.Draft.{Draft}
use Rattle.aso_outline.specs.declared.draft.DraftMember.{DraftMember}
use Rattle.aso_outline.specs.declared.seat.Seat.{Seat}
use Rattle.aso_outline.specs.declared.seat.Seat.TheVariants.{Whole, Inner, Carried}
use Rattle.aso_outline.specs.Classes.{class_at, has_range, holds_place, is_in, leaf_count, leaf_named, leaf_place, shared_leaf}
use Rattle.aso_outline.specs.Leaves.{is_data_place, leaves_before, name_in}
use Rattle.aso_outline.specs.Members.{Name, data_leaves, dim_at, dim_of, is_dynamic, leaf_names, parents_of, resolve, same_name, seats, tree}
use Rattle.aso_outline.specs.Parents.{one_parent_each}
use Rattle.aso_outline.specs.Rules.{breaks_sharing, is_shared, own_names, repeats, shares}
use Rattle.aso_outline.proofs.ClassLemmas.{class_high, passes_there, sharer_place}
use Rattle.aso_outline.proofs.HoldLemmas.{held, held_by_name, leaf_name_is, under_leaf}
use Rattle.aso_outline.proofs.Known.{same_is}
use Rattle.aso_outline.proofs.LeafNames.{some_at}
use Rattle.aso_outline.proofs.Nexts.{position_within}
use Rattle.aso_outline.proofs.TableLemmas.{passes_within}
use Rattle.aso_outline.proofs.Unique.{name_there, only_own, same_self, shared_is_leaf, test_there}

-- ---- the place of the one that so many stand before

passes_from : (p : ℕ → Bool) (n a k d : ℕ) → k < length (filter p (range_with_len a n)) → a ≤ get_or (filter p (range_with_len a n)) k d
passes_from p zero a k d low = absurd (omega (arith, low))
passes_from p (suc n) a k d low = by_test (p a) k (λ j less. passes_from p n (a + 1) j d less) low
  where
    by_test : (b : Bool) (k : ℕ) → ((j : ℕ) → j < length (filter p (range_with_len (a + 1) n)) → a + 1 ≤ get_or (filter p (range_with_len (a + 1) n)) j d)
        → k < length (cond b (a ∷ filter p (range_with_len (a + 1) n)) (filter p (range_with_len (a + 1) n))) → a ≤ get_or (cond b (a ∷ filter p (range_with_len (a + 1) n)) (filter p (range_with_len (a + 1) n))) k d
    by_test true zero rest low = omega arith
    by_test true (suc k) rest low = let le = rest k (omega (arith, low)) in omega (arith, le)
    by_test false k rest low = let le = rest k low in omega (arith, le)

pub count_there : (p : ℕ → Bool) (n a k m d : ℕ) → k < length (filter p (range_with_len a n)) → a + m ≡ get_or (filter p (range_with_len a n)) k d → length (filter p (range_with_len a m)) ≡ k
count_there p zero a k m d low at = absurd (omega (arith, low))
count_there p (suc n) a k m d low at = by_test (p a) refl k m (λ j i less here. count_there p n (a + 1) j i d less here) (λ j less. passes_from p n (a + 1) j d less) low at
  where
    by_test : (b : Bool) → p a ≡ b → (k m : ℕ) → ((j i : ℕ) → j < length (filter p (range_with_len (a + 1) n)) → a + 1 + i ≡ get_or (filter p (range_with_len (a + 1) n)) j d → length (filter p (range_with_len (a + 1) i)) ≡ j)
        → ((j : ℕ) → j < length (filter p (range_with_len (a + 1) n)) → a + 1 ≤ get_or (filter p (range_with_len (a + 1) n)) j d)
        → k < length (cond b (a ∷ filter p (range_with_len (a + 1) n)) (filter p (range_with_len (a + 1) n))) → a + m ≡ get_or (cond b (a ∷ filter p (range_with_len (a + 1) n)) (filter p (range_with_len (a + 1) n))) k d → length (filter p (range_with_len a m)) ≡ k
    by_test true is zero zero rest from low at = refl
    by_test true is zero (suc m) rest from low at = absurd (omega (arith, at))
    by_test true is (suc k) zero rest from low at = let le = from k (omega (arith, low)) in absurd (omega (arith, le, at))
    by_test true is (suc k) (suc m) rest from low at = let more = rest k m (omega (arith, low)) (omega (arith, at)) in rw is (omega (arith, more))
    by_test false is k zero rest from low at = let le = from k low in absurd (omega (arith, le, at))
    by_test false is k (suc m) rest from low at = let more = rest k m low (omega (arith, at)) in rw is more

pub ordinal_is : (o : Draft) (d leaf : ℕ) → leaf < leaf_count o d → leaves_before (tree (dim_at o d) 0) (slice_index (data_leaves (dim_at o d)) leaf) ≡ leaf
ordinal_is o d leaf low =
    let t = tree (dim_at o d) 0 in
    count_there (is_data_place t) (length t) 0 leaf (slice_index (data_leaves (dim_at o d)) leaf) 0 low (omega arith)

-- the name of a data leaf
abbrev own_of : Draft → ℕ → ℕ → Name
own_of o d n = name_in (tree (dim_at o d) 0) (slice_index (data_leaves (dim_at o d)) n)

same_bool : (a b : Bool) → (a ≡ true → b ≡ true) → (b ≡ true → a ≡ true) → a ≡ b
same_bool true b f g = sym (f refl)
same_bool false true f g = g refl
same_bool false false f g = refl

and_left : (a b : Bool) → (a && b) ≡ true → a ≡ true
and_left true b h = refl
and_left false b h = absurd (true≢false (sym h))

and_right : (a b : Bool) → (a && b) ≡ true → b ≡ true
and_right true b h = h
and_right false b h = absurd (true≢false (sym h))

alone_in : (k n : ℕ) → is_in (k, k + 1) n ≡ true → n ≡ k
alone_in k n h =
    let lo = leb-true k n (and_left (nat_le k n) (nat_lt n (k + 1)) h) in
    let hi = ltb-true n (k + 1) (and_right (nat_le k n) (nat_lt n (k + 1)) h) in
    omega (arith, lo, hi)

alone_there : (k n : ℕ) → n ≡ k → is_in (k, k + 1) n ≡ true
alone_there k n same = rw (le-leb k n (omega (arith, same)), lt-ltb n (k + 1) (omega (arith, same))) refl

pub none_in : (n : ℕ) → is_in (0, 0) n ≡ false
none_in n = by_second (nat_le 0 n) (nat_lt n 0) (le-ltb n 0 (omega arith))
  where
    by_second : (a b : Bool) → b ≡ false → (a && b) ≡ false
    by_second true b e = e
    by_second false b e = refl

module _ (o : Draft) (names : position (repeats (own_names o)) (places_of (seats o)) ≡ None) (sharing : position (breaks_sharing o) (seats o) ≡ None) (d : ℕ) (low : d < length o.dims) (first : 0 < length (dim_at o d).hiers) where
  module _ (leaf : ℕ) (below : leaf < leaf_count o d) where
    abbrev place : ℕ
    place = slice_index (data_leaves (dim_at o d)) leaf

    within : slice_index (data_leaves (dim_at o d)) leaf < length (tree (dim_at o d) 0)
    within = let t = tree (dim_at o d) 0 in let less : slice_index (data_leaves (dim_at o d)) leaf < 0 + length t = passes_within (is_data_place t) (length t) 0 leaf 0 below in omega (arith, less)

    -- the leaf's place in a hierarchy is one of its places
    pub place_within : (h k : ℕ) → leaf_place o d h leaf ≡ Some k → k < length (tree (dim_at o d) h)
    place_within zero k is =
        let same : slice_index (data_leaves (dim_at o d)) leaf ≡ k = same_Some (slice_index (data_leaves (dim_at o d)) leaf) k (sym (slice_get-get_or (data_leaves (dim_at o d)) leaf 0 below) ∙ is) in
        omega (arith, same, within)
    place_within (suc h) k is = let found = sharer_place o d (suc h) leaf k (sym is) in position_within (shares found.0) (tree (dim_at o d) (suc h)) k found.1

    -- in the first hierarchy the ordinal is in the range exactly where the leaf lies below
    pub in_leaf_range : (i end : ℕ) (is_tree : IsTree (parents_of (tree (dim_at o d) 0))) → EndsAt (parents_of (tree (dim_at o d) 0)) is_tree i end
        → is_in (leaves_before (tree (dim_at o d) 0) i, leaves_before (tree (dim_at o d) 0) end) leaf ≡ holds_place o d 0 i leaf
    in_leaf_range i end is_tree ends =
        let t = tree (dim_at o d) 0 in
        let ps = parents_of t in
        ap (is_in (leaves_before t i, leaves_before t end)) (sym (ordinal_is o d leaf below))
        ∙ (in_passing_range ps is_tree i end ends (is_data_place t) (slice_index (data_leaves (dim_at o d)) leaf) (omega (arith, within, one_parent_each t)) (passes_there (is_data_place t) (length t) 0 leaf 0 below)
        ∙ (sym (ap (λ (x : Option ℕ). unwrap_or (option_map (is_under ps i) x) false) (slice_get-get_or (data_leaves (dim_at o d)) leaf 0 below))
        ∙ sym (held o names sharing d low leaf below first 0 i first (λ high. absurd (omega (arith, high))))))

    -- above level 0 the class is in the range exactly where the leaf lies below
    pub in_range_above : (h i level class : ℕ) (range : ℕ × ℕ) → h < length (dim_at o d).hiers → 0 < level → is_dynamic o (Inner d h i) ≡ false
        → ((k c : ℕ) → k < length (parents_of (tree (dim_at o d) h)) → class_of (parents_of (tree (dim_at o d) h)) level k ≡ Some c → is_in range c ≡ is_under (parents_of (tree (dim_at o d) h)) i k)
        → class_at o d h level leaf ≡ Some class → is_in range class ≡ holds_place o d h i leaf
    in_range_above h i level class range there above stored exactly has = by_place (leaf_place o d h leaf) refl (sym (class_high o d h level leaf above) ∙ has)
      where
        by_place : (x : Option ℕ) → leaf_place o d h leaf ≡ x → option_and_then (class_of (parents_of (tree (dim_at o d) h)) level) x ≡ Some class → is_in range class ≡ holds_place o d h i leaf
        by_place None is e = absurd (none-some class e)
        by_place (Some k) is e =
            let t = tree (dim_at o d) h in
            exactly k class (omega (arith, place_within h k is, one_parent_each t)) e
            ∙ (sym (ap (λ (x : Option ℕ). unwrap_or (option_map (is_under (parents_of t) i) x) false) is) ∙ sym (held o names sharing d low leaf below first h i there (λ _. stored)))

  -- ---- shared members

  module _ (h i : ℕ) (m : DraftMember) (at : slice_get (tree (dim_at o d) h) i ≡ Some m) (shared : m.shared ≡ true) (is_tree : IsTree (parents_of (tree (dim_at o d) h))) (inside : i < length (tree (dim_at o d) h)) where
    held_if_named : (leaf : ℕ) → leaf < leaf_count o d → holds_place o d h i leaf ≡ same_name (name_in (tree (dim_at o d) 0) (slice_index (data_leaves (dim_at o d)) leaf)) (name_in (tree (dim_at o d) h) i)
    held_if_named leaf below =
        held_by_name o d leaf h i below
        ∙ under_leaf (tree (dim_at o d) h) is_tree i (name_in (tree (dim_at o d) 0) (slice_index (data_leaves (dim_at o d)) leaf)) inside (shared_is_leaf o sharing d h i m at shared)

    named_there : (k : ℕ) → shared_leaf o d h i ≡ Some k → leaf_named o d (name_in (tree (dim_at o d) h) i) ≡ Some k
    named_there k is = sym (ap (λ (b : Bool). if b then leaf_named o d (name_in (tree (dim_at o d) h) i) else None) (test_there (λ (x : DraftMember). x.shared) (tree (dim_at o d) h) i m at ∙ shared)) ∙ is

    module _ (k : ℕ) (low_k : k < leaf_count o d) (is : shared_leaf o d h i ≡ Some k) where
      same_there : name_in (tree (dim_at o d) h) i ≡ name_in (tree (dim_at o d) 0) (slice_index (data_leaves (dim_at o d)) k)
      same_there =
          let q = name_in (tree (dim_at o d) h) i in
          let own = name_in (tree (dim_at o d) 0) (slice_index (data_leaves (dim_at o d)) k) in
          let found = position-Some (same_name q) (leaf_names (dim_at o d)) k own (named_there k is) in
          same_is q own (sym (ap (same_name q) (get_or_from_slice_get (leaf_names (dim_at o d)) k own own (leaf_name_is o d k low_k))) ∙ found.1)

      pub in_shared_range : (leaf : ℕ) → leaf < leaf_count o d → is_in (k, k + 1) leaf ≡ holds_place o d h i leaf
      in_shared_range leaf below =
          same_bool (is_in (k, k + 1) leaf) (same_name (own_of o d leaf) (name_in (tree (dim_at o d) h) i))
          (λ e. ap (λ (n : ℕ). same_name (own_of o d n) (name_in (tree (dim_at o d) h) i)) (alone_in k leaf e) ∙ (ap (same_name (own_of o d k)) same_there ∙ same_self (own_of o d k)))
          (λ e. alone_there k leaf (same_leaf (same_is (own_of o d leaf) (name_in (tree (dim_at o d) h) i) e ∙ same_there)))
          ∙ sym (held_if_named leaf below)
        where
          same_leaf : own_of o d leaf ≡ own_of o d k → leaf ≡ k
          same_leaf e =
              let t = tree (dim_at o d) 0 in
              let p = slice_index (data_leaves (dim_at o d)) k in
              let j = slice_index (data_leaves (dim_at o d)) leaf in
              let own = some_at t p (within k low_k) in
              let other = some_at t j (within leaf below) in
              let places : j ≡ p =
              only_own o names sharing d p (own_of o d k) low own.0 own.1 (sym (name_there t p own.0 own.1)) first j other.0 other.1 (sym (name_there t j other.0 other.1) ∙ e) in
              sym (ordinal_is o d leaf below) ∙ (ap (leaves_before t) places ∙ ordinal_is o d k low_k)

    not_named : shared_leaf o d h i ≡ None → position (same_name (name_in (tree (dim_at o d) h) i)) (leaf_names (dim_at o d)) ≡ None
    not_named none = sym (ap (λ (b : Bool). if b then leaf_named o d (name_in (tree (dim_at o d) h) i) else None) (test_there (λ (x : DraftMember). x.shared) (tree (dim_at o d) h) i m at ∙ shared)) ∙ none

    pub none_shared : shared_leaf o d h i ≡ None → (leaf : ℕ) → leaf < leaf_count o d → false ≡ holds_place o d h i leaf
    none_shared none leaf below =
        let q = name_in (tree (dim_at o d) h) i in
        let own = own_of o d leaf in
        let there = leaf_name_is o d leaf below in
        same_bool false (same_name own q) (λ e. absurd (true≢false (sym e)))
        (λ e.
        let pass : same_name q (get_or (leaf_names (dim_at o d)) leaf own) ≡ true =
        ap (same_name q) (get_or_from_slice_get (leaf_names (dim_at o d)) leaf own own there ∙ same_is own q e) ∙ same_self q in
        sym (ap is_some (not_named none)) ∙ (some_if_any (same_name q) (leaf_names (dim_at o d)) ∙ list_any_at (same_name q) (leaf_names (dim_at o d)) leaf own (slice_get_within (leaf_names (dim_at o d)) leaf own there) pass))
        ∙ sym (held_if_named leaf below)

-- ---- what the need of a range says

pub high_range : (o : Draft) (d h i level : ℕ) → 0 < level → has_range o (Inner d h i) level ≡ (nat_le level (height (parents_of (tree (dim_at o d) h)) i) && not (is_dynamic o (Inner d h i)))
high_range o d h i zero above = absurd (omega (arith, above))
high_range o d h i (suc level) above = refl

pub low_range : (o : Draft) (d h i level : ℕ) → level ≡ 0 → has_range o (Inner d h i) level ≡ (eqb h 0 || is_shared o (Inner d h i))
low_range o d h i level is = ap (has_range o (Inner d h i)) is

not_true : (b : Bool) → not b ≡ true → b ≡ false
not_true true h = absurd (true≢false (sym h))
not_true false h = refl

or_split : (a b : Bool) → (a || b) ≡ true → (a ≡ true) ⊎ (b ≡ true)
or_split true b h = inl refl
or_split false b h = inr h

pub range_high : (o : Draft) (d h i level : ℕ) → 0 < level → has_range o (Inner d h i) level ≡ true → (level ≤ height (parents_of (tree (dim_at o d) h)) i) × (is_dynamic o (Inner d h i) ≡ false)
range_high o d h i level above range =
    let both = sym (high_range o d h i level above) ∙ range in
    let high = nat_le level (height (parents_of (tree (dim_at o d) h)) i) in
    (leb-true level (height (parents_of (tree (dim_at o d) h)) i) (and_left high (not (is_dynamic o (Inner d h i))) both), not_true (is_dynamic o (Inner d h i)) (and_right high (not (is_dynamic o (Inner d h i))) both))

pub range_low : (o : Draft) (d h i level : ℕ) → level ≡ 0 → has_range o (Inner d h i) level ≡ true → (h ≡ 0) ⊎ (is_shared o (Inner d h i) ≡ true)
range_low o d h i level is range =
    ⊎_elim (λ (first : eqb h 0 ≡ true). inl (eqb-true h 0 first)) (λ (shared : is_shared o (Inner d h i) ≡ true). inr shared)
    (or_split (eqb h 0) (is_shared o (Inner d h i)) (sym (low_range o d h i level is) ∙ range))

pub low_class : (o : Draft) (d h level leaf class : ℕ) → level ≡ 0 → class_at o d h level leaf ≡ Some class → leaf ≡ class
low_class o d h level leaf class is has = same_Some leaf class (sym (ap (λ (k : ℕ). class_at o d h k leaf) is) ∙ has)

pub resolved_dim : (o : Draft) (s : Seat) (d h i : ℕ) → resolve o s ≡ Inner d h i → dim_of s ≡ d
resolved_dim o (Whole e) d h i is = cc
resolved_dim o (Inner e g j) d h i is = cc
resolved_dim o (Carried a j) d h i is = cc
