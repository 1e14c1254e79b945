-- The first leaf that names name in each dimension, and the cell of these leaves.
use Rattle.std.proofs.Common.{◌≡◌, ◌∙◌, ℕ, zero, suc, ◌+◌, ◌-◌, ◌<◌, ◌&&◌, Bool, true, false, cond, eqb, List, [], ◌∷◌, ◌++◌, map, length, get_or, Option, Some, None, refl, sym, ap, subst, arith, true≢false}
use Rattle.std.specs.Prelude.{IfSome, is_none, is_some, nat_lt, slice_get, slice_index, unwrap_or}
use Rattle.std.specs.Option.{option_and_then, option_map, option_or}
use Rattle.std.specs.List.{cons_option, filter_map, find, range_with_len}
use Rattle.std.proofs.lemmas.Bool.{eqb-true, lt-ltb, ltb-true}
use Rattle.std.proofs.lemmas.List.{length-map}
use Rattle.std.proofs.lemmas.List.Elements.{filter_map-append}
use Rattle.std.proofs.lemmas.List.FromFn.{fill_by_all}
use Rattle.aso_tree.specs.Trees.{places_of}
use Rattle.aso_outline.specs.declared.draft.Draft.{Draft}
use Rattle.aso_outline.specs.Classes.{leaf_count}
use Rattle.aso_outline.specs.Kept.{HasDataLeaves}
use Rattle.aso_outline.specs.Members.{Name, dim_at}
use Rattle.aso_outline.specs.Ranks.{named}
use Rattle.aso_spec.specs.Named.{key_named, ordinal_in, ordinals_named}
use Rattle.aso_cellnames.specs.Names.{lacking}
use Rattle.aso_cellnames.specs.Slots.{AreFirst, IsLeaf, leaf_in, leaves_in, slot_at}
use Rattle.aso_cellnames.specs.Leaves.{are_leaves, leaf_counts}

both : (a b : Bool) → (a && b) ≡ true → (a ≡ true) × (b ≡ true)
both true b h = (refl, h)
both false b h = (h, cc)

and_true : (a b : Bool) → a ≡ true → b ≡ true → (a && b) ≡ true
and_true true b ha hb = hb
and_true false b ha hb = ha

-- ---- one name more

first_or : (xs : List ℕ) (h : Option ℕ) → slice_get (xs ++ cons_option h []) 0 ≡ option_or (slice_get xs 0) h
first_or [] None = refl
first_or [] (Some x) = refl
first_or (y ∷ ys) h = refl

module _ (o : Draft) (front : List Name) (name : Name) where
  first_more : (d : ℕ) → slice_get (ordinals_named o (front ++ name ∷ []) d) 0 ≡ option_or (slice_get (ordinals_named o front d) 0) (option_and_then (ordinal_in o d) (named o name))
  unfolding ordinals_named
  first_more d =
      let f : Name → Option ℕ = λ n. option_and_then (ordinal_in o d) (named o n) in
      ap (λ (xs : List ℕ). slice_get xs 0) (filter_map-append f front (name ∷ [])) ∙ first_or (filter_map f front) (f name)

small_or : (bound : ℕ) (a b : Option ℕ) → IfSome a (λ x. x < bound) → IfSome b (λ x. x < bound) → IfSome (option_or a b) (λ x. x < bound)
small_or bound None b ha hb = hb
small_or bound (Some x) b ha hb = ha

small_by : (o : Draft) (p : ℕ × ℕ) (d : ℕ) (b : Bool) → eqb d p.0 ≡ b → IsLeaf o p → IfSome (cond b (Some p.1) None) (λ leaf. leaf < leaf_count o d)
small_by o p d true e there = subst (λ (k : ℕ). p.1 < leaf_count o k) (sym (eqb-true d p.0 e)) there.1
small_by o p d false e there = tt

small_leaf : (o : Draft) (leaf : Option (ℕ × ℕ)) (d : ℕ) → IfSome leaf (IsLeaf o) → IfSome (leaf_in d leaf) (λ x. x < leaf_count o d)
small_leaf o None d there = tt
small_leaf o (Some p) d there = small_by o p d (eqb d p.0) refl there

pub first_filled : (o : Draft) (front : List Name) (name : Name) (old new : List (Option ℕ)) (leaf : Option (ℕ × ℕ)) → AreFirst o front old → length new ≡ length old
    → ((d : ℕ) → d < length old → slot_at new d ≡ option_or (slot_at old d) (leaf_in d leaf)) → ((d : ℕ) → option_and_then (ordinal_in o d) (named o name) ≡ leaf_in d leaf)
    → IfSome leaf (IsLeaf o) → AreFirst o (front ++ name ∷ []) new
first_filled o front name old new leaf before long each is there = (
  long ∙ before.0,
  λ d low.
      let was = before.1 d low in
      let now : slot_at new d ≡ option_or (slot_at old d) (leaf_in d leaf) = each d (omega (arith, low, before.0)) in (
        now ∙ ap (λ (x : Option ℕ). option_or x (leaf_in d leaf)) was.0 ∙ ap (option_or (slice_get (ordinals_named o front d) 0)) (sym (is d)) ∙ sym (first_more o front name d),
        subst (λ (x : Option ℕ). IfSome x (λ k. k < leaf_count o d)) (sym now) (small_or (leaf_count o d) (slot_at old d) (leaf_in d leaf) was.1 (small_leaf o leaf d there)),
      ),
)

pub first_of_none : (o : Draft) (slots : List (Option ℕ)) → length slots ≡ length o.dims → ((d : ℕ) → slot_at slots d ≡ None) → AreFirst o [] slots
unfolding ordinals_named
first_of_none o slots long empty = (long, λ d low. (empty d, subst (λ (x : Option ℕ). IfSome x (λ k. k < leaf_count o d)) (sym (empty d)) tt))

-- ---- the dimension that is lacking

unequal : (a b : ℕ) → (a ≡ b → ⊥) → eqb a b ≡ false
unequal a b ne = by (eqb a b) refl
  where
    by : (x : Bool) → eqb a b ≡ x → eqb a b ≡ false
    by true e = absurd (ne (eqb-true a b e))
    by false e = e

none_first : (xs : List ℕ) → is_none (slice_get xs 0) ≡ eqb (length xs) 0
none_first [] = refl
none_first (x ∷ xs) = sym (unequal (length (x ∷ xs)) 0 (λ e. omega (arith, e)))

found_alike : (p q : ℕ → Bool) (a n : ℕ) → ((d : ℕ) → d < a + n → p d ≡ q d) → find p (range_with_len a n) ≡ find q (range_with_len a n)
found_alike p q a zero same = refl
found_alike p q a (suc n) same =
    ap (λ (b : Bool). cond b (Some a) (find p (range_with_len (a + 1) n))) (same a (omega arith))
    ∙ ap (λ (x : Option ℕ). cond (q a) (Some a) x) (found_alike p q (a + 1) n (λ d low. same d (omega (arith, low))))

pub none_of_some : (x : Option ℕ) → is_some x ≡ true → is_none x ≡ false
none_of_some None h = absurd (true≢false (sym h))
none_of_some (Some y) h = refl

pub find_next : (p : ℕ → Bool) (i n : ℕ) → i < n → p i ≡ false → find p (range_with_len i (n - i)) ≡ find p (range_with_len (i + 1) (n - (i + 1)))
find_next p i n low h =
    let one_more : n - i ≡ suc (n - (i + 1)) = omega (arith, low) in
    ap (λ (k : ℕ). find p (range_with_len i k)) one_more ∙ ap (λ (b : Bool). cond b (Some i) (find p (range_with_len (i + 1) (n - (i + 1))))) h

pub lacking_is : (o : Draft) (names : List Name) (slots : List (Option ℕ)) → AreFirst o names slots
    → option_map (λ d. (dim_at o d).name) (find (λ d. is_none (slot_at slots d)) (places_of slots)) ≡ lacking o names
lacking_is o names slots are =
    ap (λ (n : ℕ). option_map (λ d. (dim_at o d).name) (find (λ d. is_none (slot_at slots d)) (range_with_len 0 n))) are.0
    ∙ ap (option_map (λ d. (dim_at o d).name))
    (found_alike (λ d. is_none (slot_at slots d)) (λ d. eqb (length (ordinals_named o names d)) 0) 0 (length o.dims) (λ d low. ap is_none (are.1 d (omega (arith, low))).0 ∙ none_first (ordinals_named o names d)))

-- ---- the cell

leaf_at : (slots : List (Option ℕ)) (k : ℕ) → get_or (leaves_in slots) k 0 ≡ unwrap_or (slot_at slots k) 0
leaf_at [] zero = refl
leaf_at [] (suc k) = refl
leaf_at (x ∷ xs) zero = refl
leaf_at (x ∷ xs) (suc k) = leaf_at xs k

first_or_zero : (xs : List ℕ) → unwrap_or (slice_get xs 0) 0 ≡ slice_index xs 0
first_or_zero [] = refl
first_or_zero (x ∷ xs) = refl

pub key_is : (o : Draft) (names : List Name) (slots : List (Option ℕ)) → AreFirst o names slots → leaves_in slots ≡ key_named o names
unfolding key_named
key_is o names slots are =
    fill_by_all (λ d. slice_index (ordinals_named o names d) 0) (leaves_in slots) (length o.dims) 0 (length-map slots (λ (slot : Option ℕ). unwrap_or slot 0) ∙ are.0)
    (λ k low. leaf_at slots k ∙ ap (λ (x : Option ℕ). unwrap_or x 0) (are.1 k low).0 ∙ first_or_zero (ordinals_named o names k))

below_all : (f : ℕ → ℕ) (n a : ℕ) (xs : List ℕ) → length xs ≡ n → ((k : ℕ) → k < n → get_or xs k 0 < f (a + k)) → are_leaves (map f (range_with_len a n)) xs ≡ true
below_all f zero a [] long below = refl
below_all f zero a (x ∷ xs) long below = absurd (omega (arith, long))
below_all f (suc n) a [] long below = absurd (omega (arith, long))
below_all f (suc n) a (x ∷ xs) long below =
    and_true (nat_lt x (f a)) _ (lt-ltb x (f a) (subst (λ (k : ℕ). x < f k) (omega arith) (below 0 (omega arith))))
    (below_all f n (a + 1) xs (omega (arith, long)) (λ k low. subst (λ (j : ℕ). get_or xs k 0 < f j) (omega arith) (below (suc k) (omega (arith, low)))))

small_or_zero : (bound : ℕ) (slot : Option ℕ) → 0 < bound → IfSome slot (λ k. k < bound) → unwrap_or slot 0 < bound
small_or_zero bound None some small = some
small_or_zero bound (Some k) some small = small

pub leaves_are : (o : Draft) (names : List Name) (slots : List (Option ℕ)) → HasDataLeaves o → AreFirst o names slots → are_leaves (leaf_counts o) (leaves_in slots) ≡ true
leaves_are o names slots has are =
    below_all (leaf_count o) (length o.dims) 0 (leaves_in slots) (length-map slots (λ (slot : Option ℕ). unwrap_or slot 0) ∙ are.0)
    (λ k low. subst (λ (x : ℕ). x < leaf_count o (0 + k)) (sym (leaf_at slots k)) (subst (λ (j : ℕ). unwrap_or (slot_at slots k) 0 < leaf_count o j) (omega arith) (small_or_zero (leaf_count o k) (slot_at slots k) (has k low) (are.1 k low).1)))

-- ---- the leaves of a cell

long_by : (f : ℕ → ℕ) (n a : ℕ) (xs : List ℕ) → are_leaves (map f (range_with_len a n)) xs ≡ true → length xs ≡ n
long_by f zero a [] h = refl
long_by f zero a (x ∷ xs) h = absurd (true≢false (sym h))
long_by f (suc n) a [] h = absurd (true≢false (sym h))
long_by f (suc n) a (x ∷ xs) h = let rest = long_by f n (a + 1) xs (both (nat_lt x (f a)) _ h).1 in omega (arith, rest)

below_by : (f : ℕ → ℕ) (n a : ℕ) (xs : List ℕ) (k : ℕ) → are_leaves (map f (range_with_len a n)) xs ≡ true → k < n → get_or xs k 0 < f (a + k)
below_by f zero a xs k h low = absurd (omega (arith, low))
below_by f (suc n) a [] k h low = absurd (true≢false (sym h))
below_by f (suc n) a (x ∷ xs) zero h low = subst (λ (j : ℕ). x < f j) (omega arith) (ltb-true x (f a) (both (nat_lt x (f a)) (are_leaves (map f (range_with_len (a + 1) n)) xs) h).0)
below_by f (suc n) a (x ∷ xs) (suc k) h low = subst (λ (j : ℕ). get_or xs k 0 < f j) (omega arith) (below_by f n (a + 1) xs k (both (nat_lt x (f a)) (are_leaves (map f (range_with_len (a + 1) n)) xs) h).1 (omega (arith, low)))

pub leaves_long : (o : Draft) (key : List ℕ) → are_leaves (leaf_counts o) key ≡ true → length key ≡ length o.dims
leaves_long o key h = long_by (leaf_count o) (length o.dims) 0 key h

pub leaf_below : (o : Draft) (key : List ℕ) (d : ℕ) → are_leaves (leaf_counts o) key ≡ true → d < length o.dims → get_or key d 0 < leaf_count o d
leaf_below o key d h low = subst (λ (j : ℕ). get_or key d 0 < leaf_count o j) (omega arith) (below_by (leaf_count o) (length o.dims) 0 key d h low)
