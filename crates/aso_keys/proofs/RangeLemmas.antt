-- The ranges of a dimension's members: where they stand among all members, and that each is that of its member.
use Rattle.std.specs.Prelude.{◌==◌, ◌&&◌, ◌||◌, Option, Some, None, IfSome, nat_lt, if◌then◌else◌, slice_get, unwrap_or}
use Rattle.std.specs.Option.{option_map, option_and_then}
use Rattle.std.specs.List.{flat_map, range_with_len}
use Rattle.std.proofs.Common.{◌≡◌, ◌∙◌, ◌⊎◌, inl, inr, ℕ, zero, suc, ◌+◌, ◌-◌, ◌<◌, ◌≤◌, Bool, true, false, eqb-true, List, [], ◌∷◌, ◌++◌, map, length, refl, sym, ap, arith, subst, true≢false}
use Rattle.std.proofs.lemmas.Bool.{ltb-true}
use Rattle.std.proofs.lemmas.Bool.Decides.{leb_tells, nat_tests}
use Rattle.std.proofs.lemmas.Option.{none-some, same_Some, slice_get_within}
use Rattle.aso_tree.specs.Trees.{places_of}
use Rattle.aso_outline.specs.declared.draft.Draft.{Draft}
use Rattle.aso_outline.specs.declared.seat.Seat.{Seat}
use Rattle.aso_outline.specs.declared.seat.Seat.TheVariants.{Whole, Inner, Carried}
use Rattle.aso_outline.specs.Classes.{class_at, classes_at, has_range, is_in, is_stored, leaf_count}
use Rattle.aso_outline.specs.Members.{attr_seats, attr_tree, dim_at, dim_of, dim_seats, hier_seats, holds, resolve, seats, tree, whole_seats}
use Rattle.aso_outline.specs.Numbers.{hier_of, seat_of}
use Rattle.aso_outline.specs.Ranks.{is_of_dim}
use Rattle.aso_keys.specs.declared.axis.Axis.{Axis}
use Rattle.aso_keys.specs.declared.axis.Ranges.{Ranges}
use Rattle.aso_keys.specs.Axes.{found, range_at, range_in}
use Rattle.aso_keys.specs.Layouts.{AreAxes, AreRanges, IsLayout}
use Rattle.aso_keys.specs.Ranges.{stands_before, is_ranged_seat, is_ranged, IsRange, IsRangeOf}
use Rattle.aso_keys.specs.Views.{Choice, choice_at}

-- ---- those that pass stand before those that don't

split : {X : Type 0} (xs ys : List X) (j : ℕ) (b : X) → slice_get (xs ++ ys) j ≡ Some b → ((j < length xs) × (slice_get xs j ≡ Some b)) ⊎ ((k : ℕ) × (j ≡ length xs + k) × (slice_get ys k ≡ Some b))
split [] ys j b h = inr (j, omega arith, h)
split (x ∷ xs) ys zero b h = inl (omega arith, h)
split (x ∷ xs) ys (suc j) b h = elim (split xs ys j b h) [
  | inl a ↦ (let e = a.0 in inl (omega (arith, e), a.1))
  | inr a ↦ (let e = a.1 in inr (a.0, omega (arith, e), a.2))
]

module _ {X : Type 0} (t : X → Bool) where
  abbrev Each : Bool → List X → Type 0
  Each b xs = (k : ℕ) (x : X) → slice_get xs k ≡ Some x → t x ≡ b

  abbrev pub Parted : List X → Type 0
  Parted xs = (i j : ℕ) (x y : X) → i ≤ j → slice_get xs i ≡ Some x → slice_get xs j ≡ Some y → t y ≡ true → t x ≡ true

  each_joined : (b : Bool) (xs ys : List X) → Each b xs → Each b ys → Each b (xs ++ ys)
  each_joined b xs ys h g k x is = elim (split xs ys k x is) [ inl a ↦ h k x a.1 | inr a ↦ g a.0 x a.2 ]

  each_mapped : (b : Bool) (f : ℕ → X) → ((i : ℕ) → t (f i) ≡ b) → (n a : ℕ) → Each b (map f (range_with_len a n))
  each_mapped b f each zero a k x is = absurd (none-some x is)
  each_mapped b f each (suc n) a zero x is = subst (λ (z : X). t z ≡ b) (same_Some (f a) x is) (each a)
  each_mapped b f each (suc n) a (suc k) x is = each_mapped b f each n (a + 1) k x is

  each_piece : (b : Bool) (f : ℕ → List X) → ((i : ℕ) → Each b (f i)) → (n a : ℕ) → Each b (flat_map f (range_with_len a n))
  each_piece b f each zero a = λ k x is. absurd (none-some x is)
  each_piece b f each (suc n) a = each_joined b (f a) (flat_map f (range_with_len (a + 1) n)) (each a) (each_piece b f each n (a + 1))

  constant : (b : Bool) (xs : List X) → Each b xs → Parted xs
  constant true xs h i j x y le p q e = h i x p
  constant false xs h i j x y le p q e = absurd (true≢false (sym e ∙ h j y q))

  joined : (xs ys : List X) → Parted xs → Parted ys → (Each true xs) ⊎ (Each false ys) → Parted (xs ++ ys)
  joined xs ys h g one i j x y le p q e = elim (split xs ys i x p) [
    | inl a ↦ elim (split xs ys j y q) [
      | inl b ↦ h i j x y le a.1 b.1 e
      | inr b ↦ elim one [ inl all ↦ all i x a.1 | inr none ↦ absurd (true≢false (sym e ∙ none b.0 y b.2)) ]
    ]
    | inr a ↦ elim (split xs ys j y q) [
      | inl b ↦ (let s = a.1 in let l = b.0 in absurd (omega (arith, s, l, le)))
      | inr b ↦ (let s = a.1 in let r = b.1 in g a.0 b.0 x y (omega (arith, s, r, le)) a.2 b.2 e)
    ]
  ]

  one_more : (xs ys : List X) (a d : ℕ) (b : Bool) → nat_lt a d ≡ b → Each b xs → Parted ys × (d ≤ a + 1 → Each false ys) → Parted (xs ++ ys) × (d ≤ a → Each false (xs ++ ys))
  one_more xs ys a d true e here rest =
      let lt : a < d = ltb-true _ _ e in
      (joined xs ys (constant true xs here) rest.0 (inl here), (λ le. absurd (omega (arith, lt, le))))
  one_more xs ys a d false e here rest =
      let le : d ≤ a = grind (arith, nat_tests) in
      let none = rest.1 (omega (arith, le)) in
      (joined xs ys (constant false xs here) rest.0 (inr none), (λ _. each_joined false xs ys here none))

  pieces : (f : ℕ → List X) (d : ℕ) → ((k : ℕ) → Each (nat_lt k d) (f k)) → (n a : ℕ) → Parted (flat_map f (range_with_len a n)) × (d ≤ a → Each false (flat_map f (range_with_len a n)))
  pieces f d each zero a = ((λ i j x y le p q e. absurd (none-some x p)), (λ le k x is. absurd (none-some x is)))
  pieces f d each (suc n) a = one_more (f a) (flat_map f (range_with_len (a + 1) n)) a d (nat_lt a d) refl (each a) (pieces f d each n (a + 1))

-- ---- members in the order of their dimensions

module _ (o : Draft) (d : ℕ) where
  in_whole : (k : ℕ) → Each (stands_before d) (nat_lt k d) (whole_seats (dim_at o k) k)
  in_whole k = by_several (nat_lt 1 (length (dim_at o k).hiers))
    where
      by_several : (b : Bool) → Each (stands_before d) (nat_lt k d) (if b then Whole k ∷ [] else [])
      by_several true zero x is = ap (stands_before d) (sym (same_Some (Whole k) x is))
      by_several true (suc i) x is = absurd (none-some x is)
      by_several false i x is = absurd (none-some x is)

  in_dim : (k : ℕ) → Each (stands_before d) (nat_lt k d) (dim_seats (dim_at o k) k)
  in_dim k =
      each_joined (stands_before d) (nat_lt k d) (whole_seats (dim_at o k) k) (flat_map (hier_seats (dim_at o k) k) (places_of (dim_at o k).hiers)) (in_whole k)
      (each_piece (stands_before d) (nat_lt k d) (hier_seats (dim_at o k) k)
      (λ h. each_mapped (stands_before d) (nat_lt k d) (Inner k h) (λ i. refl) (length (tree (dim_at o k) h)) 0) (length (dim_at o k).hiers) 0)

  in_attrs : Each (stands_before d) false (flat_map (attr_seats o) (places_of o.attrs))
  in_attrs =
      each_piece (stands_before d) false (attr_seats o)
      (λ a. each_mapped (stands_before d) false (Carried a) (λ i. refl) (length (attr_tree o a)) 0) (length o.attrs) 0

  parted : Parted (stands_before d) (seats o)
  unfolding seats
  parted =
      joined (stands_before d) (flat_map (λ k. dim_seats (dim_at o k) k) (places_of o.dims)) (flat_map (attr_seats o) (places_of o.attrs))
      (pieces (stands_before d) (λ k. dim_seats (dim_at o k) k) d in_dim (length o.dims) 0).0
      (constant (stands_before d) false (flat_map (attr_seats o) (places_of o.attrs)) in_attrs) (inr in_attrs)

got : (xs : List Seat) (m : ℕ) → m < length xs → slice_get xs m ≡ Some (unwrap_or (slice_get xs m) (Whole 0))
got [] m low = absurd (omega (arith, low))
got (x ∷ xs) zero low = refl
got (x ∷ xs) (suc m) low = got xs m (omega (arith, low))

-- the member of a number
pub seat_is : (o : Draft) (m : ℕ) → m < length (seats o) → slice_get (seats o) m ≡ Some (seat_of o m)
seat_is o m low = got (seats o) m low

pub all_low : (o : Draft) (d middle m : ℕ) → middle < length (seats o) → stands_before d (seat_of o middle) ≡ true → m < middle + 1 → stands_before d (seat_of o m) ≡ true
all_low o d middle m low is lt =
    parted o d m middle (seat_of o m) (seat_of o middle) (omega (arith, lt)) (seat_is o m (omega (arith, lt, low))) (seat_is o middle low) is

pub all_high : (o : Draft) (d middle m : ℕ) → stands_before d (seat_of o middle) ≡ false → middle ≤ m → m < length (seats o) → stands_before d (seat_of o m) ≡ false
all_high o d middle m is le low = by_case (stands_before d (seat_of o m)) refl
  where
    by_case : (b : Bool) → stands_before d (seat_of o m) ≡ b → b ≡ false
    by_case false e = refl
    by_case true e =
        let t = parted o d middle m (seat_of o middle) (seat_of o m) le (seat_is o middle (omega (arith, le, low))) (seat_is o m low) e in
        absurd (true≢false (sym t ∙ is))

-- ---- members of other dimensions

not_before : (d : ℕ) (s : Seat) → stands_before d s ≡ true → is_of_dim d s ≡ false
not_before d (Whole e) h = grind (arith, nat_tests)
not_before d (Inner e k i) h = grind (arith, nat_tests)
not_before d (Carried a i) h = refl

not_behind : (d : ℕ) (s : Seat) → stands_before (d + 1) s ≡ false → is_of_dim d s ≡ false
not_behind d (Whole e) h = grind (arith, nat_tests)
not_behind d (Inner e k i) h = grind (arith, nat_tests)
not_behind d (Carried a i) h = refl

of_dim : (d : ℕ) (s : Seat) → is_of_dim d s ≡ true → dim_of s ≡ d
of_dim d (Whole e) h = sym (eqb-true d e h)
of_dim d (Inner e k i) h = sym (eqb-true d e h)
of_dim d (Carried a i) h = absurd (true≢false (sym h))

-- ---- ranges of members

ranged_at : (o : Draft) (d : ℕ) (x : Choice) (m : ℕ) → m < length (seats o) → is_ranged o d x m ≡ is_ranged_seat o d x (seat_of o m)
ranged_at o d x m low = ap (λ (s : Option Seat). unwrap_or (option_map (is_ranged_seat o d x) s) false) (seat_is o m low)

both_true : (a b : Bool) → (a && b) ≡ true → (a ≡ true) × (b ≡ true)
both_true true b h = (refl, h)
both_true false b h = absurd (true≢false (sym h))

not_first : (a b : Bool) → a ≡ false → (a && b) ≡ false
not_first true b h = absurd (true≢false h)
not_first false b h = refl

same_hier : (level k h : ℕ) → (suc level == 0 || k == h) ≡ true → k ≡ h
same_hier level k h is = elim (either (suc level == 0) (k == h) is) [
  | inl a ↦ (let e : suc level ≡ 0 = eqb-true (suc level) 0 a in absurd (omega (arith, e)))
  | inr b ↦ eqb-true k h b
]
  where
    either : (a b : Bool) → (a || b) ≡ true → (a ≡ true) ⊎ (b ≡ true)
    either true b e = inl refl
    either false b e = inr e

same_classes : (o : Draft) (d h k level leaf : ℕ) → (level == 0 || k == h) ≡ true → class_at o d h level leaf ≡ class_at o d k level leaf
same_classes o d h k zero leaf is = refl
same_classes o d h k (suc level) leaf is = ap (λ (j : ℕ). class_at o d j (suc level) leaf) (sym (same_hier level k h is))

same_count : (o : Draft) (d h k level : ℕ) → (level == 0 || k == h) ≡ true → classes_at o d k level ≡ classes_at o d h level
same_count o d h k zero is = refl
same_count o d h k (suc level) is = ap (λ (j : ℕ). classes_at o d j (suc level)) (same_hier level k h is)

pub ranged : (o : Draft) (d h level m : ℕ) (r : ℕ × ℕ) → m < length (seats o) → is_ranged_seat o d (h, level) (seat_of o m) ≡ true
    → ((leaf class : ℕ) → leaf < leaf_count o (dim_of (seat_of o m)) → class_at o (dim_of (seat_of o m)) (hier_of (resolve o (seat_of o m))) level leaf ≡ Some class → is_in r class ≡ holds o (seat_of o m) leaf)
    → r.0 ≤ r.1 → r.1 ≤ classes_at o (dim_of (seat_of o m)) (hier_of (resolve o (seat_of o m))) level → IsRangeOf o d (h, level) m (Some r)
ranged o d h level m r low is exactly in_order within =
    let s = seat_of o m in
    let k = hier_of (resolve o s) in
    let a = both_true (is_of_dim d s) (is_stored o s && (has_range o (resolve o s) level && (level == 0 || k == h))) is in
    let b = both_true (is_stored o s) (has_range o (resolve o s) level && (level == 0 || k == h)) a.1 in
    let c : (level == 0 || k == h) ≡ true = (both_true (has_range o (resolve o s) level) (level == 0 || k == h) b.1).1 in
    let e : dim_of s ≡ d = of_dim d s a.0 in
    record {
      there = sym (ranged_at o d (h, level) m low ∙ is);
      exact = record {
        exactly = λ leaf class small has. exactly leaf class (subst (λ (j : ℕ). leaf < leaf_count o j) (sym e) small)
            (ap (λ (j : ℕ). class_at o j k level leaf) e ∙ (sym (same_classes o d h k level leaf c) ∙ has));
        in_order = in_order;
        within = subst (λ (n : ℕ). r.1 ≤ n) (ap (λ (j : ℕ). classes_at o j k level) e ∙ same_count o d h k level c) within;
      };
    }

no_range : (o : Draft) (d : ℕ) (x : Choice) (m : ℕ) → (m < length (seats o) → is_of_dim d (seat_of o m) ≡ false) → is_ranged o d x m ≡ false
no_range o d x m other = elim (leb_tells (suc m) (length (seats o))) [
  | inl low ↦ (let l : m < length (seats o) = low.1 in ranged_at o d x m l ∙ not_first (is_of_dim d (seat_of o m)) _ (other l))
  | inr high ↦ none (slice_get (seats o) m) refl (omega (arith, high.1))
]
  where
    none : (s : Option Seat) → slice_get (seats o) m ≡ s → length (seats o) ≤ m → unwrap_or (option_map (is_ranged_seat o d x) s) false ≡ false
    none None e le = refl
    none (Some s) e le = (let w = slice_get_within (seats o) m s e in absurd (omega (arith, w, le)))

-- ---- the table

pub each_more : (P : ℕ → Option (ℕ × ℕ) → Type 0) (n : ℕ) (xs new : List (Option (ℕ × ℕ))) (x : Option (ℕ × ℕ)) → new ≡ xs ++ x ∷ [] → length xs ≡ n → P n x
    → ((k : ℕ) → k < n → P k (found (slice_get xs k))) → (k : ℕ) → k < n + 1 → P k (found (slice_get new k))
each_more P n xs new x is long here so_far k lt = subst (λ (l : List (Option (ℕ × ℕ))). P k (found (slice_get l k))) (sym is) (elim (leb_tells (suc k) n) [
  | inl low ↦ (let l : k < n = low.1 in subst (P k) (sym (front xs k (omega (arith, l, long)))) (so_far k l))
  | inr high ↦ (let e : n ≡ k = omega (arith, high.1, lt) in subst (λ (j : ℕ). P j (found (slice_get (xs ++ x ∷ []) j))) e (subst (P n) (sym (last xs n long)) here))
])
  where
    front : (ys : List (Option (ℕ × ℕ))) (j : ℕ) → j < length ys → found (slice_get (ys ++ x ∷ []) j) ≡ found (slice_get ys j)
    front [] j low = absurd (omega (arith, low))
    front (y ∷ ys) zero low = refl
    front (y ∷ ys) (suc j) low = front ys j (omega (arith, low))

    last : (ys : List (Option (ℕ × ℕ))) (j : ℕ) → length ys ≡ j → found (slice_get (ys ++ x ∷ []) j) ≡ x
    last [] zero e = refl
    last [] (suc j) e = absurd (omega (arith, e))
    last (y ∷ ys) zero e = absurd (omega (arith, e))
    last (y ∷ ys) (suc j) e = last ys j (omega (arith, e))

past : (xs : List (Option (ℕ × ℕ))) (j : ℕ) → length xs ≤ j → found (slice_get xs j) ≡ None
past [] j le = refl
past (x ∷ xs) zero le = absurd (omega (arith, le))
past (x ∷ xs) (suc j) le = past xs j (omega (arith, le))

pub in_order : (o : Draft) (d first end : ℕ) → first ≤ length (seats o) → ((m : ℕ) → m < first → stands_before d (seat_of o m) ≡ true)
    → ((m : ℕ) → end ≤ m → m < length (seats o) → stands_before (d + 1) (seat_of o m) ≡ false) → first ≤ end
in_order o d first end within low high = elim (leb_tells first end) [
  | inl le ↦ le.1
  | inr gt ↦
      let lt : end < first = gt.1 in
      absurd (clash (seat_of o end) (low end lt) (high end (omega arith) (omega (arith, lt, within))))
]
  where
    clash : (s : Seat) → stands_before d s ≡ true → stands_before (d + 1) s ≡ false → ⊥
    clash (Whole e) a b = grind (arith, nat_tests)
    clash (Inner e k i) a b = grind (arith, nat_tests)
    clash (Carried a i) e b = true≢false (sym e)

pub all_ranges : (o : Draft) (d : ℕ) (x : Choice) (end : ℕ) (r : Ranges) → r.first ≤ length (seats o) → ((m : ℕ) → m < r.first → stands_before d (seat_of o m) ≡ true)
    → ((m : ℕ) → end ≤ m → m < length (seats o) → stands_before (d + 1) (seat_of o m) ≡ false) → length r.each ≡ end - r.first
    → ((k : ℕ) → k < end - r.first → IsRangeOf o d x (r.first + k) (found (slice_get r.each k))) → (m : ℕ) → IsRangeOf o d x m (range_at r m)
all_ranges o d x end r within low high long each m = by_first (nat_lt m r.first) refl
  where
    nothing : (m < length (seats o) → is_of_dim d (seat_of o m) ≡ false) → IsRangeOf o d x m None
    nothing other = record { there = sym (no_range o d x m other); exact = tt }

    by_first : (b : Bool) → nat_lt m r.first ≡ b → IsRangeOf o d x m (if b then None else found (slice_get r.each (m - r.first)))
    by_first true e = nothing (λ _. not_before d (seat_of o m) (low m (ltb-true _ _ e)))
    by_first false e =
        let le : r.first ≤ m = grind (arith, nat_tests) in
        elim (leb_tells (suc m) end) [
          | inl below ↦
              let l : m < end = below.1 in
              let same : r.first + (m - r.first) ≡ m = omega (arith, le) in
              subst (λ (j : ℕ). IsRangeOf o d x j (found (slice_get r.each (m - r.first)))) same (each (m - r.first) (omega (arith, le, l)))
          | inr above ↦
              let a : end ≤ m = omega (arith, above.1) in
              subst (IsRangeOf o d x m) (sym (past r.each (m - r.first) (omega (arith, le, a, long)))) (nothing (λ l. not_behind d (seat_of o m) (high m a l)))
        ]

-- ---- the ranges of a layout

axis_ranges : (o : Draft) (xs : List Choice) (axes : List Axis) (b d k m : ℕ) → AreAxes o xs b axes → k < length axes → d ≡ b + k
    → IsRangeOf o d (choice_at xs d) m (option_and_then (λ (a : Axis). range_at a.ranges m) (slice_get axes k))
axis_ranges o xs [] b d k m are low e = absurd (omega (arith, low))
axis_ranges o xs (a ∷ axes) b d zero m are low e =
    let same : b ≡ d = omega (arith, e) in
    subst (λ (j : ℕ). IsRangeOf o j (choice_at xs j) m (range_at a.ranges m)) same (are.0.ranges m)
axis_ranges o xs (a ∷ axes) b d (suc k) m are low e = axis_ranges o xs axes (b + 1) d k m are.1 (omega (arith, low)) (omega (arith, e))

pub layout_ranges : (o : Draft) (xs : List Choice) (axes : List Axis) → IsLayout o xs axes → AreRanges o xs axes
layout_ranges o xs axes is d m low = let long = is.long in axis_ranges o xs axes 0 d d m is.parts (omega (arith, low, long)) (omega arith)

pub held : (o : Draft) (xs : List Choice) (axes : List Axis) (d m : ℕ) (r : ℕ × ℕ) → range_in axes d m ≡ Some r → IsLayout o xs axes → IsRange o d (choice_at xs d) (seat_of o m) r
held o xs axes d m r has is =
    let low : d < length axes = there (slice_get axes d) refl has in
    let long = is.long in
    subst (λ (z : Option (ℕ × ℕ)). IfSome z (IsRange o d (choice_at xs d) (seat_of o m))) has (layout_ranges o xs axes is d m (omega (arith, low, long))).exact
  where
    there : (a : Option Axis) → slice_get axes d ≡ a → option_and_then (λ (a : Axis). range_at a.ranges m) a ≡ Some r → d < length axes
    there None e h = absurd (none-some r h)
    there (Some a) e h = slice_get_within axes d a e
