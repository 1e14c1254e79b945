-- Leaves of one class are of one class at every level above, so a coarser view's layout is coarser.
use Rattle.std.proofs.Common.{◌≡◌, ℕ, zero, suc, ◌+◌, ◌<◌, ◌≤◌, ◌⊎◌, inl, inr, Bool, true, false, cond, ltb, eqb-true, List, [], ◌∷◌, length, map, get_or, refl, sym, ◌∙◌, ap, subst, arith}
use Rattle.std.specs.Prelude.{Option, Some, None, slice_index, nat_le}
use Rattle.std.specs.Option.{option_and_then}
use Rattle.std.specs.List.{filter, last_or, position, range_with_len}
use Rattle.std.proofs.lemmas.Bool.{ltb-true}
use Rattle.std.proofs.lemmas.Bool.Decides.{nat_tests}
use Rattle.std.proofs.lemmas.List.Quantifiers.{position-Some}
use Rattle.std.proofs.lemmas.List.FromFn.{length-map-range_with_len}
use Rattle.aso_tree.specs.Trees.{height, path, highest, is_at, classes, class_of}
use Rattle.aso_tree.proofs.Paths.{path_step}
use Rattle.aso_tree.proofs.Positions.{first_of}
use Rattle.aso_outline.specs.declared.draft.Draft.{Draft}
use Rattle.aso_outline.specs.Classes.{class_at, leaf_count, leaf_place}
use Rattle.aso_outline.specs.Members.{dim_at, parents_of, tree}
use Rattle.aso_keys.specs.declared.axis.Axis.{Axis}
use Rattle.aso_keys.specs.Axes.{entry, IsCoarser, AreCoarser}
use Rattle.aso_keys.specs.Layouts.{IsAxisOf, AreAxes, IsLayout}
use Rattle.aso_keys.specs.Views.{Choice, choice_at, IsCoarserChoice, IsCoarserView, IsView}

-- ---- the highest at or above a node

last_from : (o : Option ℕ) (xs : List ℕ) → last_or o xs ≡ first_of (last_or None xs) o
last_from o [] = refl
last_from o (x ∷ xs) = some (last_or None xs) (last_or (Some x) xs) (last_from (Some x) xs)
  where
    some : (z w : Option ℕ) → w ≡ first_of z (Some x) → w ≡ first_of w o
    some None w e = rw e refl
    some (Some y) w e = rw e refl

-- the last of a path's nodes that pass
abbrev last_in : (ℕ → Bool) → List ℕ → Option ℕ
last_in p xs = last_or None (filter p xs)

above : (p : ℕ → Bool) (t b : Bool) (i : ℕ) (xs : List ℕ) → p i ≡ t → last_in p (i ∷ cond b xs []) ≡ first_of (cond b (last_in p xs) None) (cond t (Some i) None)
above p true true i xs e = rw e (last_from (Some i) (filter p xs))
above p true false i xs e = rw e refl
above p false true i xs e = rw e (last_from None (filter p xs))
above p false false i xs e = rw e refl

-- what stands above decides, else the node itself
last_step : (parents : List ℕ) (p : ℕ → Bool) (i : ℕ)
    → last_in p (path parents i) ≡ first_of (cond (ltb (slice_index parents i) i) (last_in p (path parents (slice_index parents i))) None) (cond (p i) (Some i) None)
last_step parents p i = ap (last_in p) (path_step parents i) ∙ above p (p i) (ltb (slice_index parents i) i) i (path parents (slice_index parents i)) refl

picked : (b : Bool) (o : Option ℕ) (t : Bool) (i k : ℕ) → first_of (cond b o None) (cond t (Some i) None) ≡ Some k → ((b ≡ true) × (o ≡ Some k)) ⊎ ((t ≡ true) × (i ≡ k))
picked true (Some c) t i k h = inl (refl, h)
picked true None true i k h = inr (refl, cc)
picked true None false i k h = cc
picked false o true i k h = inr (refl, cc)
picked false o false i k h = cc

goes_on : (b : Bool) (o last : Option ℕ) (m : ℕ) → b ≡ true → o ≡ Some m → first_of (cond b o None) last ≡ o
goes_on true (Some x) last m e h = refl
goes_on true None last m e h = cc
goes_on false o last m e h = cc

ends : (o : Option ℕ) (t : Bool) (i : ℕ) → t ≡ true → (m : ℕ) × (first_of o (cond t (Some i) None) ≡ Some m)
ends (Some x) t i e = (x, refl)
ends None true i e = (i, refl)
ends None false i e = cc

-- Where the last of a path that pass is k, the last that pass a weaker test is that of k's own path.
module _ (parents : List ℕ) (p q : ℕ → Bool) (weaker : (a : ℕ) → p a ≡ true → q a ≡ true) where
  abbrev Same : ℕ → ℕ → Type 0
  Same i k = (last_in q (path parents i) ≡ last_in q (path parents k)) × ((m : ℕ) × (last_in q (path parents i) ≡ Some m))

  here_or_up : (i k : ℕ) → last_in p (path parents i) ≡ Some k
      → (ltb (slice_index parents i) i ≡ true → last_in p (path parents (slice_index parents i)) ≡ Some k → Same (slice_index parents i) k) → Same i k
  here_or_up i k is later =
      let b = ltb (slice_index parents i) i in
      let up = path parents (slice_index parents i) in
      elim (picked b (last_in p up) (p i) i k (sym (last_step parents p i) ∙ is)) [
        | inl on ↦
            let h = later on.0 on.1 in
            let e : last_in q (path parents i) ≡ last_in q up = last_step parents q i ∙ goes_on b (last_in q up) (cond (q i) (Some i) None) h.1.0 on.0 h.1.1 in
            (e ∙ h.0, (h.1.0, e ∙ h.1.1))
        | inr here ↦
            let m = ends (cond b (last_in q up) None) (q i) i (weaker i here.0) in
            (ap (λ (j : ℕ). last_in q (path parents j)) here.1, (m.0, last_step parents q i ∙ m.1))
      ]

  lifted : (n i k : ℕ) → i ≤ n → last_in p (path parents i) ≡ Some k → Same i k
  lifted zero i k le is = here_or_up i k is (λ e h. let lt : slice_index parents i < i = ltb-true _ _ e in absurd (omega (arith, lt, le)))
  lifted (suc n) i k le is = here_or_up i k is (λ e h. let lt : slice_index parents i < i = ltb-true _ _ e in lifted n (slice_index parents i) k (omega (arith, lt, le)) h)

same_highest : (parents : List ℕ) (low high i j k : ℕ) → low ≤ high → highest parents low i ≡ Some k → highest parents low j ≡ Some k → highest parents high i ≡ highest parents high j
same_highest parents low high i j k le a b =
    let weaker : (x : ℕ) → nat_le (height parents x) low ≡ true → nat_le (height parents x) high ≡ true = λ x h. grind (arith, nat_tests) in
    (lifted parents (λ x. nat_le (height parents x) low) (λ x. nat_le (height parents x) high) weaker i i k (omega arith) a).0
    ∙ sym (lifted parents (λ x. nat_le (height parents x) low) (λ x. nat_le (height parents x) high) weaker j j k (omega arith) b).0

at_is : (x : ℕ) (o : Option ℕ) → is_at x o ≡ true → o ≡ Some x
at_is x None h = cc
at_is x (Some y) h = ap (λ (z : ℕ). Some z) (eqb-true y x h)

same_class : (parents : List ℕ) (low high i j c : ℕ) → low ≤ high → class_of parents low i ≡ Some c → class_of parents low j ≡ Some c → class_of parents high i ≡ class_of parents high j
unfolding class_of
same_class parents low high i j c le a b =
    let k = get_or (classes parents low) c 0 in
    let x = position-Some (λ (n : ℕ). is_at n (highest parents low i)) (classes parents low) c 0 a in
    let y = position-Some (λ (n : ℕ). is_at n (highest parents low j)) (classes parents low) c 0 b in
    ap (λ (h : Option ℕ). position (λ (n : ℕ). is_at n h) (classes parents high)) (same_highest parents low high i j k le (at_is k (highest parents low i) x.1) (at_is k (highest parents low j) y.1))

-- ---- leaves

same_at : (o : Draft) (d h low high l m c : ℕ) → low ≤ high → class_at o d h low l ≡ Some c → class_at o d h low m ≡ Some c → class_at o d h high l ≡ class_at o d h high m
same_at o d h zero high l m c le a b = let e : l ≡ m = cc in ap (class_at o d h high) e
same_at o d h (suc low) zero l m c le a b = absurd (omega arith)
same_at o d h (suc low) (suc high) l m c le a b = places (leaf_place o d h l) (leaf_place o d h m) a b
  where
    parents : List ℕ
    parents = parents_of (tree (dim_at o d) h)

    places : (x y : Option ℕ) → option_and_then (class_of parents (suc low)) x ≡ Some c → option_and_then (class_of parents (suc low)) y ≡ Some c
        → option_and_then (class_of parents (suc high)) x ≡ option_and_then (class_of parents (suc high)) y
    places None y e f = cc
    places (Some x) None e f = cc
    places (Some x) (Some y) e f = same_class parents (suc low) (suc high) x y c le e f

merged : (o : Draft) (d l m c : ℕ) (coarse fine : Choice) → IsCoarserChoice coarse fine → class_at o d fine.0 fine.1 l ≡ Some c → class_at o d fine.0 fine.1 m ≡ Some c
    → class_at o d coarse.0 coarse.1 l ≡ class_at o d coarse.0 coarse.1 m
merged o d l m c coarse fine is a b = elim is [
  | inl base ↦
      let x : Some l ≡ Some c = subst (λ (level : ℕ). class_at o d fine.0 level l ≡ Some c) base a in
      let y : Some m ≡ Some c = subst (λ (level : ℕ). class_at o d fine.0 level m ≡ Some c) base b in
      let e : l ≡ m = cc in
      ap (class_at o d coarse.0 coarse.1) e
  | inr up ↦ subst (λ (h : ℕ). class_at o d h coarse.1 l ≡ class_at o d h coarse.1 m) (sym up.0) (same_at o d fine.0 fine.1 coarse.1 l m c up.1 a b)
]

-- ---- tables of classes

table_from : (f : ℕ → Option ℕ) (a n l c : ℕ) → entry (map f (range_with_len a n)) l ≡ Some c → (l < n) × (f (a + l) ≡ Some c)
table_from f a zero l c h = cc
table_from f a (suc n) zero c h = (omega arith, ap f (omega arith) ∙ h)
table_from f a (suc n) (suc l) c h =
    let r = table_from f (a + 1) n l c h in
    let lt = r.0 in
    let e : a + suc l ≡ a + 1 + l = omega arith in
    (omega (arith, lt), ap f e ∙ r.1)

table_at : (f : ℕ → Option ℕ) (a n l : ℕ) → l < n → entry (map f (range_with_len a n)) l ≡ f (a + l)
table_at f a zero l lt = absurd (omega arith)
table_at f a (suc n) zero lt = ap f (omega arith)
table_at f a (suc n) (suc l) lt = table_at f (a + 1) n l (omega arith) ∙ ap f (omega arith)

in_table : (f : ℕ → Option ℕ) (n l c : ℕ) (table : List (Option ℕ)) → table ≡ map f (range_with_len 0 n) → entry table l ≡ Some c → (l < n) × (f l ≡ Some c)
in_table f n l c table is h =
    let r = table_from f 0 n l c (ap (λ (t : List (Option ℕ)). entry t l) (sym is) ∙ h) in
    let e : l ≡ 0 + l = omega arith in
    (r.0, ap f e ∙ r.1)

pub of_table : (f : ℕ → Option ℕ) (n l : ℕ) (table : List (Option ℕ)) → table ≡ map f (range_with_len 0 n) → l < n → entry table l ≡ f l
of_table f n l table is lt =
    let e : 0 + l ≡ l = omega arith in
    ap (λ (t : List (Option ℕ)). entry t l) is ∙ table_at f 0 n l lt ∙ ap f e

coarser_axis : (o : Draft) (d : ℕ) (w v : Choice) (b a : Axis) → IsAxisOf o d w b → IsAxisOf o d v a → IsCoarserChoice w v → IsCoarser b a
coarser_axis o d w v b a of_b of_a is = record {
  leaves = ap (λ (t : List (Option ℕ)). length t) of_b.classes ∙ length-map-range_with_len (class_at o d w.0 w.1) 0 (leaf_count o d)
      ∙ sym (ap (λ (t : List (Option ℕ)). length t) of_a.classes ∙ length-map-range_with_len (class_at o d v.0 v.1) 0 (leaf_count o d));
  merges = λ l m c x y.
      let p = in_table (class_at o d v.0 v.1) (leaf_count o d) l c a.classes of_a.classes x in
      let q = in_table (class_at o d v.0 v.1) (leaf_count o d) m c a.classes of_a.classes y in
      of_table (class_at o d w.0 w.1) (leaf_count o d) l b.classes of_b.classes p.0 ∙ merged o d l m c w v is p.1 q.1
      ∙ sym (of_table (class_at o d w.0 w.1) (leaf_count o d) m b.classes of_b.classes q.0);
}

pub coarser_at : (ws vs : List Choice) (d : ℕ) → IsCoarserView ws vs → d < length vs → IsCoarserChoice (choice_at ws d) (choice_at vs d)
coarser_at [] [] d is lt = absurd (omega arith)
coarser_at [] (v ∷ vs) d is lt = absurd is
coarser_at (w ∷ ws) [] d is lt = absurd is
coarser_at (w ∷ ws) (v ∷ vs) zero is lt = is.0
coarser_at (w ∷ ws) (v ∷ vs) (suc d) is lt = coarser_at ws vs d is.1 (omega arith)

coarser_axes : (o : Draft) (ws vs : List Choice) (d : ℕ) (bs axes : List Axis) → IsCoarserView ws vs → d + length axes ≤ length vs → length bs ≡ length axes → AreAxes o ws d bs → AreAxes o vs d axes → AreCoarser bs axes
coarser_axes o ws vs d [] [] is le long of_b of_a = tt
coarser_axes o ws vs d [] (a ∷ axes) is le long of_b of_a = absurd (omega (arith, long))
coarser_axes o ws vs d (b ∷ bs) [] is le long of_b of_a = absurd (omega (arith, long))
coarser_axes o ws vs d (b ∷ bs) (a ∷ axes) is le long of_b of_a =
    (coarser_axis o d (choice_at ws d) (choice_at vs d) b a of_b.0 of_a.0 (coarser_at ws vs d is (omega (arith, le))), coarser_axes o ws vs (d + 1) bs axes is (omega (arith, le)) (omega (arith, long)) of_b.1 of_a.1)

-- the layout of a coarser view is coarser
pub coarser_layout : (o : Draft) (ws vs : List Choice) (bs axes : List Axis) → IsView o vs → IsCoarserView ws vs → IsLayout o ws bs → IsLayout o vs axes → AreCoarser bs axes
coarser_layout o ws vs bs axes view is of_b of_a =
    let x = of_b.long in
    let y = of_a.long in
    let z = view.long in
    coarser_axes o ws vs 0 bs axes is (omega (arith, y, z)) (omega (arith, x, y)) of_b.parts of_a.parts
