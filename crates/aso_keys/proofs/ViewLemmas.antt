-- Choices of views, and the numbers of views.
use Rattle.std.proofs.Common.{◌≡◌, ℕ, zero, suc, ◌+◌, ◌-◌, ◌*◌, ◌/◌, ◌%◌, ◌<◌, ◌≤◌, ◌⊎◌, inl, inr, List, [], ◌∷◌, ◌++◌, length, drop, get_or, reverse, replicate, refl, sym, ◌∙◌, ap, subst, arith}
use Rattle.std.specs.Prelude.{Bool, true, false, Some, slice_get, map, nat_lt, if◌then◌else◌}
use Rattle.std.specs.List.{flat_map, range_with_len}
use Rattle.std.proofs.Math.Seq.{drop-cons}
use Rattle.std.proofs.Math.Nat.{mul-le-mul_right}
use Rattle.std.proofs.lemmas.Bool.Decides.{nat_tests}
use Rattle.std.proofs.lemmas.Option.{slice_get_read}
use Rattle.std.proofs.lemmas.List.{append_assoc, flat_map_more, reverse-append}
use Rattle.std.proofs.lemmas.List.FromFn.{map-range_with_len_more, length-range_with_len, get_or-range_with_len, get_or-map-range_with_len, length-map-range_with_len}
use Rattle.aso_outline.specs.declared.draft.Draft.{Draft}
use Rattle.aso_outline.specs.declared.draft.Aggregate.{Aggregate}
use Rattle.aso_outline.specs.declared.draft.Aggregate.TheVariants.{All, Top, Bottom}
use Rattle.aso_outline.specs.declared.seat.Seat.TheVariants.{Inner}
use Rattle.aso_outline.specs.Members.{dim_at, is_dynamic}
use Rattle.aso_outline.specs.Heights.{top_of}
use Rattle.aso_keys.specs.Views.{Choice, levels, hier_choices, choices, all_choices, views, IsNumbered, choice_at, IsChoice, IsView}

-- ---- making the choices

pub levels_more : (hier level : ℕ) (old now new : List Choice) → new ≡ now ++ (hier, level + 1) ∷ [] → now ≡ old ++ map (λ (l : ℕ). (hier, l)) (range_with_len 1 level)
    → new ≡ old ++ map (λ (l : ℕ). (hier, l)) (range_with_len 1 (level + 1))
levels_more hier level old now new is so_far =
    let f : ℕ → Choice = λ (l : ℕ). (hier, l) in
    let far : 1 + level ≡ level + 1 = omega arith in
    is ∙ ap (λ (l : List Choice). l ++ (hier, level + 1) ∷ []) so_far ∙ append_assoc old (map f (range_with_len 1 level)) ((hier, level + 1) ∷ [])
    ∙ ap (λ (l : List Choice). old ++ l) (sym (map-range_with_len_more f 1 level (level + 1) far))

one_more : (n : ℕ) → range_with_len 0 (n + 1) ≡ range_with_len 0 n ++ n ∷ []
one_more n = sym (same (range_with_len 0 (n + 1))) ∙ map-range_with_len_more (λ (k : ℕ). k) 0 n n (omega arith) ∙ ap (λ (l : List ℕ). l ++ n ∷ []) (same (range_with_len 0 n))
  where
    same : (xs : List ℕ) → map (λ (k : ℕ). k) xs ≡ xs
    same [] = refl
    same (x ∷ xs) = ap (λ (l : List ℕ). x ∷ l) (same xs)

pub hiers_more : (o : Draft) (d hier : ℕ) (now new : List Choice) → new ≡ now ++ hier_choices o d hier → now ≡ (0, 0) ∷ flat_map (hier_choices o d) (range_with_len 0 hier)
    → new ≡ (0, 0) ∷ flat_map (hier_choices o d) (range_with_len 0 (hier + 1))
hiers_more o d hier now new is so_far =
    is ∙ ap (λ (l : List Choice). l ++ hier_choices o d hier) so_far
    ∙ flat_map_more (hier_choices o d) ((0, 0) ∷ []) (range_with_len 0 hier) hier
    ∙ ap (λ (hs : List ℕ). (0, 0) ∷ flat_map (hier_choices o d) hs) (sym (one_more hier))

-- ---- what is chosen

Has : {X : Type 0} → List X → X → Type 0
Has xs x = (p : ℕ) × (slice_get xs p ≡ Some x)

has_append : {X : Type 0} (xs ys : List X) (x : X) (p : ℕ) → slice_get (xs ++ ys) p ≡ Some x → ((q : ℕ) × (slice_get xs q ≡ Some x)) ⊎ ((q : ℕ) × (slice_get ys q ≡ Some x))
has_append [] ys x p h = inr (p, h)
has_append (y ∷ xs) ys x zero h = inl (zero, h)
has_append (y ∷ xs) ys x (suc p) h = elim (has_append xs ys x p h) [ inl a ↦ inl (suc a.0, a.1) | inr b ↦ inr b ]

has_flat : (f : ℕ → List Choice) (hs : List ℕ) (x : Choice) (p : ℕ) → slice_get (flat_map f hs) p ≡ Some x
    → (k : ℕ) × (k < length hs) × ((q : ℕ) × (slice_get (f (get_or hs k 0)) q ≡ Some x))
has_flat f [] x p h = cc
has_flat f (h ∷ hs) x p is = elim (has_append (f h) (flat_map f hs) x p is) [
  | inl a ↦ (zero, omega arith, a)
  | inr b ↦ let r = has_flat f hs x b.0 b.1 in (suc r.0, let lt = r.1 in omega (arith, lt), r.2)
]

has_map : (f : ℕ → Choice) (ls : List ℕ) (x : Choice) (p : ℕ) → slice_get (map f ls) p ≡ Some x → (l : ℕ) × (slice_get ls p ≡ Some l) × (x ≡ f l)
has_map f [] x p h = cc
has_map f (l ∷ ls) x zero h = (l, refl, cc)
has_map f (l ∷ ls) x (suc p) h = has_map f ls x p h

in_range : (a n p l : ℕ) → slice_get (range_with_len a n) p ≡ Some l → (a ≤ l) × (l < a + n)
in_range a zero p l h = cc
in_range a (suc n) zero l h = let e : a ≡ l = cc in (omega (arith, e), omega (arith, e))
in_range a (suc n) (suc p) l h = let r = in_range (a + 1) n p l h in let low = r.0 in let high = r.1 in (omega (arith, low), omega (arith, high))

in_levels : (aggregate : Aggregate) (top p l : ℕ) → slice_get (levels aggregate top) p ≡ Some l → (1 ≤ l) × (l ≤ top)
in_levels All top p l h = let r = in_range 1 top p l h in let low = r.0 in let high = r.1 in (omega (arith, low), omega (arith, high))
in_levels Top top p l h = one (nat_lt 0 top) refl p h
  where
    one : (b : Bool) → nat_lt 0 top ≡ b → (p : ℕ) → slice_get (if b then top ∷ [] else []) p ≡ Some l → (1 ≤ l) × (l ≤ top)
    one false e p h = cc
    one true e zero h = let q : top ≡ l = cc in let some : 1 ≤ top = grind (arith, nat_tests) in (omega (arith, q, some), omega (arith, q))
    one true e (suc p) h = cc
in_levels Bottom top p l h = cc

in_hier : (o : Draft) (d h : ℕ) (x : Choice) (p : ℕ) → h < length (dim_at o d).hiers → slice_get (hier_choices o d h) p ≡ Some x → IsChoice o d x
in_hier o d h x p lt is = one (is_dynamic o (Inner d h 0)) refl is
  where
    one : (b : Bool) → is_dynamic o (Inner d h 0) ≡ b → slice_get (if b then [] else map (λ (level : ℕ). (h, level)) (levels (dim_at o d).aggregate (top_of o d h))) p ≡ Some x → IsChoice o d x
    one true e g = cc
    one false e g =
        let m = has_map (λ (level : ℕ). (h, level)) (levels (dim_at o d).aggregate (top_of o d h)) x p g in
        let r = in_levels (dim_at o d).aggregate (top_of o d h) p m.0 m.1 in
        subst (IsChoice o d) (sym m.2) (inr (lt, e, r.0, r.1))

choice_in : (o : Draft) (d p : ℕ) (x : Choice) → slice_get (choices o d) p ≡ Some x → IsChoice o d x
choice_in o d zero x is = let e : (0, 0) ≡ x = cc in subst (IsChoice o d) e (inl (refl, refl))
choice_in o d (suc p) x is =
    let n = length (dim_at o d).hiers in
    let r = has_flat (hier_choices o d) (range_with_len 0 n) x p is in
    let k = r.0 in
    let lt : k < n = let w = r.1 in omega (arith, w, length-range_with_len 0 n) in
    let e : get_or (range_with_len 0 n) k 0 ≡ k = get_or-range_with_len 0 n k 0 lt ∙ omega arith in
    in_hier o d k x r.2.0 lt (subst (λ (h : ℕ). slice_get (hier_choices o d h) r.2.0 ≡ Some x) e r.2.1)

numbered_long : (cs : List (List Choice)) (n : ℕ) (xs : List Choice) → IsNumbered cs n xs → length xs ≡ length cs
numbered_long [] n [] is = refl
numbered_long [] n (x ∷ xs) is = absurd is
numbered_long (c ∷ cs) n [] is = absurd is
numbered_long (c ∷ cs) n (x ∷ xs) is = ap suc (numbered_long cs is.1 xs is.4)

numbered_choice : (o : Draft) (ds : List ℕ) (n : ℕ) (xs : List Choice) → IsNumbered (map (choices o) ds) n xs → (k : ℕ) → k < length ds → IsChoice o (get_or ds k 0) (choice_at xs k)
numbered_choice o [] n xs is k lt = absurd (omega arith)
numbered_choice o (d ∷ ds) n [] is k lt = absurd is
numbered_choice o (d ∷ ds) n (x ∷ xs) is zero lt = choice_in o d is.0 x is.2
numbered_choice o (d ∷ ds) n (x ∷ xs) is (suc k) lt = numbered_choice o ds is.1 xs is.4 k (omega arith)

-- what has a number is a view
pub numbered_view : (o : Draft) (n : ℕ) (xs : List Choice) → IsNumbered (all_choices o) n xs → IsView o xs
unfolding all_choices
numbered_view o n xs is =
    let dims = length o.dims in
    record {
      long = numbered_long (map (choices o) (range_with_len 0 dims)) n xs is ∙ length-map-range_with_len (choices o) 0 dims;
      choice = λ d lt.
          let e : get_or (range_with_len 0 dims) d 0 ≡ d = get_or-range_with_len 0 dims d 0 lt ∙ omega arith in
          let within : d < length (range_with_len 0 dims) = omega (arith, lt, length-range_with_len 0 dims) in
          subst (λ (k : ℕ). IsChoice o k (choice_at xs d)) e (numbered_choice o (range_with_len 0 dims) n xs is d within);
    }

-- ---- numbers of views

-- level 0 everywhere is view 0
based : (o : Draft) (ds : List ℕ) → IsNumbered (map (choices o) ds) 0 (replicate (length ds) (0, 0))
based o [] = refl
based o (d ∷ ds) = (zero, zero, refl, omega arith, based o ds)

pub base_numbered : (o : Draft) (xs : List Choice) → xs ≡ replicate (length o.dims) (0, 0) → IsNumbered (all_choices o) 0 xs
unfolding all_choices
base_numbered o xs is =
    let dims = length o.dims in
    subst (IsNumbered (map (choices o) (range_with_len 0 dims)) 0) (ap (λ (n : ℕ). replicate n (0, 0)) (length-range_with_len 0 dims) ∙ sym is) (based o (range_with_len 0 dims))

-- The last choices of a view, from those of its last dimensions.
pub record Numbering (cs : List (List Choice)) (number rest count : ℕ) (xs : List Choice) : Type 0 where
  pub counted : count ≡ views cs
  pub low : ℕ
  pub is : IsNumbered cs low xs
  pub sum : number ≡ rest * views cs + low

pub numbering_none : (number : ℕ) → Numbering [] number number 1 []
numbering_none number = record { counted = refl; low = 0; is = refl; sum = omega arith }

pub numbering_more : (c : List Choice) (cs : List (List Choice)) (number rest count : ℕ) (x : Choice) (xs : List Choice) → slice_get c (rest % length c) ≡ Some x
    → Numbering cs number rest count xs → Numbering (c ∷ cs) number (rest / length c) (count * length c) (x ∷ xs)
numbering_more c cs number rest count x xs chosen numbering =
    let n = length c in
    let v = views cs in
    let q = rest / n in
    let r = rest % n in
    let split : q * n + r ≡ rest = omega arith in
    let scaled : (q * n + r) * v ≡ rest * v = ap (λ (z : ℕ). z * v) split in
    let sum = numbering.sum in
    let counted = numbering.counted in
    record {
      counted = ap (λ (z : ℕ). z * n) counted ∙ omega arith;
      low = r * v + numbering.low;
      is = (r, numbering.low, chosen, refl, numbering.is);
      sum = total q n r v rest number numbering.low scaled sum;
    }
  where
    total : (q n r v rest number low : ℕ) → (q * n + r) * v ≡ rest * v → number ≡ rest * v + low → number ≡ q * (n * v) + (r * v + low)
    total q n r v rest number low a b = omega (arith, a, b)

-- ---- over an outline's dimensions, from the last

long_all : (o : Draft) → length (all_choices o) ≡ length o.dims
unfolding all_choices
long_all o = length-map-range_with_len (choices o) 0 (length o.dims)

pub drop_choices : (o : Draft) (d : ℕ) → d < length o.dims → drop d (all_choices o) ≡ choices o d ∷ drop (suc d) (all_choices o)
unfolding all_choices
drop_choices o d lt =
    drop-cons (map (choices o) (range_with_len 0 (length o.dims))) d [] (omega (arith, lt, length-map-range_with_len (choices o) 0 (length o.dims)))
    ∙ ap (λ (c : List Choice). c ∷ drop (suc d) (map (choices o) (range_with_len 0 (length o.dims)))) (get_or-map-range_with_len (choices o) 0 (length o.dims) d d [] lt (omega arith))

at_least_one : (o : Draft) (d : ℕ) → 1 ≤ length (choices o d)
at_least_one o d = omega arith

views_drop : (o : Draft) (ds : List ℕ) (i : ℕ) → views (drop i (map (choices o) ds)) ≤ views (map (choices o) ds)
views_drop o ds zero = omega arith
views_drop o [] (suc i) = omega arith
views_drop o (d ∷ ds) (suc i) =
    let h = views_drop o ds i in
    let m : 1 * views (map (choices o) ds) ≤ length (choices o d) * views (map (choices o) ds) = mul-le-mul_right (views (map (choices o) ds)) (at_least_one o d) in
    omega (arith, h, m)

-- fewer dimensions have no more views
pub few_views : (o : Draft) (i : ℕ) → views (drop i (all_choices o)) ≤ views (all_choices o)
unfolding all_choices
few_views o i = views_drop o (range_with_len 0 (length o.dims)) i

pub numbering_next : (o : Draft) (dims back number rest count : ℕ) (x : Choice) (items new : List Choice) → dims ≡ length o.dims → back < dims
    → slice_get (choices o (dims - 1 - back)) (rest % length (choices o (dims - 1 - back))) ≡ Some x → new ≡ items ++ x ∷ []
    → Numbering (drop (dims - back) (all_choices o)) number rest count (reverse items)
    → Numbering (drop (dims - (back + 1)) (all_choices o)) number (rest / length (choices o (dims - 1 - back))) (count * length (choices o (dims - 1 - back))) (reverse new)
numbering_next o dims back number rest count x items new long lt chosen push numbering =
    let d = dims - 1 - back in
    let e : dims - (back + 1) ≡ d = omega arith in
    let f : dims - back ≡ suc d = omega arith in
    let from : Numbering (drop (suc d) (all_choices o)) number rest count (reverse items) = subst (λ (j : ℕ). Numbering (drop j (all_choices o)) number rest count (reverse items)) f numbering in
    let step = numbering_more (choices o d) (drop (suc d) (all_choices o)) number rest count x (reverse items) chosen from in
    let turned : reverse new ≡ x ∷ reverse items = ap reverse push ∙ reverse-append items (x ∷ []) in
    subst (λ (j : ℕ). Numbering (drop j (all_choices o)) number (rest / length (choices o d)) (count * length (choices o d)) (reverse new)) (sym e)
    (subst (λ (l : List Choice). Numbering (drop d (all_choices o)) number (rest / length (choices o d)) (count * length (choices o d)) l) (sym turned)
    (subst (λ (cs : List (List Choice)). Numbering cs number (rest / length (choices o d)) (count * length (choices o d)) (x ∷ reverse items)) (sym (drop_choices o d (omega arith))) step))

pub numbering_begun : (o : Draft) (dims number : ℕ) → dims ≡ length o.dims → Numbering (drop dims (all_choices o)) number number 1 []
numbering_begun o dims number long =
    subst (λ (cs : List (List Choice)). Numbering cs number number 1 []) (sym (gone dims (all_choices o) (omega (arith, long_all o)))) (numbering_none number)
  where
    gone : (n : ℕ) (cs : List (List Choice)) → length cs ≤ n → drop n cs ≡ []
    gone zero [] le = refl
    gone (suc n) [] le = refl
    gone zero (c ∷ cs) le = absurd (omega arith)
    gone (suc n) (c ∷ cs) le = gone n cs (omega arith)

-- a whole view
pub numbering_all : (o : Draft) (dims back number rest count : ℕ) (xs : List Choice) → dims ≤ back → Numbering (drop (dims - back) (all_choices o)) number rest count xs → Numbering (all_choices o) number rest count xs
numbering_all o dims back number rest count xs le numbering =
    let e : dims - back ≡ 0 = omega arith in
    subst (λ (j : ℕ). Numbering (drop j (all_choices o)) number rest count xs) e numbering

-- what is left of the number goes past all views
pub past_all : (o : Draft) (number rest count : ℕ) (xs : List Choice) → 0 < rest → Numbering (all_choices o) number rest count xs → views (all_choices o) ≤ number
past_all o number rest count xs some numbering =
    let m : 1 * views (all_choices o) ≤ rest * views (all_choices o) = mul-le-mul_right (views (all_choices o)) (omega (arith, some)) in
    let sum = numbering.sum in
    omega (arith, m, sum)

pub numbered_all : (o : Draft) (number rest count : ℕ) (xs : List Choice) → rest ≡ 0 → Numbering (all_choices o) number rest count xs → IsNumbered (all_choices o) number xs
numbered_all o number rest count xs none numbering =
    let sum = numbering.sum in
    let e : numbering.low ≡ number = (let z : rest * views (all_choices o) ≡ 0 = ap (λ (r : ℕ). r * views (all_choices o)) none ∙ omega arith in omega (arith, sum, z)) in
    subst (λ (n : ℕ). IsNumbered (all_choices o) n xs) e numbering.is

pub numbering_first : (o : Draft) (dims number rest : ℕ) (items : List Choice) → dims ≡ length o.dims → rest ≡ number → items ≡ [] → Numbering (drop (dims - 0) (all_choices o)) number rest 1 (reverse items)
numbering_first o dims number rest items long same none =
    let e : dims - 0 ≡ dims = omega arith in
    subst (λ (j : ℕ). Numbering (drop j (all_choices o)) number rest 1 (reverse items)) (sym e)
    (subst (λ (l : List Choice). Numbering (drop dims (all_choices o)) number rest 1 (reverse l)) (sym none)
    (subst (λ (r : ℕ). Numbering (drop dims (all_choices o)) number r 1 []) (sym same) (numbering_begun o dims number long)))

pub numbering_step : (o : Draft) (dims back number rest count n : ℕ) (x : Choice) (offered items new : List Choice) → dims ≡ length o.dims → back < dims → offered ≡ choices o (dims - 1 - back)
    → n ≡ length offered → x ≡ get_or offered (rest % n) x → new ≡ items ++ x ∷ [] → Numbering (drop (dims - back) (all_choices o)) number rest count (reverse items)
    → Numbering (drop (dims - (back + 1)) (all_choices o)) number (rest / n) (count * n) (reverse new)
numbering_step o dims back number rest count n x offered items new long lt are counted chosen push numbering =
    let d = dims - 1 - back in
    let e : length (choices o d) ≡ n = sym (counted ∙ ap (λ (l : List Choice). length l) are) in
    let some : 1 ≤ n = omega (arith, e, at_least_one o d) in
    let here : slice_get offered (rest % n) ≡ Some x = slice_get_read offered n (rest % n) x counted (omega (arith, some)) chosen in
    let there : slice_get (choices o d) (rest % length (choices o d)) ≡ Some x =
    ap (λ (k : ℕ). slice_get (choices o d) (rest % k)) e ∙ ap (λ (l : List Choice). slice_get l (rest % n)) (sym are) ∙ here in
    subst (λ (k : ℕ). Numbering (drop (dims - (back + 1)) (all_choices o)) number (rest / k) (count * k) (reverse new)) e
    (numbering_next o dims back number rest count x items new long lt there push numbering)

-- too many of the last dimensions alone
pub too_many : (o : Draft) (i number rest count : ℕ) (xs : List Choice) → 4096 < count → Numbering (drop i (all_choices o)) number rest count xs → 4096 < views (all_choices o)
too_many o i number rest count xs many numbering = let counted = numbering.counted in let few = few_views o i in omega (arith, counted, few, many)
