-- A layout in the making, from the last dimension.
use Rattle.std.proofs.Common.{◌≡◌, ℕ, zero, suc, ◌+◌, ◌-◌, ◌*◌, ◌^◌, ◌<◌, ◌≤◌, ◌⊎◌, inl, inr, List, [], ◌∷◌, ◌++◌, length, reverse, refl, sym, ◌∙◌, ap, subst, arith}
use Rattle.std.specs.Prelude.{Option, Some, None, IfSome, IfOk, Result, Ok, Err, map}
use Rattle.aso_outline.specs.Classes.{class_at, classes_at, leaf_count}
use Rattle.std.specs.List.{range_with_len}
use Rattle.std.proofs.lemmas.List.{reverse-append}
use Rattle.std.proofs.lemmas.List.FromFn.{map-range_with_len_more, length-map-range_with_len}
use Rattle.aso_outline.specs.declared.draft.Draft.{Draft}
use Rattle.aso_outline.specs.Heights.{top_of}
use Rattle.aso_outline.specs.Members.{dim_at}
use Rattle.aso_keys.specs.declared.axis.Axis.{Axis}
use Rattle.aso_keys.specs.declared.axis.Ranges.{Ranges}
use Rattle.aso_keys.specs.Axes.{found, entry, range_at, AreBelow, bits_of, IsAxis, ArePlaced}
use Rattle.aso_keys.specs.Layouts.{IsAxisOf, AreAxes, IsLayout}
use Rattle.aso_keys.specs.Ranges.{IsRangeOf}
use Rattle.aso_keys.specs.Views.{Choice, choice_at, IsChoice}

-- ---- classes

entry_more : (xs : List (Option ℕ)) (x : Option ℕ) (l c : ℕ) → entry (xs ++ x ∷ []) l ≡ Some c → (entry xs l ≡ Some c) ⊎ (x ≡ Some c)
entry_more [] x zero c h = inr (one x h)
  where
    one : (x : Option ℕ) → found (Some x) ≡ Some c → x ≡ Some c
    one x h = h
entry_more [] x (suc l) c h = cc
entry_more (y ∷ xs) x zero c h = inl h
entry_more (y ∷ xs) x (suc l) c h = entry_more xs x l c h

pub below_none : (count : ℕ) → AreBelow count []
below_none count l c h = cc

pub below_more : (count : ℕ) (xs new : List (Option ℕ)) (x : Option ℕ) → new ≡ xs ++ x ∷ [] → AreBelow count xs → IfSome x (λ class. class < count) → AreBelow count new
below_more count xs new x is below small l c h = elim (entry_more xs x l c (ap (λ (t : List (Option ℕ)). entry t l) (sym is) ∙ h)) [
  | inl a ↦ below l c a
  | inr b ↦ one x b small
]
  where
    one : (o : Option ℕ) → o ≡ Some c → IfSome o (λ class. class < count) → c < count
    one None e s = cc
    one (Some k) e s = let q : k ≡ c = cc in subst (λ (z : ℕ). z < count) q s

pub classes_more : (f : ℕ → Option ℕ) (leaf : ℕ) (xs new : List (Option ℕ)) (x : Option ℕ) → new ≡ xs ++ x ∷ [] → x ≡ f leaf → xs ≡ map f (range_with_len 0 leaf) → new ≡ map f (range_with_len 0 (leaf + 1))
classes_more f leaf xs new x is at so_far =
    is ∙ ap (λ (l : List (Option ℕ)). l ++ x ∷ []) so_far ∙ ap (λ (z : Option ℕ). map f (range_with_len 0 leaf) ++ z ∷ []) at
    ∙ sym (map-range_with_len_more f 0 leaf leaf (omega arith))

-- ---- choices

pub choice_hier : (o : Draft) (d : ℕ) (x : Choice) → 1 ≤ length (dim_at o d).hiers → IsChoice o d x → x.0 < length (dim_at o d).hiers
choice_hier o d x some is = elim is [ inl a ↦ (let e = a.0 in omega (arith, e, some)) | inr b ↦ b.0 ]

pub choice_level : (o : Draft) (d : ℕ) (x : Choice) → IsChoice o d x → x.1 ≤ top_of o d x.0
choice_level o d x is = elim is [ inl a ↦ (let e = a.1 in omega (arith, e)) | inr b ↦ b.3 ]

-- ---- dimensions

-- The last dimensions of a layout.
pub record Building (o : Draft) (xs : List Choice) (d back bits : ℕ) (axes : List Axis) : Type 0 where
  pub placed : ArePlaced axes
  pub counted : bits ≡ bits_of axes
  pub small : bits ≤ 32 * back
  pub long : length axes ≡ back
  pub parts : AreAxes o xs d axes

pub building_none : (o : Draft) (xs : List Choice) (d bits : ℕ) (items : List Axis) → bits ≡ 0 → items ≡ [] → Building o xs d 0 bits (reverse items)
building_none o xs d bits items nil none =
    subst (λ (l : List Axis). Building o xs d 0 bits (reverse l)) (sym none)
    (record { placed = tt; counted = nil; small = omega (arith, nil); long = refl; parts = tt })

pub building_more : (o : Draft) (xs : List Choice) (dims back bits total : ℕ) (a : Axis) (items new : List Axis) → back < dims → total ≡ bits + a.width → new ≡ items ++ a ∷ []
    → IsAxis a → IsAxisOf o (dims - 1 - back) (choice_at xs (dims - 1 - back)) a → a.shift ≡ bits
    → Building o xs (dims - back) back bits (reverse items) → Building o xs (dims - (back + 1)) (back + 1) total (reverse new)
building_more o xs dims back bits total a items new lt sum push is of shift built =
    let d = dims - 1 - back in
    let e : dims - (back + 1) ≡ d = omega arith in
    let f : dims - back ≡ d + 1 = omega arith in
    let turned : reverse new ≡ a ∷ reverse items = ap reverse push ∙ reverse-append items (a ∷ []) in
    let counted = built.counted in
    let small = built.small in
    let long = built.long in
    let narrow = is.narrow in
    subst (λ (j : ℕ). Building o xs j (back + 1) total (reverse new)) (sym e)
    (subst (λ (l : List Axis). Building o xs d (back + 1) total l) (sym turned)
    (record {
      placed = (is, shift ∙ counted, built.placed);
      counted = omega (arith, sum, counted);
      small = omega (arith, sum, small, narrow);
      long = omega (arith, long);
      parts = (of, subst (λ (j : ℕ). AreAxes o xs j (reverse items)) f built.parts);
    }))

pub building_all : (o : Draft) (xs : List Choice) (dims back bits : ℕ) (axes : List Axis) → dims ≡ length o.dims → back ≡ dims → Building o xs (dims - back) back bits axes → IsLayout o xs axes
building_all o xs dims back bits axes long done built =
    let e : dims - back ≡ 0 = omega (arith, done) in
    let counted = built.long in
    record { long = omega (arith, long, done, counted); parts = subst (λ (j : ℕ). AreAxes o xs j axes) e built.parts }

pub as_long : (f : ℕ → Option ℕ) (n count : ℕ) (all : List (Option ℕ)) → n < 2 ^ 32 → n ≡ count → all ≡ map f (range_with_len 0 count) → length all < 2 ^ 32
as_long f n count all small same is = omega (arith, ap (λ (l : List (Option ℕ)). length l) is, length-map-range_with_len f 0 count, same, small)

pub axis_is : {E : Type 0} (o : Draft) (d count : ℕ) (x choice : Choice) (classes : List (Option ℕ)) (ranges : Ranges) (r : Result Axis E) → IfOk r (λ (a : Axis). a.classes ≡ classes) → IfOk r (λ (a : Axis). a.count ≡ count)
    → IfOk r (λ (a : Axis). a.ranges ≡ ranges) → ((m : ℕ) → IsRangeOf o d x m (range_at ranges m)) → classes ≡ map (class_at o d x.0 x.1) (range_with_len 0 (leaf_count o d)) → count ≡ classes_at o d x.0 x.1 → x ≡ choice → IfOk r (IsAxisOf o d choice)
axis_is {E} o d count x choice classes ranges (Ok a) same many kept each are counted is =
    subst (λ (y : Choice). IsAxisOf o d y a) is (record {
      count = many ∙ counted;
      classes = same ∙ are;
      ranges = λ m. subst (λ (t : Ranges). IsRangeOf o d x m (range_at t m)) (sym kept) (each m);
    })
axis_is {E} o d count x choice classes ranges (Err e) same many kept each are counted is = tt
