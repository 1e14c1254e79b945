-- Of some places the last of those whose order is the greatest, one place more.
use Rattle.std.proofs.Common.{◌≡◌, ◌∙◌, ℕ, ◌+◌, ◌<◌, ◌≤◌, Bool, true, false, ◌&&◌, eqb, List, [], ◌∷◌, ◌++◌, map, max, Option, Some, None, refl, sym, ap, subst, arith, append-nil, eq-eqb}
use Rattle.std.specs.Prelude.{nat_le, ◌==◌, if◌then◌else◌, IfSome}
use Rattle.std.specs.List.{filter, fold, last_or, range_with_len}
use Rattle.std.proofs.lemmas.Bool.{leb-true, leb-false, ne_eqb}
use Rattle.std.proofs.lemmas.List.Elements.{filter-append}
use Rattle.aso_tree.specs.Trees.{greatest}
use Rattle.aso_tree.proofs.Paths.{filter_range_push}
use Rattle.aso_calc.specs.Values.{last_greatest}

last_push : {A : Type 0} (o : Option A) (xs : List A) (y : A) → last_or o (xs ++ y ∷ []) ≡ Some y
last_push o [] y = refl
last_push o (x ∷ xs) y = last_push (Some x) xs y

fold_more : (f : ℕ → ℕ) (b : ℕ) (xs : List ℕ) (m : ℕ) → fold max b (map f (xs ++ m ∷ [])) ≡ max (fold max b (map f xs)) (f m)
fold_more f b [] m = refl
fold_more f b (x ∷ xs) m = fold_more f (max b (f x)) xs m

max_high : (a b : ℕ) → a ≤ b → max a b ≡ b
max_high a b low = omega (arith, low)

max_low : (a b : ℕ) → b < a → max a b ≡ a
max_low a b low = omega (arith, low)

module _ (f : ℕ → ℕ) (xs : List ℕ) (n : ℕ) where
  abbrev top : ℕ
  top = greatest (map f xs)

  kept : (t : ℕ → Bool) → t n ≡ true → filter t (xs ++ n ∷ []) ≡ filter t xs ++ n ∷ []
  kept t is = filter-append t xs (n ∷ []) ∙ rw is refl

  left_out : (t : ℕ → Bool) → t n ≡ false → filter t (xs ++ n ∷ []) ≡ filter t xs
  left_out t is = filter-append t xs (n ∷ []) ∙ rw is (append-nil (filter t xs))

  high : top ≤ f n → (greatest (map f (xs ++ n ∷ [])) ≡ f n) × (last_greatest f (xs ++ n ∷ []) ≡ Some n)
  high low =
      let is : greatest (map f (xs ++ n ∷ [])) ≡ f n = fold_more f 0 xs n ∙ max_high top (f n) low in
      (is, ap (last_or None) (kept (λ d. f d == greatest (map f (xs ++ n ∷ []))) (eq-eqb (f n) _ (sym is))) ∙ last_push None (filter (λ d. f d == greatest (map f (xs ++ n ∷ []))) xs) n)

  below : f n < top → (greatest (map f (xs ++ n ∷ [])) ≡ top) × (last_greatest f (xs ++ n ∷ []) ≡ last_greatest f xs)
  below low =
      let is : greatest (map f (xs ++ n ∷ [])) ≡ top = fold_more f 0 xs n ∙ max_low top (f n) low in
      (is, ap (last_or None) (left_out (λ d. f d == greatest (map f (xs ++ n ∷ []))) (ne_eqb (f n) _ (λ e. omega (arith, e, is, low))) ∙ ap (λ (g : ℕ). filter (λ d. f d == g) xs) is))

abbrev pub picked : Bool → ℕ → ℕ → Option ℕ → ℕ → Option ℕ × ℕ
picked computed order n b m = if computed && nat_le m order then (Some n, order) else (b, m)

module _ (f : ℕ → ℕ) (p : ℕ → Bool) (n m : ℕ) (b : Option ℕ) where
  abbrev before : List ℕ
  before = filter p (range_with_len 0 n)

  abbrev AreBest : List ℕ → Option ℕ × ℕ → Type 0
  AreBest xs r = (r.1 ≡ greatest (map f xs)) × (r.0 ≡ last_greatest f xs)

  by_order : (c : Bool) → nat_le m (f n) ≡ c → AreBest before (b, m) → AreBest (before ++ n ∷ []) (if c then (Some n, f n) else (b, m))
  by_order true is best =
      let h = high f before n (omega (arith, best.0, leb-true m (f n) is)) in
      (sym h.0, sym h.1)
  by_order false is best =
      let h = below f before n (omega (arith, best.0, leb-false m (f n) is)) in
      (best.0 ∙ sym h.0, best.1 ∙ sym h.1)

  by_test : (c : Bool) → AreBest before (b, m) → AreBest (before ++ (if c then n ∷ [] else [])) (picked c (f n) n b m)
  by_test true best = by_order (nat_le m (f n)) refl best
  by_test false best = (best.0 ∙ ap (λ (xs : List ℕ). greatest (map f xs)) (sym (append-nil before)), best.1 ∙ ap (last_greatest f) (sym (append-nil before)))

  pub one_more : AreBest before (b, m) → (r : Option ℕ × ℕ) → r ≡ picked (p n) (f n) n b m → AreBest (filter p (range_with_len 0 (n + 1))) r
  one_more best r is =
      let h = by_test (p n) best in (
        ap (λ (x : Option ℕ × ℕ). x.1) is ∙ (h.0 ∙ ap (λ (xs : List ℕ). greatest (map f xs)) (sym (filter_range_push p n))),
        ap (λ (x : Option ℕ × ℕ). x.0) is ∙ (h.1 ∙ ap (last_greatest f) (sym (filter_range_push p n))),
      )

abbrev place : Option ℕ × ℕ → Option ℕ
place r = r.0

within_more : (n : ℕ) (b : Option ℕ) → IfSome b (λ d. d < n) → IfSome b (λ d. d < n + 1)
within_more n (Some d) low = omega (arith, low)
within_more n None low = tt

-- the place is one of those so far
pub picked_within : (n : ℕ) (computed : Bool) (order m : ℕ) (b : Option ℕ) → IfSome b (λ d. d < n) → (r : Option ℕ × ℕ) → r ≡ picked computed order n b m → IfSome r.0 (λ d. d < n + 1)
picked_within n computed order m b low r is = subst (λ (x : Option ℕ × ℕ). IfSome x.0 (λ d. d < n + 1)) (sym is) (by_test (computed && nat_le m order))
  where
    by_test : (c : Bool) → IfSome (place (if c then (Some n, order) else (b, m))) (λ d. d < n + 1)
    by_test true = omega arith
    by_test false = within_more n b low
