-- Tables that grow by one, and what stands in them.
use Rattle.std.specs.Prelude.{if◌then◌else◌}
use Rattle.std.specs.List.{filter, fold, position, range_with_len}
use Rattle.std.proofs.Common.{◌≡◌, ◌∙◌, ℕ, zero, suc, ◌+◌, ◌<◌, ◌⊎◌, ⊎_elim, Bool, true, false, cond, max, List, [], ◌∷◌, ◌++◌, map, length, get_or, Some, refl, sym, ap, subst, arith, length-append, append-nil}
use Rattle.std.proofs.Math.ListN.{get_or-append}
use Rattle.std.proofs.Math.Seq.{get_or-append_seam}
use Rattle.std.proofs.lemmas.Option.{none-some}
use Rattle.aso_tree.specs.Trees.{first_misplaced, greatest, is_misplaced, places_of, IsTree}
use Rattle.aso_tree.proofs.Firsts.{none_in_range}
use Rattle.aso_tree.proofs.Paths.{filter_range_push}
use Rattle.aso_outline.specs.Tables.{AreEach}

before_or_at : (k n : ℕ) → k < n + 1 → (k < n) ⊎ (k ≡ n)
before_or_at k n low = grind arith

module _ {X : Type 0} (P : ℕ → X → Type 0) where
  pub each_none : AreEach P 0 []
  each_none = (refl, λ k x low. absurd (omega (arith, low)))

  pub each_more : (xs : List X) (x : X) (n : ℕ) → AreEach P n xs → P n x → AreEach P (n + 1) (xs ++ x ∷ [])
  each_more xs x n all last = (omega (arith, length-append xs (x ∷ []), all.0), each)
    where
      each : (k : ℕ) (d : X) → k < n + 1 → P k (get_or (xs ++ x ∷ []) k d)
      each k d low =
          ⊎_elim
          (λ (before : k < n). subst (P k) (sym (get_or-append xs (x ∷ []) d k (omega (arith, before, all.0)))) (all.1 k d before))
          (λ (same : k ≡ n).
          let at : get_or (xs ++ x ∷ []) k d ≡ x = ap (λ j. get_or (xs ++ x ∷ []) j d) (same ∙ sym all.0) ∙ get_or-append_seam xs x [] d in
          subst (P k) (sym at) (subst (λ j. P j x) (sym same) last))
          (before_or_at k n low)

  -- the one that stands at a number
  pub each_at : (n : ℕ) (xs : List X) → AreEach P n xs → (k : ℕ) (x : X) → k < n → x ≡ get_or xs k x → P k x
  each_at n xs all k x low is = subst (P k) (sym is) (all.1 k x low)

-- one place more, if it passes
pub filter_more : (p : ℕ → Bool) (n : ℕ) → filter p (range_with_len 0 (n + 1)) ≡ filter p (range_with_len 0 n) ++ (if p n then n ∷ [] else [])
filter_more p n = filter_range_push p n

pub count_more : (p : ℕ → Bool) (n : ℕ) → length (filter p (range_with_len 0 (n + 1))) ≡ length (filter p (range_with_len 0 n)) + cond (p n) 1 0
count_more p n = ap length (filter_range_push p n) ∙ length-append (filter p (range_with_len 0 n)) (filter p (n ∷ [])) ∙ ap (λ k. length (filter p (range_with_len 0 n)) + k) (one (p n))
  where
    one : (b : Bool) → length (cond b (n ∷ []) []) ≡ cond b 1 0
    one true = refl
    one false = refl

fold_more : (f : ℕ → ℕ) (b : ℕ) (xs : List ℕ) (m : ℕ) → fold max b (map f (xs ++ m ∷ [])) ≡ max (fold max b (map f xs)) (f m)
fold_more f b [] m = refl
fold_more f b (x ∷ xs) m = fold_more f (max b (f x)) xs m

-- the greatest of those that pass, one place more
pub greatest_more : (f : ℕ → ℕ) (p : ℕ → Bool) (n : ℕ) → greatest (map f (filter p (range_with_len 0 (n + 1)))) ≡ (if p n then max (greatest (map f (filter p (range_with_len 0 n)))) (f n) else greatest (map f (filter p (range_with_len 0 n))))
greatest_more f p n = ap (λ xs. greatest (map f xs)) (filter_range_push p n) ∙ by_test (p n)
  where
    by_test : (b : Bool) → greatest (map f (filter p (range_with_len 0 n) ++ cond b (n ∷ []) [])) ≡ (if b then max (greatest (map f (filter p (range_with_len 0 n)))) (f n) else greatest (map f (filter p (range_with_len 0 n))))
    by_test true = fold_more f 0 (filter p (range_with_len 0 n)) n
    by_test false = ap (λ xs. greatest (map f xs)) (append-nil (filter p (range_with_len 0 n)))

-- what passes among the first places is one of them
pub passes_within : (p : ℕ → Bool) (n a k d : ℕ) → k < length (filter p (range_with_len a n)) → get_or (filter p (range_with_len a n)) k d < a + n
passes_within p zero a k d low = absurd (omega (arith, low))
passes_within p (suc n) a k d low = by_test (p a) k (λ j less. omega (arith, passes_within p n (a + 1) j d less)) low
  where
    by_test : (b : Bool) (k : ℕ) → ((j : ℕ) → j < length (filter p (range_with_len (a + 1) n)) → get_or (filter p (range_with_len (a + 1) n)) j d < a + suc n)
        → k < length (cond b (a ∷ filter p (range_with_len (a + 1) n)) (filter p (range_with_len (a + 1) n))) → get_or (cond b (a ∷ filter p (range_with_len (a + 1) n)) (filter p (range_with_len (a + 1) n))) k d < a + suc n
    by_test true zero rest low = omega arith
    by_test true (suc k) rest low = rest k (omega (arith, low))
    by_test false k rest low = rest k low

-- a tree has no fault
pub no_fault : (xs ys : List ℕ) (node : ℕ) → IsTree ys → xs ≡ ys → first_misplaced xs ≡ Some node → ⊥
unfolding first_misplaced
no_fault xs ys node tree same h = none-some node (sym (none_in_range (is_misplaced ys) (length ys) tree) ∙ (ap (λ zs. position (is_misplaced zs) (places_of zs)) (sym same) ∙ h))
