-- Heights rise towards the root, and a leaf has height 0.
use Rattle.std.proofs.Common.{◌≡◌, ◌∙◌, ℕ, zero, suc, ◌+◌, ◌-◌, ◌<◌, ◌≤◌, max, Bool, true, false, List, [], ◌∷◌, length, map, refl, sym, ap, arith, ⊎_elim, ◌⊎◌, true≢false}
use Rattle.std.specs.Prelude.{slice_index}
use Rattle.std.specs.List.{filter, range_with_len, fold}
use Rattle.std.proofs.lemmas.Bool.{eqb-true}
use Rattle.aso_tree.specs.Trees.{is_under, under, depth, height, is_leaf, greatest, IsTree}
use Rattle.aso_tree.proofs.Paths.{depth_up}
use Rattle.aso_tree.proofs.Preorder.{under_cases, under_self, under_up, under_trans}
use Rattle.aso_tree.proofs.Ends.{either, ends, span_of, leaf_of_span}

base_le : (xs : List ℕ) (b : ℕ) → b ≤ fold max b xs
base_le [] b = omega arith
base_le (x ∷ xs) b = let rest : max b x ≤ fold max (max b x) xs = base_le xs (max b x) in omega (arith, rest)

pub here_or_later : (a k : ℕ) → a ≤ k → (a ≡ k) ⊎ (a + 1 ≤ k)
here_or_later a k le = grind arith

module _ (f : ℕ → ℕ) (t : ℕ → Bool) where
  -- all that pass are at most the bound
  bounded : (n a b most : ℕ) → b ≤ most → ((k : ℕ) → a ≤ k → k < a + n → t k ≡ true → f k ≤ most) → fold max b (map f (filter t (range_with_len a n))) ≤ most
  bounded zero a b most base each = base
  bounded (suc n) a b most base each =
      ⊎_elim
      (λ (pass : t a ≡ true). rw pass (bounded n (a + 1) (max b (f a)) most (let here : f a ≤ most = each a (omega arith) (omega arith) pass in omega (arith, base, here)) (λ k lo hi. each k (omega (arith, lo)) (omega (arith, hi)))))
      (λ (fail : t a ≡ false). rw fail (bounded n (a + 1) b most base (λ k lo hi. each k (omega (arith, lo)) (omega (arith, hi)))))
      (either (t a))

  first_reached : (n a b k : ℕ) → a ≡ k → f k ≤ fold max (max b (f a)) (map f (filter t (range_with_len (a + 1) n)))
  first_reached n a b k same =
      let most : max b (f a) ≤ fold max (max b (f a)) (map f (filter t (range_with_len (a + 1) n))) = base_le (map f (filter t (range_with_len (a + 1) n))) (max b (f a)) in
      let is : f a ≡ f k = ap f same in
      omega (arith, most, is)

  not_failed : (a k : ℕ) → t k ≡ true → t a ≡ false → a ≡ k → ⊥
  not_failed a k pass fail same = true≢false (sym pass ∙ (sym (ap t same) ∙ fail))

  -- one that passes is at most the greatest
  reached : (n a b k : ℕ) → a ≤ k → k < a + n → t k ≡ true → f k ≤ fold max b (map f (filter t (range_with_len a n)))
  reached zero a b k lo hi pass = absurd (omega (arith, lo, hi))
  reached (suc n) a b k lo hi pass =
      ⊎_elim
      (λ (here : t a ≡ true). rw here (⊎_elim (λ (same : a ≡ k). first_reached n a b k same) (λ (above : a + 1 ≤ k). reached n (a + 1) (max b (f a)) k above (omega (arith, hi)) pass) (here_or_later a k lo)))
      (λ (fail : t a ≡ false). rw fail (⊎_elim (λ (same : a ≡ k). absurd (not_failed a k pass fail same)) (λ (above : a + 1 ≤ k). reached n (a + 1) b k above (omega (arith, hi)) pass) (here_or_later a k lo)))
      (either (t a))

-- no lower than its child
pub height_up : (parents : List ℕ) (i p : ℕ) → p ≡ slice_index parents i → p < i → i < length parents → height parents i ≤ height parents p
height_up parents i p is low within =
    let at_parent : is_under parents p i ≡ true = under_up parents p i (omega (arith, is, low)) (rw (← is) (under_self parents p)) in
    let deeper : depth parents p + 1 ≡ depth parents i = depth_up parents i p is low in
    bounded (λ x. depth parents x - depth parents i) (is_under parents i) (length parents) 0 0 (height parents p) (omega arith) (λ k lo hi below.
    let far : depth parents k - depth parents p ≤ height parents p = reached (λ x. depth parents x - depth parents p) (is_under parents p) (length parents) 0 0 k (omega arith) hi (under_trans k parents p i k (omega arith) at_parent below) in
    omega (arith, far, deeper))

-- higher than its child
pub height_above : (parents : List ℕ) (i p : ℕ) → p ≡ slice_index parents i → p < i → i < length parents → height parents i < height parents p
height_above parents i p is low within =
    let at_parent : is_under parents p i ≡ true = under_up parents p i (omega (arith, is, low)) (rw (← is) (under_self parents p)) in
    let deeper : depth parents p + 1 ≡ depth parents i = depth_up parents i p is low in
    let one : depth parents i - depth parents p ≤ height parents p = reached (λ x. depth parents x - depth parents p) (is_under parents p) (length parents) 0 0 i (omega arith) (omega (arith, within)) at_parent in
    let most : height parents i ≤ height parents p - 1 =
    bounded (λ x. depth parents x - depth parents i) (is_under parents i) (length parents) 0 0 (height parents p - 1) (omega arith) (λ k lo hi below.
    let far : depth parents k - depth parents p ≤ height parents p = reached (λ x. depth parents x - depth parents p) (is_under parents p) (length parents) 0 0 k (omega arith) hi (under_trans k parents p i k (omega arith) at_parent below) in
    omega (arith, far, deeper, one)) in
    omega (arith, most, one, deeper)

-- no lower than what lies below it
pub height_under : (n : ℕ) (parents : List ℕ) (top i : ℕ) → i ≤ n → i < length parents → is_under parents top i ≡ true → height parents i ≤ height parents top
height_under zero parents top i le within h =
    ⊎_elim
    (λ (same : i ≡ top). let is : height parents i ≡ height parents top = ap (height parents) same in omega (arith, is))
    (λ (up : (slice_index parents i < i) × (is_under parents top (slice_index parents i) ≡ true)). absurd (omega (arith, le, up.0)))
    (under_cases parents top i h)
height_under (suc n) parents top i le within h =
    ⊎_elim
    (λ (same : i ≡ top). let is : height parents i ≡ height parents top = ap (height parents) same in omega (arith, is))
    (λ (up : (slice_index parents i < i) × (is_under parents top (slice_index parents i) ≡ true)).
    let here : height parents i ≤ height parents (slice_index parents i) = height_up parents i (slice_index parents i) refl up.0 within in
    let rest : height parents (slice_index parents i) ≤ height parents top = height_under n parents top (slice_index parents i) (omega (arith, le, up.0)) (omega (arith, up.0, within)) up.1 in
    omega (arith, here, rest))
    (under_cases parents top i h)

pub leaf_height : (parents : List ℕ) → IsTree parents → (i : ℕ) → i < length parents → is_leaf parents i ≡ true → height parents i ≡ 0
leaf_height parents tree i within leaf =
    let r = ends parents tree i within in
    let one : r.0 - i ≡ 1 = eqb-true _ _ (sym (leaf_of_span parents tree i r.0 r.2) ∙ leaf) in
    let alone : under parents i ≡ range_with_len i 1 = span_of parents tree i r.0 r.2 ∙ ap (λ n. range_with_len i n) one in
    ap (λ (xs : List ℕ). greatest (map (λ x. depth parents x - depth parents i) xs)) alone ∙ omega arith
