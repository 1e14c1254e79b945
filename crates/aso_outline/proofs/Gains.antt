-- Tables over the numbers below an end that gain values turn by turn and lose none: a turn that gains none is the last, so
-- after as many turns as there are numbers none is gained.
use Rattle.std.proofs.Common.{◌≡◌, ◌∙◌, ℕ, zero, suc, ◌+◌, ◌-◌, ◌<◌, ◌≤◌, ◌⊎◌, ⊎_elim, inl, inr, Bool, true, false, refl, sym, ap, arith, true≢false}
use Rattle.aso_tree.proofs.Ends.{either}
use Rattle.aso_outline.proofs.Turns.{below_or_past, stays}

abbrev pub one : Bool → ℕ
one true = 1
one false = 0

-- how many numbers below an end pass
abbrev pub count : (ℕ → Bool) → ℕ → ℕ
count p zero = 0
count p (suc n) = one (p n) + count p n

one_most : (b : Bool) → one b ≤ 1
one_most true = omega arith
one_most false = omega arith

one_more : (a b : Bool) → (a ≡ true → b ≡ true) → one a ≤ one b
one_more true true h = omega arith
one_more true false h = absurd (true≢false (sym (h refl)))
one_more false true h = omega arith
one_more false false h = omega arith

sum_within : (a c n : ℕ) → a ≤ 1 → c ≤ n → a + c ≤ suc n
sum_within a c n x y = omega (arith, x, y)

sum_more : (a b c d : ℕ) → a ≤ b → c ≤ d → a + c ≤ b + d
sum_more a b c d x y = omega (arith, x, y)

sum_past : (a b c d : ℕ) → a ≤ b → c < d → a + c < b + d
sum_past a b c d x y = omega (arith, x, y)

past_sum : (a b c d : ℕ) → a < b → c ≤ d → a + c < b + d
past_sum a b c d x y = omega (arith, x, y)

pub count_most : (p : ℕ → Bool) (n : ℕ) → count p n ≤ n
count_most p zero = omega arith
count_most p (suc n) = sum_within (one (p n)) (count p n) n (one_most (p n)) (count_most p n)

below_or_here : (k n : ℕ) → k < suc n → (k < n) ⊎ (k ≡ n)
below_or_here k n low = grind (arith, low)

module _ (p q : ℕ → Bool) (keeps : (k : ℕ) → p k ≡ true → q k ≡ true) where
  count_more : (n : ℕ) → count p n ≤ count q n
  count_more zero = omega arith
  count_more (suc n) = sum_more (one (p n)) (one (q n)) (count p n) (count q n) (one_more (p n) (q n) (keeps n)) (count_more n)

  one_past : (a b : Bool) → a ≡ false → b ≡ true → one a < one b
  one_past a b e f = rw (e, f) (omega arith)

  -- none is gained, or the count rises
  pub gains : (n : ℕ) → ((k : ℕ) → k < n → q k ≡ p k) ⊎ (count p n < count q n)
  gains zero = inl (λ k low. absurd (omega (arith, low)))
  gains (suc n) =
      ⊎_elim
      (λ (same : (k : ℕ) → k < n → q k ≡ p k). ⊎_elim
      (λ (had : p n ≡ true). inl (λ k low. at k same (keeps n had ∙ sym had) (below_or_here k n low)))
      (λ (lacked : p n ≡ false). ⊎_elim
      (λ (gained : q n ≡ true). inr (past_sum (one (p n)) (one (q n)) (count p n) (count q n) (one_past (p n) (q n) lacked gained) (count_more n)))
      (λ (lacks : q n ≡ false). inl (λ k low. at k same (lacks ∙ sym lacked) (below_or_here k n low)))
      (either (q n)))
      (either (p n)))
      (λ (more : count p n < count q n). inr (sum_past (one (p n)) (one (q n)) (count p n) (count q n) (one_more (p n) (q n) (keeps n)) more))
      (gains n)
    where
      at : (k : ℕ) → ((j : ℕ) → j < n → q j ≡ p j) → q n ≡ p n → (k < n) ⊎ (k ≡ n) → q k ≡ p k
      at k same here (inl low) = same k low
      at k same here (inr is) = ap q is ∙ (here ∙ sym (ap p is))

module _ {X : Type 0} (has : X → Bool) (none : X) (lacks : (x : X) → has x ≡ false → x ≡ none) (f : ℕ → ℕ → X) (n : ℕ)
    (next : (a b : ℕ) → ((k : ℕ) → f a k ≡ f b k) → (k : ℕ) → f (suc a) k ≡ f (suc b) k)
    (keeps : (t k : ℕ) → has (f t k) ≡ true → f (suc t) k ≡ f t k)
    (past : (t k : ℕ) → n ≤ k → f (suc t) k ≡ f t k) where
  abbrev Still : ℕ → Type 0
  Still t = (k : ℕ) → f (suc t) k ≡ f t k

  still : (t : ℕ) → ((k : ℕ) → k < n → has (f (suc t) k) ≡ has (f t k)) → Still t
  still t same k =
      ⊎_elim
      (λ (low : k < n). ⊎_elim
      (λ (had : has (f t k) ≡ true). keeps t k had)
      (λ (lacked : has (f t k) ≡ false). lacks (f (suc t) k) (same k low ∙ lacked) ∙ sym (lacks (f t k) lacked))
      (either (has (f t k))))
      (λ (end : n ≤ k). past t k end)
      (below_or_past k n)

  kept_test : (t k : ℕ) → has (f t k) ≡ true → has (f (suc t) k) ≡ true
  kept_test t k had = ap has (keeps t k had) ∙ had

  -- a turn before this one gained none, or so many are there
  rises : (t : ℕ) → (t ≤ count (λ k. has (f t k)) n) ⊎ ((s : ℕ) × (s < t) × Still s)
  rises zero = inl (omega arith)
  rises (suc t) =
      ⊎_elim
      (λ (many : t ≤ count (λ k. has (f t k)) n). ⊎_elim
      (λ (same : (k : ℕ) → k < n → has (f (suc t) k) ≡ has (f t k)). inr (t, omega arith, still t same))
      (λ (more : count (λ k. has (f t k)) n < count (λ k. has (f (suc t) k)) n). inl (omega (arith, many, more)))
      (gains (λ k. has (f t k)) (λ k. has (f (suc t) k)) (kept_test t) n))
      (λ (done : (s : ℕ) × (s < t) × Still s). inr (done.0, omega (arith, done.1), done.2))
      (rises t)

  last_turn : (s : ℕ) × (s ≤ n) × Still s
  last_turn =
      ⊎_elim
      (λ (many : suc n ≤ count (λ k. has (f (suc n) k)) n). let most : count (λ k. has (f (suc n) k)) n ≤ n = count_most (λ k. has (f (suc n) k)) n in absurd (omega (arith, many, most)))
      (λ (done : (s : ℕ) × (s < suc n) × Still s). (done.0, omega (arith, done.1), done.2))
      (rises (suc n))

  -- from the end on nothing changes
  pub ended : (t k : ℕ) → n ≤ t → f t k ≡ f n k
  ended t k late =
      let s : ℕ = last_turn.0 in
      let low : s ≤ n = last_turn.1 in
      stays f next s last_turn.2 (t - s) t k (omega (arith, low, late)) ∙ sym (stays f next s last_turn.2 (n - s) n k (omega (arith, low)))

  later : (d t u k : ℕ) → u ≡ t + d → has (f t k) ≡ true → f u k ≡ f t k
  later zero t u k e had = ap (λ (m : ℕ). f m k) (omega (arith, e))
  later (suc d) t u k e had =
      let before : f (t + d) k ≡ f t k = later d t (t + d) k refl had in
      ap (λ (m : ℕ). f m k) (omega (arith, e)) ∙ (keeps (t + d) k (ap has before ∙ had) ∙ before)

  -- what is there at some turn is there at the end
  pub gained : (t k : ℕ) → has (f t k) ≡ true → f n k ≡ f t k
  gained t k had =
      ⊎_elim
      (λ (early : t < n). later (n - t) t n k (omega (arith, early)) had)
      (λ (late : n ≤ t). sym (ended t k late))
      (below_or_past t n)
