-- A test of each number of a range.
use Rattle.std.specs.List.{list_all, range_with_len}
use Rattle.std.proofs.Common.{◌≡◌, ◌∙◌, ℕ, zero, suc, ◌+◌, ◌<◌, ◌≤◌, ◌⊎◌, ⊎_elim, ◌&&◌, Bool, true, false, refl, sym, ap, arith}

module _ (p : ℕ → Bool) where
  pub all_in_range : (n a : ℕ) → ((k : ℕ) → a ≤ k → k < a + n → p k ≡ true) → list_all p (range_with_len a n) ≡ true
  all_in_range zero a each = refl
  all_in_range (suc n) a each =
      ap (λ (b : Bool). b && list_all p (range_with_len (a + 1) n)) (each a (omega arith) (omega arith))
      ∙ all_in_range n (a + 1) (λ k low high. each k (omega (arith, low)) (omega (arith, high)))

  fails : (b c : Bool) → c ≡ false → (b && c) ≡ false
  fails true c h = h
  fails false c h = refl

  pub one_fails : (n a k : ℕ) → a ≤ k → k < a + n → p k ≡ false → list_all p (range_with_len a n) ≡ false
  one_fails zero a k low high h = absurd (omega (arith, low, high))
  one_fails (suc n) a k low high h =
      ⊎_elim
      (λ (here : k ≡ a). ap (λ (b : Bool). b && list_all p (range_with_len (a + 1) n)) (sym (ap p here) ∙ h))
      (λ (later : a + 1 ≤ k). fails (p a) _ (one_fails n (a + 1) k later (omega (arith, high)) h))
      (split low)
    where
      split : a ≤ k → (k ≡ a) ⊎ (a + 1 ≤ k)
      split le = grind arith

  pub passes_more : (n : ℕ) → ((k : ℕ) → k < n → p k ≡ true) → p n ≡ true → (k : ℕ) → k < n + 1 → p k ≡ true
  passes_more n before at k low = grind (arith, before)
