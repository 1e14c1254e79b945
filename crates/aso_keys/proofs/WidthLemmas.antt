-- The bits of the keys of data leaves are those that the outline counts.
use Rattle.std.proofs.Common.{◌≡◌, ℕ, zero, suc, ◌+◌, ◌-◌, ◌^◌, ◌<◌, ◌≤◌, Bool, true, false, inl, inr, List, [], ◌∷◌, length, replicate, refl, ◌∙◌, ap, subst, arith, length-append}
use Rattle.std.specs.Prelude.{Some, None, nat_lt, nat_le, slice_get}
use Rattle.std.specs.List.{filter, range_with_len}
use Rattle.std.proofs.Math.Nat.{pow-le-pow_right}
use Rattle.std.proofs.lemmas.Bool.{lt-ltb, le-ltb, leb-true}
use Rattle.std.proofs.lemmas.Bool.Decides.{leb_tells}
use Rattle.aso_tree.proofs.Paths.{filter_range_push}
use Rattle.aso_outline.specs.declared.draft.Draft.{Draft}
use Rattle.aso_outline.specs.Rules.{Rule, first_broken, broken, rules, bits_for, key_bits, unless}
use Rattle.aso_outline.proofs.Kept.{kept_first, kept_if}
use Rattle.aso_keys.specs.Axes.{IsWidth}
use Rattle.aso_keys.specs.Views.{Choice, IsBase}

module _ (n w : ℕ) (is : IsWidth n w) where
  below : (b : ℕ) → b < w → nat_lt (2 ^ b) n ≡ true
  below b lt = elim (leb_tells n (2 ^ b)) [
    | inl le ↦ let h = is.least b le.1 in absurd (omega (arith, h, lt))
    | inr gt ↦ lt-ltb (2 ^ b) n (let g = gt.1 in omega (arith, g))
  ]

  past : (b : ℕ) → w ≤ b → nat_lt (2 ^ b) n ≡ false
  past b le =
      let p : 2 ^ w ≤ 2 ^ b = pow-le-pow_right (omega arith) le in
      let q = is.writes in
      le-ltb (2 ^ b) n (omega (arith, p, q))

  one_more : (m k : ℕ) (b : Bool) → nat_lt (2 ^ m) n ≡ b → length (filter (λ b. nat_lt (2 ^ b) n) (range_with_len 0 m)) ≡ k
      → length (filter (λ b. nat_lt (2 ^ b) n) (range_with_len 0 (m + 1))) ≡ k + length (filter (λ b. nat_lt (2 ^ b) n) (m ∷ []))
  one_more m k b e h =
      ap (λ (xs : List ℕ). length xs) (filter_range_push (λ b. nat_lt (2 ^ b) n) m)
      ∙ length-append (filter (λ b. nat_lt (2 ^ b) n) (range_with_len 0 m)) (filter (λ b. nat_lt (2 ^ b) n) (m ∷ []))
      ∙ ap (λ (z : ℕ). z + length (filter (λ b. nat_lt (2 ^ b) n) (m ∷ []))) h

  up_to : (m : ℕ) → m ≤ w → length (filter (λ b. nat_lt (2 ^ b) n) (range_with_len 0 m)) ≡ m
  up_to zero le = refl
  up_to (suc m) le =
      let e : m + 1 ≡ suc m = omega arith in
      let t : nat_lt (2 ^ m) n ≡ true = below m (omega arith) in
      subst (λ (k : ℕ). length (filter (λ b. nat_lt (2 ^ b) n) (range_with_len 0 k)) ≡ k) e
      (one_more m m true t (up_to m (omega arith)) ∙ rw t refl)

  and_no_more : (k : ℕ) → length (filter (λ b. nat_lt (2 ^ b) n) (range_with_len 0 (w + k))) ≡ w
  and_no_more zero = ap (λ (m : ℕ). length (filter (λ b. nat_lt (2 ^ b) n) (range_with_len 0 m))) (omega arith) ∙ up_to w (omega arith)
  and_no_more (suc k) =
      let e : w + k + 1 ≡ w + suc k = omega arith in
      let f : nat_lt (2 ^ (w + k)) n ≡ false = past (w + k) (omega arith) in
      subst (λ (m : ℕ). length (filter (λ b. nat_lt (2 ^ b) n) (range_with_len 0 m)) ≡ w) e
      (one_more (w + k) w false f (and_no_more k) ∙ (let z : w + 0 ≡ w = omega arith in rw f z))

  pub width_counted : w ≤ 32 → bits_for n ≡ w
  width_counted le =
      let e : w + (32 - w) ≡ 32 = omega arith in
      subst (λ (m : ℕ). length (filter (λ b. nat_lt (2 ^ b) n) (range_with_len 0 m)) ≡ w) e (and_no_more (32 - w))

-- ---- an outline's data leaves

rule_kept : (rs : List Rule) (o : Draft) (k : ℕ) (r : Rule) → first_broken rs o ≡ None → slice_get rs k ≡ Some r → r.1 o ≡ None
rule_kept [] o k r kept at = cc
rule_kept (x ∷ rs) o zero r kept at = let e : x ≡ r = cc in subst (λ (z : Rule). z.1 o ≡ None) e (kept_first x rs o kept).0
rule_kept (x ∷ rs) o (suc k) r kept at = rule_kept rs o k r (kept_first x rs o kept).1 at

pub few_bits : (o : Draft) → broken o ≡ None → key_bits o ≤ 128
unfolding broken
few_bits o kept = leb-true (key_bits o) 128 (kept_if (nat_le (key_bits o) 128) (rule_kept rules o 11 (12, λ d. unless (nat_le (key_bits d) 128)) kept refl))

pub based : (n : ℕ) (xs : List Choice) → xs ≡ replicate n (0, 0) → IsBase xs
based zero [] is = tt
based zero (x ∷ xs) is = cc
based (suc n) [] is = cc
based (suc n) (x ∷ xs) is = let head : x ≡ (0, 0) = cc in let tail : xs ≡ replicate n (0, 0) = cc in (ap (λ (y : Choice). y.1) head, based n xs tail)
