-- A loop over a range that has come one number further.
use Rattle.std.specs.List.{filter, list_any, range_with_len}
use Rattle.std.proofs.Common.{◌≡◌, ◌∙◌, ℕ, suc, ◌+◌, ◌-◌, ◌<◌, ◌≤◌, Bool, true, false, cond, ◌||◌, List, [], ◌∷◌, ◌++◌, map, sym, ap, add-one, arith}
use Rattle.std.proofs.lemmas.List.{map-append}
use Rattle.aso_tree.proofs.Paths.{filter_range_push, range_push}

module _ (f : ℕ → Bool) (i n : ℕ) where
  here : i < n → list_any f (range_with_len i (n - i)) ≡ (f i || list_any f (range_with_len (i + 1) (n - (i + 1))))
  here low =
      let e : n - i ≡ suc (n - (i + 1)) = omega (arith, low) in
      ap (λ (k : ℕ). list_any f (range_with_len i k)) e

  pub any_found : i < n → f i ≡ true → list_any f (range_with_len i (n - i)) ≡ true
  any_found low is = here low ∙ ap (λ (b : Bool). b || list_any f (range_with_len (i + 1) (n - (i + 1)))) is

  pub any_later : i < n → f i ≡ false → list_any f (range_with_len (i + 1) (n - (i + 1))) ≡ list_any f (range_with_len i (n - i))
  any_later low is = sym (here low ∙ ap (λ (b : Bool). b || list_any f (range_with_len (i + 1) (n - (i + 1)))) is)

  pub any_ended : n ≤ i → list_any f (range_with_len i (n - i)) ≡ false
  any_ended le =
      let e : n - i ≡ 0 = omega (arith, le) in
      ap (λ (k : ℕ). list_any f (range_with_len i k)) e

-- a place that was put where it is kept
pub kept_put : (p : ℕ → Bool) (n : ℕ) (b : Bool) (old new : List ℕ) → old ≡ filter p (range_with_len 0 n) → new ≡ old ++ cond b (n ∷ []) [] → b ≡ p n → new ≡ filter p (range_with_len 0 (n + 1))
kept_put p n b old new before put is =
    put ∙ (ap (λ (xs : List ℕ). xs ++ cond b (n ∷ []) []) before
    ∙ (ap (λ (k : Bool). filter p (range_with_len 0 n) ++ cond k (n ∷ []) []) is ∙ sym (filter_range_push p n)))

-- what was made of each number, and what is made of the next
pub mapped_put : {X : Type 0} (f : ℕ → X) (n : ℕ) (old new : List X) (x : X) → old ≡ map f (range_with_len 0 n) → new ≡ old ++ x ∷ [] → x ≡ f n → new ≡ map f (range_with_len 0 (n + 1))
mapped_put f n old new x before put is =
    put ∙ (ap (λ (xs : List _). xs ++ x ∷ []) before
    ∙ (ap (λ (y : _). map f (range_with_len 0 n) ++ y ∷ []) is
    ∙ sym (rw add-one (ap (map f) (range_push 0 n n (omega arith)) ∙ map-append f (range_with_len 0 n) (n ∷ [])))))
