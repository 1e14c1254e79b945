-- Tables that are made anew turn by turn, and what stays once a turn changes nothing.
use Rattle.std.specs.Prelude.{slice_get, unwrap_or}
use Rattle.std.specs.List.{list_any, range_with_len}
use Rattle.std.proofs.Common.{◌≡◌, ◌∙◌, ℕ, zero, suc, ◌+◌, ◌<◌, ◌≤◌, ◌⊎◌, ⊎_elim, ◌||◌, Bool, List, [], ◌∷◌, length, map, get_or, Option, Some, None, refl, sym, ap, arith}
use Rattle.std.proofs.lemmas.List.{length-map}
use Rattle.std.proofs.lemmas.List.FromFn.{length-range_with_len}
use Rattle.std.proofs.lemmas.Option.{slice_get_cases, unwrap_or-slice_get}
use Rattle.aso_tree.proofs.Rows.{at_list}

module _ {X : Type 0} (f : ℕ → ℕ → X) (next : (a b : ℕ) → ((k : ℕ) → f a k ≡ f b k) → (k : ℕ) → f (suc a) k ≡ f (suc b) k) (t : ℕ) (still : (k : ℕ) → f (suc t) k ≡ f t k) where
  pub stays : (d u k : ℕ) → u ≡ t + d → f u k ≡ f t k
  stays zero u k e = ap (λ (n : ℕ). f n k) (omega (arith, e))
  stays (suc d) u k e =
      let later : u ≡ suc (t + d) = omega (arith, e) in
      ap (λ (n : ℕ). f n k) later ∙ (next (t + d) t (λ j. stays d (t + d) j refl) k ∙ still k)

pub map_same : {X : Type 0} (f g : ℕ → X) → ((k : ℕ) → f k ≡ g k) → (ks : List ℕ) → map f ks ≡ map g ks
map_same f g same [] = refl
map_same f g same (k ∷ ks) = ap (λ y. y ∷ map f ks) (same k) ∙ ap (λ ys. g k ∷ ys) (map_same f g same ks)

pub any_same : (p q : ℕ → Bool) → ((k : ℕ) → p k ≡ q k) → (ks : List ℕ) → list_any p ks ≡ list_any q ks
any_same p q same [] = refl
any_same p q same (k ∷ ks) = ap (λ (b : Bool). b || list_any p ks) (same k) ∙ ap (λ (b : Bool). q k || b) (any_same p q same ks)

pub below_or_past : (k n : ℕ) → (k < n) ⊎ (n ≤ k)
below_or_past k n = grind arith

module _ {X : Type 0} (f : ℕ → X) (n : ℕ) (d : X) (past : (k : ℕ) → n ≤ k → f k ≡ d) (ys : List X) (is : ys ≡ map f (range_with_len 0 n)) where
  -- a table of the numbers below an end, with what stands for the others
  pub in_turn : (k : ℕ) → unwrap_or (slice_get ys k) d ≡ f k
  in_turn k =
      ⊎_elim
      (λ (low : k < n). unwrap_or-slice_get ys k d ∙ at_list f ys n is k low d)
      (λ (end : n ≤ k). ⊎_elim
      (λ (here : (x : X) × (k < length ys) × (slice_get ys k ≡ Some x) × (get_or ys k x ≡ x)). absurd (omega (arith, here.1, end, long)))
      (λ (none : (length ys ≤ k) × (slice_get ys k ≡ None)). ap (λ (x : Option X). unwrap_or x d) none.1 ∙ sym (past k end))
      (slice_get_cases ys k).1)
      (below_or_past k n)
    where
      long : length ys ≡ n
      long = ap length is ∙ (length-map (range_with_len 0 n) f ∙ length-range_with_len 0 n)

module _ {X : Type 0} (f g : ℕ → X) (n : ℕ) (d e : X) (past_f : (k : ℕ) → n ≤ k → f k ≡ d) (past_g : (k : ℕ) → n ≤ k → g k ≡ d) (ys zs : List X) (is_f : ys ≡ map f (range_with_len 0 n)) (is_g : zs ≡ map g (range_with_len 0 n)) where
  -- what two tables have in common everywhere is the same everywhere
  pub same_tables : ((k : ℕ) → k < n → get_or ys k e ≡ get_or zs k e) → (k : ℕ) → f k ≡ g k
  same_tables same k =
      ⊎_elim
      (λ (low : k < n). sym (at_list f ys n is_f k low e) ∙ (same k low ∙ at_list g zs n is_g k low e))
      (λ (end : n ≤ k). past_f k end ∙ sym (past_g k end))
      (below_or_past k n)

pub table_long : {X : Type 0} (f : ℕ → X) (n : ℕ) (ys : List X) → ys ≡ map f (range_with_len 0 n) → length ys ≡ n
table_long f n ys is = ap length is ∙ (length-map (range_with_len 0 n) f ∙ length-range_with_len 0 n)
