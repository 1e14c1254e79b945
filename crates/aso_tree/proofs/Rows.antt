-- A table that has an entry for each number below an end.
use Rattle.std.proofs.Common.{◌≡◌, ◌∙◌, ℕ, ◌+◌, ◌<◌, List, [], ◌∷◌, ◌++◌, length, map, get_or, arith, ap, sym}
use Rattle.std.specs.List.{range_with_len}
use Rattle.std.proofs.lemmas.List.FromFn.{get_or-map-range_with_len, length-range_with_len}
use Rattle.std.proofs.lemmas.List.{length-map, get_or-map, map-append}
use Rattle.aso_tree.proofs.Paths.{map_push}

module _ {B : Type 0} (f : ℕ → B) (ys : List B) (n : ℕ) (is : ys ≡ map f (range_with_len 0 n)) (i : ℕ) (low : i < n) where
  pub in_list : i < length ys
  in_list =
      let long : length ys ≡ n = ap length is ∙ (length-map (range_with_len 0 n) f ∙ length-range_with_len 0 n) in
      omega (arith, long, low)

  pub at_list : (d : B) → get_or ys i d ≡ f i
  at_list d = ap (λ zs. get_or zs i d) is ∙ get_or-map-range_with_len f 0 n i i d low (omega arith)

module _ {B X : Type 0} (f : ℕ → B) (g : X → B) (xs : List X) (n : ℕ) (is : map g xs ≡ map f (range_with_len 0 n)) where
  pub in_rows : (i : ℕ) → i < n → i < length xs
  in_rows i low = let within : i < length (map g xs) = in_list f (map g xs) n is i low in omega (arith, within, length-map xs g)

  pub at_row : (i : ℕ) → i < n → (d : X) → g (get_or xs i d) ≡ f i
  at_row i low d = sym (get_or-map g xs i d (g d) (in_rows i low)) ∙ at_list f (map g xs) n is i low (g d)

  pub row_push : (x : X) → g x ≡ f n → map g (xs ++ x ∷ []) ≡ map f (range_with_len 0 (n + 1))
  row_push x at = map-append g xs (x ∷ []) ∙ (ap (λ ys. ys ++ g x ∷ []) is ∙ (ap (λ b. map f (range_with_len 0 n) ++ b ∷ []) at ∙ sym (map_push f n)))
