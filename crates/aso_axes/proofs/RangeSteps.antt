-- A range of numbers that has come one number further.
use Rattle.std.specs.List.{filter, range_with_len}
use Rattle.std.proofs.Common.{◌≡◌, ◌∙◌, ℕ, suc, ◌+◌, ◌-◌, ◌≤◌, Bool, List, [], ◌∷◌, ◌++◌, map, ap, arith}
use Rattle.std.proofs.lemmas.List.{map-append}
use Rattle.std.proofs.lemmas.List.Elements.{filter-append}
use Rattle.aso_tree.proofs.Paths.{range_push}

module _ (from n : ℕ) (order : from ≤ n) where
  more : range_with_len from (n + 1 - from) ≡ range_with_len from (n - from) ++ n ∷ []
  more =
      let e : n + 1 - from ≡ suc (n - from) = omega (arith, order) in
      ap (range_with_len from) e ∙ range_push from (n - from) n (omega (arith, order))

  pub map_range : {X : Type 0} (f : ℕ → X) → map f (range_with_len from (n + 1 - from)) ≡ map f (range_with_len from (n - from)) ++ f n ∷ []
  map_range f = ap (map f) more ∙ map-append f (range_with_len from (n - from)) (n ∷ [])

  pub filter_range : (p : ℕ → Bool) → filter p (range_with_len from (n + 1 - from)) ≡ filter p (range_with_len from (n - from)) ++ filter p (n ∷ [])
  filter_range p = ap (filter p) more ∙ filter-append p (range_with_len from (n - from)) (n ∷ [])

-- the numbers from 0 on
pub map_first : {X : Type 0} (f : ℕ → X) (n : ℕ) → map f (range_with_len 0 (n + 1)) ≡ map f (range_with_len 0 n) ++ f n ∷ []
map_first f n =
    let e : n + 1 ≡ suc n = omega arith in
    ap (map f) (ap (range_with_len 0) e ∙ range_push 0 n n (omega arith)) ∙ map-append f (range_with_len 0 n) (n ∷ [])
