-- The member of a name is the one of its number.
use Rattle.std.specs.Prelude.{slice_get, unwrap_or, is_some, if◌then◌else◌}
use Rattle.std.specs.Option.{option_map, option_and_then}
use Rattle.std.specs.List.{position, find, filter_map, list_all, cons_option}
use Rattle.std.proofs.Common.{◌≡◌, ◌∙◌, ℕ, suc, ◌+◌, ◌<◌, ◌&&◌, Bool, true, false, List, [], ◌∷◌, ◌++◌, length, take, get_or, Option, Some, None, refl, sym, ap}
use Rattle.std.proofs.lemmas.List.{take_more}
use Rattle.std.proofs.lemmas.List.Elements.{filter_map-append}
use Rattle.std.proofs.lemmas.List.Folds.{list_all_more}
use Rattle.aso_tree.proofs.Positions.{position_cons}
use Rattle.aso_outline.specs.declared.draft.Draft.{Draft}
use Rattle.aso_outline.specs.Members.{Name, own_name, same_name, seats, find as number_of}
use Rattle.aso_outline.specs.Ranks.{named}

module _ {X : Type 0} (p : X → Bool) where
  found_in : (x : X) (xs : List X) (at : Option ℕ) → option_and_then (λ (k : ℕ). slice_get (x ∷ xs) k) (option_map (λ (k : ℕ). suc k) at) ≡ option_and_then (λ (k : ℕ). slice_get xs k) at
  found_in x xs None = refl
  found_in x xs (Some k) = refl

  by_test : (b : Bool) (x : X) (xs : List X) → find p xs ≡ option_and_then (λ (k : ℕ). slice_get xs k) (position p xs)
      → (if b then Some x else find p xs) ≡ option_and_then (λ (k : ℕ). slice_get (x ∷ xs) k) (if b then Some 0 else option_map (λ (k : ℕ). suc k) (position p xs))
  by_test true x xs h = refl
  by_test false x xs h = h ∙ sym (found_in x xs (position p xs))

  pub find_position : (xs : List X) → find p xs ≡ option_and_then (λ (k : ℕ). slice_get xs k) (position p xs)
  find_position [] = refl
  find_position (x ∷ xs) = by_test (p x) x xs (find_position xs) ∙ ap (λ (at : Option ℕ). option_and_then (λ (k : ℕ). slice_get (x ∷ xs) k) at) (sym (position_cons p x xs))

pub named_by_number : (o : Draft) (q : Name) → named o q ≡ option_and_then (λ (k : ℕ). slice_get (seats o) k) (number_of o q)
unfolding named number_of
named_by_number o q = find_position (λ s. unwrap_or (option_map (same_name q) (own_name o s)) false) (seats o)

-- one element more, of those that are found
module _ {X Y : Type 0} (h : X → Option Y) (xs : List X) (i : ℕ) (x : X) (low : i < length xs) (is : get_or xs i x ≡ x) where
  pub found_more : filter_map h (take (i + 1) xs) ≡ filter_map h (take i xs) ++ cons_option (h x) []
  found_more =
      ap (filter_map h) (take_more xs i x low ∙ ap (λ (y : X). take i xs ++ y ∷ []) is) ∙ filter_map-append h (take i xs) (x ∷ [])

  pub all_more : list_all (λ y. is_some (h y)) (take (i + 1) xs) ≡ (is_some (h x) && list_all (λ y. is_some (h y)) (take i xs))
  all_more = list_all_more (λ y. is_some (h y)) xs i x low ∙ (ap (λ (y : X). list_all (λ y. is_some (h y)) (take i xs) && is_some (h y)) is ∙ turned _ (is_some (h x)))
    where
      turned : (a b : Bool) → (a && b) ≡ (b && a)
      turned true true = refl
      turned true false = refl
      turned false true = refl
      turned false false = refl
