-- Lists that are made item by item, up to the first for which nothing is found.
use Rattle.std.proofs.Common.{◌≡◌, ◌∙◌, ℕ, suc, ◌+◌, ◌<◌, ◌≤◌, Option, Some, None, List, [], ◌∷◌, ◌++◌, append_assoc, add-one, length, drop, map, get_or, refl, sym, ap}
use Rattle.std.specs.Option.{option_map}
use Rattle.std.specs.Prelude.{option_and_then}
use Rattle.std.proofs.Math.Seq.{drop-cons}
use Rattle.std.proofs.lemmas.List.{append-nil, drop_all}
use Rattle.serde_json.specs.Data.{Data}
use Rattle.serde_json.specs.View.{items_of, view}
use Rattle.serde_json.specs.declared.value.Value.{Value}
use Rattle.aso_rules.specs.Json.{all_found, listed}

-- what is found for the rest, behind what was found
abbrev pub behind : {B : Type 0} → List B → Option (List B) → Option (List B)
behind done rest = option_map (λ ys. done ++ ys) rest

behind_one : {B : Type 0} → (done : List B) (y : B) (rest : Option (List B)) → behind done (option_map (λ ys. y ∷ ys) rest) ≡ behind (done ++ (y ∷ [])) rest
behind_one done y None = refl
behind_one done y (Some ys) = ap (λ zs. Some zs) (sym (append_assoc done (y ∷ []) ys))

behind_none : {B : Type 0} → (rest : Option (List B)) → behind [] rest ≡ rest
behind_none None = refl
behind_none (Some ys) = refl

pub from_start : {A B : Type 0} → (f : A → Option B) (xs : List A) → all_found f xs ≡ behind [] (all_found f (drop 0 xs))
from_start f xs = sym (behind_none (all_found f xs))

module _ {A B : Type 0} (f : A → Option B) (x : A) (xs : List A) where
  pub one_more : (whole : Option (List B)) (done : List B) (y : B) → f x ≡ Some y → whole ≡ behind done (all_found f (x ∷ xs)) → whole ≡ behind (done ++ (y ∷ [])) (all_found f xs)
  one_more whole done y found before =
      before
      ∙ (ap (λ o. behind done (option_and_then (λ z. option_map (λ ys. z ∷ ys) (all_found f xs)) o)) found
      ∙ behind_one done y (all_found f xs))

  pub one_lacks : (whole : Option (List B)) (done : List B) → f x ≡ None → whole ≡ behind done (all_found f (x ∷ xs)) → whole ≡ None
  one_lacks whole done none before = before ∙ ap (λ o. behind done (option_and_then (λ z. option_map (λ ys. z ∷ ys) (all_found f xs)) o)) none

pub at_end : {A B : Type 0} → (f : A → Option B) (xs : List A) (i : ℕ) (whole : Option (List B)) (done : List B) → length xs ≤ i → whole ≡ behind done (all_found f (drop i xs)) → whole ≡ Some done
at_end f xs i whole done past before = before ∙ (ap (λ ys. behind done (all_found f ys)) (drop_all i xs past) ∙ ap (λ ys. Some ys) (append-nil done))

-- items of a JSON list
pub found_items : {B : Type 0} → (f : Data → Option B) (vs : List Value) → all_found f (listed (items_of (map view vs))) ≡ all_found (λ v. f (view v)) vs
found_items f [] = refl
found_items f (v ∷ vs) = ap (λ rest. option_and_then (λ y. option_map (λ ys. y ∷ ys) rest) (f (view v))) (found_items f vs)

pub listed_items : (vs : List Value) → listed (items_of (map view vs)) ≡ map view vs
listed_items [] = refl
listed_items (v ∷ vs) = ap (λ ds. view v ∷ ds) (listed_items vs)
