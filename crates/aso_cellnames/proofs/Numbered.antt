-- Members by name, by their numbers.
use Rattle.std.proofs.Common.{◌≡◌, ◌∙◌, ℕ, suc, Bool, true, false, cond, List, [], ◌∷◌, Option, Some, None, refl, ap}
use Rattle.std.specs.Prelude.{slice_get, unwrap_or, if◌then◌else◌}
use Rattle.std.specs.Option.{option_map, option_and_then}
use Rattle.std.specs.List.{find, position}
use Rattle.aso_tree.proofs.Positions.{position_cons}
use Rattle.aso_outline.specs.declared.draft.Draft.{Draft}
use Rattle.aso_outline.specs.Members.{own_name, same_name, seats}
use Rattle.aso_outline.specs.Members as members
use Rattle.aso_outline.specs.Ranks.{named}

behind : {X : Type 0} (x : X) (xs : List X) (o : Option ℕ) → option_and_then (slice_get (x ∷ xs)) (option_map (λ (k : ℕ). suc k) o) ≡ option_and_then (slice_get xs) o
behind x xs None = refl
behind x xs (Some k) = refl

by_test : {X : Type 0} (x : X) (xs : List X) (o : Option ℕ) (found : Option X) → option_and_then (slice_get xs) o ≡ found → (b : Bool) → option_and_then (slice_get (x ∷ xs)) (if b then Some 0 else option_map (λ (k : ℕ). suc k) o) ≡ cond b (Some x) found
by_test x xs o found is true = refl
by_test x xs o found is false = behind x xs o ∙ is

found_at : {X : Type 0} (p : X → Bool) (xs : List X) → option_and_then (slice_get xs) (position p xs) ≡ find p xs
found_at p [] = refl
found_at p (x ∷ xs) = ap (option_and_then (slice_get (x ∷ xs))) (position_cons p x xs) ∙ by_test x xs (position p xs) (find p xs) (found_at p xs) (p x)

pub named_by_number : (o : Draft) (name : List ℕ) → option_and_then (slice_get (seats o)) (members.find o name) ≡ named o name
unfolding members.find named
named_by_number o name = found_at (λ s. unwrap_or (option_map (same_name name) (own_name o s)) false) (seats o)
