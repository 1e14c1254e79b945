-- Parts of a JSON value.
use Rattle.std.specs.Prelude.{ℕ, Bool, false, true, ◌&&◌, List, [], ◌∷◌, Option, Some, None, option_and_then}
use Rattle.std.specs.Option.{option_map}
use Rattle.serde_json.specs.Data.{Data, null, boolean, number, string, array, object, Items, no_items, item, Members, no_members, member}
use Rattle.serde_json.specs.Find.{as_array}

abbrev pub listed : Items → List Data
listed no_items = []
listed (item d ds) = d ∷ listed ds

-- what f gives for each, or nothing where it gives nothing for one
abbrev pub all_found : {A B : Type 0} → (A → Option B) → List A → Option (List B)
all_found f [] = Some []
all_found f (x ∷ xs) = option_and_then (λ y. option_map (λ ys. y ∷ ys) (all_found f xs)) (f x)

-- what f gives for each item of a list
abbrev pub list_of : {A : Type 0} → (Data → Option A) → Data → Option (List A)
list_of f d = option_and_then (λ items. all_found f (listed items)) (as_array d)

-- what stands for a field that may be left out
abbrev pub or_default : {A : Type 0} → (Data → Option A) → A → Option Data → Option A
or_default f default None = Some default
or_default f default (Some d) = f d

-- each name passes
abbrev pub are_names : (List ℕ → Bool) → Members → Bool
are_names test no_members = true
are_names test (member name d ms) = test name && are_names test ms

-- an object, each of whose fields has a name that passes
abbrev pub has_only : (List ℕ → Bool) → Data → Bool
has_only test null = false
has_only test (boolean b) = false
has_only test (number n) = false
has_only test (string s) = false
has_only test (array ds) = false
has_only test (object ms) = are_names test ms

abbrev pub is_true : Data → Bool
is_true null = false
is_true (boolean b) = b
is_true (number n) = false
is_true (string s) = false
is_true (array ds) = false
is_true (object ms) = false
