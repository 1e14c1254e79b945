-- How a part of a JSON value is read: what it stands for, or where its first fault is.
use Rattle.std.specs.Prelude.{ℕ, ◌+◌, Bool, List, [], ◌∷◌, ◌++◌, length, Option, Some, None, option_map, option_and_then, Result, Ok, Err, if◌then◌else◌, ⊤}
use Rattle.std.specs.Fmt.{decimal}
use Rattle.serde_json.specs.Data.{Data, Members, no_members, member}
use Rattle.serde_json.specs.Find.{as_array, as_bool, as_object, as_str, get}
use Rattle.aso_rules.specs.Json.{listed}

-- the names of fields and the numbers of items that lead to a part
abbrev pub Path : Type 0
Path = List (List ℕ)

abbrev pub Found : Type 0 → Type 0
Found A = Result A Path

infixl 10 ◌>>=◌
abbrev pub ◌>>=◌ : {A B : Type 0} → Found A → (A → Found B) → Found B
(Ok x) >>= f = f x
(Err path) >>= f = Err path

-- the path of a fault, seen from the part that has this one under a name
abbrev pub under : {A : Type 0} → List ℕ → Found A → Found A
under name (Ok x) = Ok x
under name (Err path) = Err (name ∷ path)

-- the part itself is at fault
abbrev pub or_fault : {A : Type 0} → Option A → Found A
or_fault None = Err []
or_fault (Some x) = Ok x

-- ---- fields

-- a field that must be there
abbrev pub need : {A : Type 0} → (Data → Found A) → List ℕ → Data → Found A
need f name d = under name (or_fault (get name d) >>= f)

abbrev pub or_default : {A : Type 0} → (Data → Found A) → A → Option Data → Found A
or_default f default None = Ok default
or_default f default (Some d) = f d

-- a field that may be left out
abbrev pub may : {A : Type 0} → (Data → Found A) → A → List ℕ → Data → Found A
may f default name d = under name (or_default f default (get name d))

abbrev pub some : {A : Type 0} → (Data → Found A) → Data → Found (Option A)
some f d = f d >>= λ x. Ok (Some x)

-- the first field whose name fails
abbrev pub first_other : (List ℕ → Bool) → Members → Option (List ℕ)
first_other test no_members = None
first_other test (member name d ms) = if test name then first_other test ms else Some name

abbrev pub none_left : Option (List ℕ) → Found ⊤
none_left None = Ok tt
none_left (Some name) = Err (name ∷ [])

-- no field has another name
abbrev pub no_others : (List ℕ → Bool) → Data → Found ⊤
no_others test d = or_fault (as_object d) >>= λ ms. none_left (first_other test ms)

-- ---- values

abbrev pub object_in : Data → Found ⊤
object_in d = or_fault (option_map (λ ms. tt) (as_object d))

abbrev pub text_in : Data → Found (List ℕ)
text_in d = or_fault (as_str d)

abbrev pub flag_in : Data → Found Bool
flag_in d = or_fault (as_bool d)

-- a text that stands for something
abbrev pub word_in : {A : Type 0} → (List ℕ → Option A) → Data → Found A
word_in meaning d = or_fault (option_and_then meaning (as_str d))

-- ---- lists

-- items from number n on
abbrev pub each : {A : Type 0} → (Data → Found A) → ℕ → List Data → Found (List A)
each f n [] = Ok []
each f n (d ∷ ds) = under (decimal n) (f d) >>= λ x. each f (n + 1) ds >>= λ xs. Ok (x ∷ xs)

abbrev pub list_in : {A : Type 0} → (Data → Found A) → Data → Found (List A)
list_in f d = or_fault (as_array d) >>= λ items. each f 0 (listed items)

-- items from number n on that are lists themselves, one behind another; each is told the place at which it begins
abbrev pub joined : {A : Type 0} → (ℕ → Data → Found (List A)) → ℕ → ℕ → List Data → Found (List A)
joined f n at [] = Ok []
joined f n at (d ∷ ds) = under (decimal n) (f at d) >>= λ xs. joined f (n + 1) (at + length xs) ds >>= λ ys. Ok (xs ++ ys)

abbrev pub lists_in : {A : Type 0} → (ℕ → Data → Found (List A)) → ℕ → Data → Found (List A)
lists_in f at d = or_fault (as_array d) >>= λ items. joined f 0 at (listed items)
