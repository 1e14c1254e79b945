-- The list of numbers under which a tuple is found; two tuples have different ones.
use Rattle.std.specs.Prelude.{ℕ, ◌+◌, List, ◌∷◌, ◌++◌, map, length, Option, Some, None}

abbrev pub attr_code : Option ℕ → ℕ
attr_code None = 0
attr_code (Some a) = a + 1

abbrev pub key_of : List ℕ → List (Option ℕ) → List ℕ
key_of base attrs = length base ∷ (base ++ map attr_code attrs)
