-- What a function that reads a part answers.
use Rattle.std.specs.Prelude.{◌≡◌, ℕ, List, ◌∷◌, ◌++◌, Result, Ok, Err, ⊤}
use Rattle.aso_outjson.specs.Fields.{Found, ◌>>=◌}
use Rattle.aso_outjson.specs.declared.trouble.Trouble.{Trouble}
use Rattle.aso_outjson.specs.declared.trouble.Trouble.TheVariants.{Memory, Fault}

-- the trouble of a part, seen from the part that has it under a name
abbrev pub IsUnder : List ℕ → Trouble → Trouble → Type 0
IsUnder name Memory after = after ≡ Memory
IsUnder name (Fault path) Memory = ⊤
IsUnder name (Fault path) (Fault after) = after ≡ name ∷ path

-- this fault, unless memory ran out
abbrev pub Fails : {Y : Type 0} → Trouble → Found Y → Type 0
Fails Memory found = ⊤
Fails (Fault path) found = found ≡ Err path

-- what reading gives, unless memory ran out
abbrev pub Gives : {X : Type 0} → Result X Trouble → Found X → Type 0
Gives (Ok x) found = found ≡ Ok x
Gives (Err t) found = Fails t found

-- what is found, behind what was found before
abbrev pub behind : {X : Type 0} → List X → Found (List X) → Found (List X)
behind before found = found >>= λ xs. Ok (before ++ xs)

-- what reading adds to a list
abbrev pub Adds : {X : Type 0} → Result ⊤ Trouble → List X → List X → Found (List X) → Type 0
Adds (Ok u) before after found = behind before found ≡ Ok after
Adds (Err t) before after found = Fails t found
