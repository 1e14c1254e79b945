-- JSON Pointers (RFC 6901).
use Rattle.std.specs.Prelude.{ℕ, ◌==◌, List, [], ◌∷◌, flat_map, if◌then◌else◌, codes}
use Rattle.aso_outjson.specs.Fields.{Path}

-- the text, with another in place of each such byte
abbrev pub put_for : ℕ → List ℕ → List ℕ → List ℕ
put_for byte other text = flat_map (λ b. if b == byte then other else b ∷ []) text

-- `~` is written `~0`, and then `/` is written `~1`
abbrev pub escaped : List ℕ → List ℕ
escaped name = put_for 47 (codes "~1") (put_for 126 (codes "~0") name)

abbrev pub pointer : Path → List ℕ
pointer path = flat_map (λ name. 47 ∷ escaped name) path
