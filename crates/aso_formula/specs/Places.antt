-- Where the names and the atoms of a formula stand in its text.
use Rattle.std.specs.Prelude.{ℕ, Bool, false, not, ◌&&◌, List, [], ◌∷◌, ◌++◌, Option, is_none, option_map, unwrap_or, if◌then◌else◌}
use Rattle.std.specs.List.{find as first}
use Rattle.aso_token.specs.declared.token.Placed.{Placed}
use Rattle.aso_token.specs.Cutting.{cut}
use Rattle.aso_token.specs.Marks.{comma, name}
use Rattle.aso_token.specs.Reads.{begins, passes, tokens_of}
use Rattle.aso_outline.specs.declared.draft.Draft.{Draft}
use Rattle.aso_outline.specs.Members.{find}

-- a name that no member of the outline has
abbrev pub is_unknown : Draft → Placed → Bool
is_unknown o p = unwrap_or (option_map (λ text. is_none (find o text)) (name p.token)) false

-- the first of a text's tokens that is one
abbrev pub first_unknown : Draft → List ℕ → Option Placed
first_unknown o text = first (is_unknown o) (cut false text).placed

-- A name begins an atom where no comma stands before it. Where a comma follows it, the atom names several members and begins with
-- the token before, its parenthesis; else it begins with the name.
abbrev pub begin_of : Bool → ℕ → Placed → List Placed → List ℕ
begin_of after_comma before p ps =
    if passes name p.token && not after_comma then (if begins (passes comma) (tokens_of ps) then before else p.at) ∷ [] else []

-- the bytes at which atoms begin among some tokens, given whether the token before them is a comma, and its byte
abbrev pub begins_in : Bool → ℕ → List Placed → List ℕ
begins_in after_comma before [] = []
begins_in after_comma before (p ∷ ps) = begin_of after_comma before p ps ++ begins_in (passes comma p.token) p.at ps

-- the bytes at which the atoms of a text begin, from left to right
abbrev pub atom_places : List ℕ → List ℕ
atom_places text = begins_in false 0 (cut false text).placed
