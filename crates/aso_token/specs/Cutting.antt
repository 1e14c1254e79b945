-- A whole text as its tokens, and what it spells.
use Rattle.std.specs.Prelude.{ℕ, zero, suc, ◌+◌, Bool, true, false, ◌&&◌, List, [], ◌∷◌, ◌++◌, length, drop, Option, Some, None}
use Rattle.aso_token.specs.declared.token.Token.{Token}
use Rattle.aso_token.specs.declared.token.Placed.{Placed}
use Rattle.aso_token.specs.declared.cutting.Cut.{Cut}
use Rattle.aso_token.specs.Lexing.{front_of}

abbrev pub placed_of : Option Token → ℕ → List Placed
placed_of None at = []
placed_of (Some t) at = record { token = t; at = at } ∷ []

-- what stands before, in front of what is cut from the rest
abbrev pub joined : List Placed → Bool → Cut → Cut
joined ps whole c = record { placed = ps ++ c.placed; stop = c.stop; whole = whole && c.whole }

abbrev pub ended : ℕ → Bool → Cut
ended at whole = record { placed = []; stop = at; whole = whole }

-- what a text from this place on is cut into, at most so many pieces: the cutting stops at a byte that begins nothing
unfoldable pub cut_from : Bool → ℕ → ℕ → List ℕ → Cut
cut_from comments zero at text = ended at true
cut_from comments (suc n) at [] = ended at true
cut_from comments (suc n) at (b ∷ bs) = elim (front_of comments (b ∷ bs)) [
  | None ↦ ended at false
  | Some f ↦ joined (placed_of f.token at) f.span.closed (cut_from comments n (at + f.span.size) (drop f.span.size (b ∷ bs)))
]

-- a text as its tokens with their places; no piece is empty, so there are no more of them than bytes
abbrev pub cut : Bool → List ℕ → Cut
cut comments text = cut_from comments (length text) 0 text
