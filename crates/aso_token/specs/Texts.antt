-- What a whole text spells, and where one that spells nothing is at fault.
use Rattle.std.specs.Prelude.{◌≡◌, ℕ, Bool, true, List, [], ◌∷◌, ◌++◌}
use Rattle.aso_token.specs.declared.token.Placed.{Placed}
use Rattle.aso_token.specs.declared.cutting.Cut.{Cut}
use Rattle.aso_token.specs.Lang.{Lang, Begins}
use Rattle.aso_token.specs.Reads.{tokens_of}
use Rattle.aso_token.specs.Cutting.{cut}

-- its tokens spell this value, and nothing else stands there
abbrev pub Spells : {A : Type 0} → Bool → Lang A → List ℕ → A → Type 0
Spells comments P text a = ((cut comments text).whole ≡ true) × P (tokens_of (cut comments text).placed) a

-- where the first of these tokens begins, or the place behind them all
abbrev pub start_of : List Placed → ℕ → ℕ
start_of [] stop = stop
start_of (p ∷ ps) stop = p.at

-- behind so many tokens nothing can come that stands there
abbrev pub Stuck : {A : Type 0} → Lang A → Cut → List Placed → List Placed → Type 0
Stuck {A} P c front [] = c.whole ≡ true → (a : A) → P (tokens_of front) a → ⊥
Stuck P c front (p ∷ ps) = Begins P (tokens_of front ++ p.token ∷ []) → ⊥

-- The place of a fault: the first token with which the tokens up to it begin no text of the language; where all of them
-- begin one, the byte at which the cutting stopped, which is the text's end or the first byte that begins no token.
pub record IsFaultAt {A : Type 0} (comments : Bool) (P : Lang A) (text : List ℕ) (at : ℕ) : Type 0 where
  pub front : List Placed
  pub rest : List Placed
  pub parts : (cut comments text).placed ≡ front ++ rest
  pub before : Begins P (tokens_of front)
  pub here : Stuck P (cut comments text) front rest
  pub place : at ≡ start_of rest (cut comments text).stop
