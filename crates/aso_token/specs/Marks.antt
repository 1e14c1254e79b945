-- Tokens that several grammars test for.
use Rattle.std.specs.Prelude.{ℕ, List, Option, Some, None}
use Rattle.aso_token.specs.declared.token.Token.{Token}
use Rattle.aso_token.specs.declared.token.Token.TheVariants.{Name, Mark}
use Rattle.aso_token.specs.declared.token.Mark.TheVariants.{Comma, Open, Close}

abbrev pub comma : Token → Option (Unit {0})
comma (Mark Comma) = Some tt
comma _ = None

abbrev pub open_mark : Token → Option (Unit {0})
open_mark (Mark Open) = Some tt
open_mark _ = None

abbrev pub close_mark : Token → Option (Unit {0})
close_mark (Mark Close) = Some tt
close_mark _ = None

-- a bracketed name
abbrev pub name : Token → Option (List ℕ)
name (Name text) = Some text
name _ = None
