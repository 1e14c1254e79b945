-- What the tokens of queries and statements stand for.
use Rattle.std.specs.Prelude.{ℕ, Bool, false, List, length, Option, Some, None, if◌then◌else◌, ◌==◌, nat_le, ◌&&◌}
use Rattle.std.specs.Str.{str_eq_ignore_ascii_case}
use Rattle.aso_num.specs.AmountText.{number, digits_len}
use Rattle.aso_token.specs.declared.token.Token.{Token}
use Rattle.aso_token.specs.declared.token.Token.TheVariants.{Word, Number, Name, Mark}
use Rattle.aso_token.specs.declared.token.Mark.TheVariants.{Dot, OpenSet, CloseSet, Equals}

abbrev pub known : {A : Type 0} → Bool → A → Option A
known b a = if b then Some a else None

-- this word, without regard to case
unfoldable pub is_word : List ℕ → Token → Bool
is_word w (Word text) = str_eq_ignore_ascii_case text w
is_word w _ = false

abbrev pub key : List ℕ → Token → Option (Unit {0})
key w t = known (is_word w t) tt

-- a part of a member: a word or a bracketed name
abbrev pub part : Token → Option (List ℕ)
part (Word text) = Some text
part (Name text) = Some text
part _ = None

-- a number without a point, within bounds
abbrev pub whole_within : ℕ → ℕ → List ℕ → Option ℕ
whole_within least most text = known (digits_len text == length text && (nat_le least (number text) && nat_le (number text) most)) (number text)

abbrev pub whole : ℕ → ℕ → Token → Option ℕ
whole least most (Number text) = whole_within least most text
whole least most _ = None

abbrev pub dot : Token → Option (Unit {0})
dot (Mark Dot) = Some tt
dot _ = None

abbrev pub open_set : Token → Option (Unit {0})
open_set (Mark OpenSet) = Some tt
open_set _ = None

abbrev pub close_set : Token → Option (Unit {0})
close_set (Mark CloseSet) = Some tt
close_set _ = None

abbrev pub equals : Token → Option (Unit {0})
equals (Mark Equals) = Some tt
equals _ = None
