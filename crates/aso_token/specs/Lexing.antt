-- How a text is cut into tokens.
use Rattle.std.specs.Prelude.{◌≡◌, ◌≤◌, ℕ, ◌+◌, ◌-◌, Bool, true, false, not, ◌&&◌, ◌||◌, ◌==◌, List, [], ◌∷◌, length, take, drop, Option, Some, None, option_map, if◌then◌else◌, nat_le, nat_lt, slice_index, MatchBool}
use Rattle.std.specs.List.{prefix_len}
use Rattle.aso_num.specs.AmountText.{is_digit as is_decimal, digits_len}
use Rattle.aso_token.specs.declared.token.Token.{Token}
use Rattle.aso_token.specs.declared.token.Token.TheVariants.{Word, Number, Quoted, Name, Mark as AMark}
use Rattle.aso_token.specs.declared.token.Mark.{Mark}
use Rattle.aso_token.specs.declared.token.Mark.TheVariants.{Dot, Comma, Open, Close, OpenSet, CloseSet, Plus, Minus, Star, Slash, Equals}
use Rattle.aso_token.specs.declared.front.Span.{Span}
use Rattle.aso_token.specs.declared.front.Front.{Front}

-- ---- bytes

abbrev pub is_digit : ℕ → Bool
is_digit b = is_decimal b

abbrev pub is_letter : ℕ → Bool
is_letter b = (nat_le 65 b && nat_le b 90) || (nat_le 97 b && nat_le b 122) || (b == 95)

abbrev pub is_word_byte : ℕ → Bool
is_word_byte b = is_letter b || is_digit b

abbrev pub is_blank : ℕ → Bool
is_blank b = (b == 32) || (b == 9) || (b == 13) || (b == 10)

abbrev pub mark_of : ℕ → Option Mark
mark_of b = if b == 46 then Some Dot else (if b == 44 then Some Comma else (if b == 40 then Some Open else (if b == 41 then Some Close
    else (if b == 123 then Some OpenSet else (if b == 125 then Some CloseSet else (if b == 43 then Some Plus else (if b == 45 then Some Minus
    else (if b == 42 then Some Star else (if b == 47 then Some Slash else (if b == 61 then Some Equals else None))))))))))

-- ---- how far a piece goes

abbrev pub closed : ℕ → Span
closed n = record { size = n; closed = true }

-- a piece that nothing closes takes all that is left
abbrev pub open_at_end : ℕ → Span
open_at_end n = record { size = n; closed = false }

-- with so many bytes before it
abbrev pub behind : ℕ → Span → Span
behind n s = record { size = n + s.size; closed = s.closed }

abbrev pub word_len : List ℕ → ℕ
word_len text = prefix_len is_word_byte text

-- with a point and decimals, where both are there
abbrev pub with_decimals : ℕ → List ℕ → ℕ
with_decimals n [] = n
with_decimals n (b ∷ bs) = if (b == 46) && nat_lt 0 (digits_len bs) then n + 1 + digits_len bs else n

-- digits, which a point and further digits may follow, behind a first digit
abbrev pub number_len : List ℕ → ℕ
number_len text = with_decimals (digits_len text) (drop (digits_len text) text)

-- bytes before the first of this value
abbrev pub until : ℕ → List ℕ → ℕ
until end text = prefix_len (λ b. not (b == end)) text

-- a name behind the bracket that opens it, with the next one that closes
abbrev pub name_span : List ℕ → Span
name_span text = if nat_lt (until 93 text) (length text) then closed (until 93 text + 1) else open_at_end (until 93 text)

-- a quoted text, where a quote that stands just before closes it unless another one follows
unfoldable pub quoted_from : Bool → List ℕ → Span
quoted_from quote [] = record { size = 0; closed = quote }
quoted_from quote (b ∷ bs) = if quote && not (b == 39) then closed 0 else behind 1 (quoted_from (not quote && (b == 39)) bs)

-- a quoted text behind the quote that opens it, with the one that closes it: a doubled quote closes nothing
abbrev pub quoted_span : List ℕ → Span
quoted_span text = quoted_from false text

-- a comment, where a slash closes it behind a star that stands just before
unfoldable pub comment_from : Bool → List ℕ → Span
comment_from star [] = open_at_end 0
comment_from star (b ∷ bs) = if star && (b == 47) then closed 1 else behind 1 (comment_from (b == 42) bs)

-- a comment behind the two bytes that open it, with the next two that close it
abbrev pub comment_span : List ℕ → Span
comment_span text = comment_from false text

abbrev pub opens_comment : List ℕ → Bool
opens_comment (b ∷ c ∷ cs) = (b == 47) && (c == 42)
opens_comment text = false

-- what such a piece holds: all but the byte that closes it
abbrev pub content_len : Span → ℕ
content_len s = if s.closed then s.size - 1 else s.size

abbrev pub content : Span → List ℕ → List ℕ
content s text = take (content_len s) text

-- ---- what a text begins with

abbrev pub with_token : Token → Span → Front
with_token t s = record { token = Some t; span = s }

abbrev pub word_front : List ℕ → Front
word_front text = let n = 1 + word_len (drop 1 text) in with_token (Word (take n text)) (closed n)

abbrev pub number_front : List ℕ → Front
number_front text = let n = 1 + number_len (drop 1 text) in with_token (Number (take n text)) (closed n)

abbrev pub name_front : List ℕ → Front
name_front text = let s = name_span (drop 1 text) in with_token (Name (content s (drop 1 text))) (behind 1 s)

abbrev pub quoted_front : List ℕ → Front
quoted_front text = let s = quoted_span (drop 1 text) in with_token (Quoted (content s (drop 1 text))) (behind 1 s)

abbrev pub comment_front : List ℕ → Front
comment_front text = record { token = None; span = behind 2 (comment_span (drop 2 text)) }

-- a token, or white space, of one byte
abbrev pub single : Option Token → Front
single t = record { token = t; span = closed 1 }

abbrev pub mark_front : ℕ → Option Front
mark_front b = option_map (λ m. single (Some (AMark m))) (mark_of b)

-- none where the first byte begins nothing, as one that isn't ASCII; comments are white space where they are allowed
abbrev pub front_of : Bool → List ℕ → Option Front
front_of comments [] = None
front_of comments (b ∷ bs) =
    if nat_le 128 b then None
    else (if is_blank b then Some (single None)
    else (if comments && opens_comment (b ∷ bs) then Some (comment_front (b ∷ bs))
    else (if is_letter b then Some (word_front (b ∷ bs))
    else (if is_digit b then Some (number_front (b ∷ bs))
    else (if b == 91 then Some (name_front (b ∷ bs))
    else (if b == 39 then Some (quoted_front (b ∷ bs))
    else mark_front b))))))

-- where a piece ends: behind a byte of this value, or with the text
abbrev pub EndsWith : ℕ → List ℕ → Span → Type 0
EndsWith end text s = MatchBool s.closed ((1 ≤ s.size) × (s.size ≤ length text) × (slice_index text (s.size - 1) ≡ end)) (s.size ≡ length text)
