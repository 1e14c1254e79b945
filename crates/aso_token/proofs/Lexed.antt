-- How a text that is written piece by piece is cut.
use Rattle.std.proofs.Common.{◌≡◌, ℕ, zero, suc, ◌+◌, ◌-◌, ◌≤◌, ◌<◌, Bool, true, false, not, ◌&&◌, ◌==◌, List, [], ◌∷◌, ◌++◌, length, take, drop, Option, Some, None, refl, sym, ◌∙◌, ap, subst, append_assoc, append-nil, arith, length-append, ◌⊎◌, ⊎_elim, if◌then◌else◌, nat_lt, nat_le}
use Rattle.std.specs.List.{prefix_len}
use Rattle.std.proofs.Math.Seq.{take-append_seam, drop-append_seam}
use Rattle.std.proofs.lemmas.Bool.{lt-ltb}
use Rattle.aso_num.specs.AmountText.{digits_len}
use Rattle.aso_token.specs.declared.token.Token.{Token}
use Rattle.aso_token.specs.declared.token.Token.TheVariants.{Number, Name, Mark as AMark}
use Rattle.aso_token.specs.declared.token.Mark.TheVariants.{Comma, Open, Close, Plus, Minus, Star, Slash}
use Rattle.aso_token.specs.declared.token.Placed.{Placed}
use Rattle.aso_token.specs.declared.front.Span.{Span}
use Rattle.aso_token.specs.declared.front.Front.{Front}
use Rattle.aso_token.specs.declared.cutting.Cut.{Cut}
use Rattle.aso_token.specs.Lexing.{is_digit, is_letter, is_blank, until, number_len, with_decimals, name_span, closed, open_at_end, behind, content, with_token, number_front, front_of}
use Rattle.aso_token.specs.Cutting.{placed_of, joined, cut_from}
use Rattle.aso_token.specs.Reads.{tokens_of}
use Rattle.aso_token.proofs.Laws.{if_true, if_false}
use Rattle.aso_token.proofs.Pieces.{after_front, cut_some, cut_none}

-- cut from any place, with room for every piece, the text gives these tokens, and nothing is left
abbrev pub Lexes : List ℕ → List Token → Type 0
Lexes text ts = (n at : ℕ) → length text ≤ n → (tokens_of (cut_from false n at text).placed ≡ ts) × ((cut_from false n at text).whole ≡ true)

pub lexes_none : Lexes [] []
lexes_none n at le = (ap (λ (c : Cut). tokens_of c.placed) (cut_none false n at), ap (λ (c : Cut). c.whole) (cut_none false n at))

abbrev pub listed : Option Token → List Token
listed None = []
listed (Some t) = t ∷ []

listed_placed : (t : Option Token) (at : ℕ) (ps : List Placed) → tokens_of (placed_of t at ++ ps) ≡ listed t ++ tokens_of ps
listed_placed None at ps = refl
listed_placed (Some t) at ps = refl

abbrev piece : Option Token → ℕ → Front
piece t n = record { token = t; span = closed n }

pub lexes_piece : (p rest : List ℕ) (t : Option Token) (ts : List Token) → 1 ≤ length p → front_of false (p ++ rest) ≡ Some (record { token = t; span = closed (length p) }) → Lexes rest ts → Lexes (p ++ rest) (listed t ++ ts)
lexes_piece p rest t ts some is h zero at le = absurd (let n : ⊥ = omega (arith, le, some, length-append p rest) in n)
lexes_piece p rest t ts some is h (suc m) at le =
    let k = h m (at + length p) (omega (arith, le, some, length-append p rest)) in
    let cuts : cut_from false (suc m) at (p ++ rest) ≡ joined (placed_of t at) true (cut_from false m (at + length p) rest) =
    cut_some false m at (p ++ rest) (omega (arith, some, length-append p rest))
    ∙ ap (λ (o : Option Front). after_front false m at (p ++ rest) o) is
    ∙ ap (λ (z : List ℕ). joined (placed_of t at) true (cut_from false m (at + length p) z)) (drop-append_seam p rest) in (
      ap (λ (c : Cut). tokens_of c.placed) cuts ∙ listed_placed t at (cut_from false m (at + length p) rest).placed ∙ ap (λ (z : List Token). listed t ++ z) k.0,
      ap (λ (c : Cut). c.whole) cuts ∙ k.1,
    )

-- ---- white space and marks

pub lex_space : (rest : List ℕ) (ts : List Token) → Lexes rest ts → Lexes (32 ∷ rest) ts
lex_space rest ts h = lexes_piece (32 ∷ []) rest None ts (omega arith) refl h

pub lex_open : (rest : List ℕ) (ts : List Token) → Lexes rest ts → Lexes (40 ∷ rest) (AMark Open ∷ ts)
lex_open rest ts h = lexes_piece (40 ∷ []) rest (Some (AMark Open)) ts (omega arith) refl h

pub lex_close : (rest : List ℕ) (ts : List Token) → Lexes rest ts → Lexes (41 ∷ rest) (AMark Close ∷ ts)
lex_close rest ts h = lexes_piece (41 ∷ []) rest (Some (AMark Close)) ts (omega arith) refl h

pub lex_star : (rest : List ℕ) (ts : List Token) → Lexes rest ts → Lexes (42 ∷ rest) (AMark Star ∷ ts)
lex_star rest ts h = lexes_piece (42 ∷ []) rest (Some (AMark Star)) ts (omega arith) refl h

pub lex_plus : (rest : List ℕ) (ts : List Token) → Lexes rest ts → Lexes (43 ∷ rest) (AMark Plus ∷ ts)
lex_plus rest ts h = lexes_piece (43 ∷ []) rest (Some (AMark Plus)) ts (omega arith) refl h

pub lex_comma : (rest : List ℕ) (ts : List Token) → Lexes rest ts → Lexes (44 ∷ rest) (AMark Comma ∷ ts)
lex_comma rest ts h = lexes_piece (44 ∷ []) rest (Some (AMark Comma)) ts (omega arith) refl h

pub lex_minus : (rest : List ℕ) (ts : List Token) → Lexes rest ts → Lexes (45 ∷ rest) (AMark Minus ∷ ts)
lex_minus rest ts h = lexes_piece (45 ∷ []) rest (Some (AMark Minus)) ts (omega arith) refl h

pub lex_slash : (rest : List ℕ) (ts : List Token) → Lexes rest ts → Lexes (47 ∷ rest) (AMark Slash ∷ ts)
lex_slash rest ts h = lexes_piece (47 ∷ []) rest (Some (AMark Slash)) ts (omega arith) refl h

-- ---- longest fronts

passed : (q : Bool) (k n : ℕ) → (if q then 1 + k else 0) ≡ suc n → (q ≡ true) × (k ≡ n)
passed true k n e = (refl, omega (arith, e))
passed false k n e = absurd (let h : ⊥ = omega (arith, e) in h)

prefix_here : (p : ℕ → Bool) (xs ys : List ℕ) → prefix_len p xs ≡ length xs → prefix_len p ys ≡ 0 → prefix_len p (xs ++ ys) ≡ length xs
prefix_here p [] ys e z = z
prefix_here p (x ∷ xs) ys e z =
    let h = passed (p x) (prefix_len p xs) (length xs) e in
    let more : 1 + prefix_len p (xs ++ ys) ≡ suc (length xs) = omega (arith, prefix_here p xs ys h.1 z) in
    ap (λ (q : Bool). if q then 1 + prefix_len p (xs ++ ys) else 0) h.0 ∙ more

-- ---- names

-- a name that has no closing bracket
abbrev pub HasNoEnd : List ℕ → Type 0
HasNoEnd name = until 93 name ≡ length name

name_piece : (name rest : List ℕ) → HasNoEnd name → front_of false ((91 ∷ (name ++ 93 ∷ [])) ++ rest) ≡ Some (piece (Some (Name name)) (length (91 ∷ (name ++ 93 ∷ []))))
name_piece name rest e =
    let X : List ℕ = (name ++ 93 ∷ []) ++ rest in
    let same : X ≡ name ++ 93 ∷ rest = append_assoc name (93 ∷ []) rest in
    let u : until 93 X ≡ length name = ap (until 93) same ∙ prefix_here (λ b. not (b == 93)) name (93 ∷ rest) e refl in
    let less : length name < length X = omega (arith, length-append (name ++ 93 ∷ []) rest, length-append name (93 ∷ [])) in
    let span_is : name_span X ≡ closed (length name + 1) =
    ap (λ (k : ℕ). let s : Span = if nat_lt k (length X) then closed (k + 1) else open_at_end k in s) u
    ∙ if_true (nat_lt (length name) (length X)) (closed (length name + 1)) (open_at_end (length name)) (lt-ltb (length name) (length X) less) in
    let shorter : length name + 1 - 1 ≡ length name = omega arith in
    let content_is : take (length name + 1 - 1) X ≡ name = ap (λ (k : ℕ). take k X) shorter ∙ ap (take (length name)) same ∙ take-append_seam name (93 ∷ rest) in
    let size_is : 1 + (length name + 1) ≡ length (91 ∷ (name ++ 93 ∷ [])) = omega (arith, length-append name (93 ∷ [])) in
    ap (λ (s : Span). let o : Option Front = Some (with_token (Name (content s X)) (behind 1 s)) in o) span_is
    ∙ ap (λ (z : List ℕ). let o : Option Front = Some (piece (Some (Name z)) (1 + (length name + 1))) in o) content_is
    ∙ ap (λ (k : ℕ). let o : Option Front = Some (piece (Some (Name name)) k) in o) size_is

pub lex_name : (name rest : List ℕ) (ts : List Token) → HasNoEnd name → Lexes rest ts → Lexes ((91 ∷ (name ++ 93 ∷ [])) ++ rest) (Name name ∷ ts)
lex_name name rest ts e h = lexes_piece (91 ∷ (name ++ 93 ∷ [])) rest (Some (Name name)) ts (omega arith) (name_piece name rest e) h

-- ---- numbers

-- a text that goes on no number
abbrev pub Free : List ℕ → Type 0
Free [] = Unit {0}
Free (b ∷ bs) = (is_digit b ≡ false) × ((b == 46) ≡ false)

-- a number's text: a digit and further ones, then nothing, or a point and digits
pub record Numeral (text : List ℕ) : Type 0 where
  pub first : ℕ
  pub whole : List ℕ
  pub decimals : List ℕ
  pub is : text ≡ first ∷ (whole ++ decimals)
  pub digit : is_digit first ≡ true
  pub digits : digits_len whole ≡ length whole
  pub point : (decimals ≡ []) ⊎ ((f : List ℕ) × (decimals ≡ 46 ∷ f) × (1 ≤ length f) × (digits_len f ≡ length f))

free_none : (rest : List ℕ) → Free rest → digits_len rest ≡ 0
free_none [] h = refl
free_none (b ∷ bs) h = ap (λ (q : Bool). if q then 1 + digits_len bs else 0) h.0

free_ends : (n : ℕ) (rest : List ℕ) → Free rest → with_decimals n rest ≡ n
free_ends n [] h = refl
free_ends n (b ∷ bs) h = ap (λ (q : Bool). if q && nat_lt 0 (digits_len bs) then n + 1 + digits_len bs else n) h.1

len_none : (whole rest : List ℕ) → digits_len whole ≡ length whole → Free rest → number_len (whole ++ rest) ≡ length whole
len_none whole rest e free =
    let n : digits_len (whole ++ rest) ≡ length whole = prefix_here is_digit whole rest e (free_none rest free) in
    ap (λ (k : ℕ). with_decimals k (drop k (whole ++ rest))) n
    ∙ ap (with_decimals (length whole)) (drop-append_seam whole rest)
    ∙ free_ends (length whole) rest free

len_some : (whole f rest : List ℕ) → digits_len whole ≡ length whole → 1 ≤ length f → digits_len f ≡ length f → Free rest → number_len (whole ++ 46 ∷ (f ++ rest)) ≡ length whole + 1 + length f
len_some whole f rest e some d free =
    let n : digits_len (whole ++ 46 ∷ (f ++ rest)) ≡ length whole = prefix_here is_digit whole (46 ∷ (f ++ rest)) e refl in
    let m : digits_len (f ++ rest) ≡ length f = prefix_here is_digit f rest d (free_none rest free) in
    ap (λ (k : ℕ). with_decimals k (drop k (whole ++ 46 ∷ (f ++ rest)))) n
    ∙ ap (with_decimals (length whole)) (drop-append_seam whole (46 ∷ (f ++ rest)))
    ∙ ap (λ (k : ℕ). if nat_lt 0 k then length whole + 1 + k else length whole) m
    ∙ if_true (nat_lt 0 (length f)) (length whole + 1 + length f) (length whole) (lt-ltb 0 (length f) some)

digit_front : (d : ℕ) (ys : List ℕ) → is_digit d ≡ true → front_of false (d ∷ ys) ≡ Some (number_front (d ∷ ys))
digit_front d ys e =
    let ascii : nat_le 128 d ≡ false = grind (arith, e) in
    let solid : is_blank d ≡ false = grind (arith, e) in
    let no_letter : is_letter d ≡ false = grind (arith, e) in
    if_false (nat_le 128 d) _ _ ascii ∙ if_false (is_blank d) _ _ solid ∙ if_false (is_letter d) _ _ no_letter ∙ if_true (is_digit d) _ _ e

number_at : (first : ℕ) (tail rest : List ℕ) → is_digit first ≡ true → number_len (tail ++ rest) ≡ length tail → front_of false ((first ∷ tail) ++ rest) ≡ Some (piece (Some (Number (first ∷ tail))) (length (first ∷ tail)))
number_at first tail rest e n =
    let size : 1 + length tail ≡ length (first ∷ tail) = omega arith in
    digit_front first (tail ++ rest) e
    ∙ ap (λ (k : ℕ). let o : Option Front = Some (with_token (Number (take (1 + k) (first ∷ (tail ++ rest)))) (closed (1 + k))) in o) n
    ∙ ap (λ (k : ℕ). let o : Option Front = Some (with_token (Number (take k (first ∷ (tail ++ rest)))) (closed k)) in o) size
    ∙ ap (λ (z : List ℕ). let o : Option Front = Some (piece (Some (Number z)) (length (first ∷ tail))) in o) (take-append_seam (first ∷ tail) rest)

number_tail : (whole decimals rest : List ℕ) → digits_len whole ≡ length whole → (decimals ≡ []) ⊎ ((f : List ℕ) × (decimals ≡ 46 ∷ f) × (1 ≤ length f) × (digits_len f ≡ length f)) → Free rest → number_len ((whole ++ decimals) ++ rest) ≡ length (whole ++ decimals)
number_tail whole decimals rest e point free = ⊎_elim
    (λ (no : decimals ≡ []).
    ap (λ (z : List ℕ). number_len ((whole ++ z) ++ rest)) no
    ∙ ap (λ (z : List ℕ). number_len (z ++ rest)) (append-nil whole)
    ∙ len_none whole rest e free
    ∙ ap length (sym (append-nil whole))
    ∙ ap (λ (z : List ℕ). length (whole ++ z)) (sym no))
    (λ (yes : (f : List ℕ) × (decimals ≡ 46 ∷ f) × (1 ≤ length f) × (digits_len f ≡ length f)).
    let f = yes.0 in
    let long : length whole + 1 + length f ≡ length (whole ++ 46 ∷ f) = omega (arith, length-append whole (46 ∷ f)) in
    ap (λ (z : List ℕ). number_len ((whole ++ z) ++ rest)) yes.1
    ∙ ap number_len (append_assoc whole (46 ∷ f) rest)
    ∙ len_some whole f rest e yes.2 yes.3 free
    ∙ long
    ∙ ap (λ (z : List ℕ). length (whole ++ z)) (sym yes.1))
    point

pub lex_number : (text rest : List ℕ) (ts : List Token) → Numeral text → Free rest → Lexes rest ts → Lexes (text ++ rest) (Number text ∷ ts)
lex_number text rest ts m free h =
    let F : List ℕ → Type 0 = λ z. Lexes (z ++ rest) (Number z ∷ ts) in
    subst F (sym m.is)
    (lexes_piece (m.first ∷ (m.whole ++ m.decimals)) rest (Some (Number (m.first ∷ (m.whole ++ m.decimals)))) ts (omega arith)
    (number_at m.first (m.whole ++ m.decimals) rest m.digit (number_tail m.whole m.decimals rest m.digits m.point free)) h)
