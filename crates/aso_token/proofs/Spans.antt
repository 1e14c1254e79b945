-- Where pieces of a text end: at a boundary of characters.
use Rattle.std.proofs.Common.{◌≡◌, ℕ, zero, suc, ◌+◌, ◌-◌, ◌≤◌, ◌<◌, Bool, true, false, not, ◌&&◌, ◌==◌, List, [], ◌∷◌, length, drop, get_or, refl, sym, ◌∙◌, ap, subst, arith, if◌then◌else◌, nat_lt, Option}
use Rattle.std.specs.List.{prefix_len}
use Rattle.std.specs.Str.{IsUtf8, IsCharBoundary}
use Rattle.std.proofs.lemmas.Bool.{eqb-true}
use Rattle.std.proofs.lemmas.List.{drop_more}
use Rattle.std.proofs.lemmas.List.Sums.{prefix_len-le-length, prefix_len_passes, prefix_len_stops}
use Rattle.std.proofs.lemmas.Str.{IsUtf8-drop, IsCharBoundary-start, IsCharBoundary-end, IsCharBoundary-before_ascii, IsCharBoundary-after_ascii, IsCharBoundary-from_rest}
use Rattle.aso_num.specs.AmountText.{digits_len, is_digit}
use Rattle.aso_token.specs.declared.token.Token.{Token}
use Rattle.aso_token.specs.declared.front.Span.{Span}
use Rattle.aso_token.specs.declared.front.Front.{Front}
use Rattle.aso_token.specs.Lexing.{is_word_byte, word_len, number_len, with_decimals, until, quoted_from, quoted_span, comment_from, comment_span, closed, open_at_end, behind, content_len, single, EndsWith}

-- ---- fronts of bytes that are ASCII

word_is_ascii : (b : ℕ) → is_word_byte b ≡ true → b < 128
word_is_ascii b e = grind arith

digit_is_ascii : (b : ℕ) → is_digit b ≡ true → b < 128
digit_is_ascii b e = grind arith

-- behind n bytes that all pass a test that only ASCII passes
prefix_at : (p : ℕ → Bool) → ((b : ℕ) → p b ≡ true → b < 128) → (text : List ℕ) → IsUtf8 text → (n : ℕ) → n ≡ prefix_len p text → IsCharBoundary text n
prefix_at p ascii text u zero e = IsCharBoundary-start text u
prefix_at p ascii text u (suc n) e =
    let less : n < length text = omega (arith, prefix_len-le-length p text, e) in
    let at = IsCharBoundary-after_ascii text n u less (ascii (get_or text n 0) (prefix_len_passes p text n 0 (omega (arith, e)))) in
    subst (IsCharBoundary text) (let same : n + 1 ≡ suc n = omega arith in same) at

prefix_boundary : (p : ℕ → Bool) → ((b : ℕ) → p b ≡ true → b < 128) → (text : List ℕ) → IsUtf8 text → IsCharBoundary text (prefix_len p text)
prefix_boundary p ascii text u = prefix_at p ascii text u (prefix_len p text) refl

pub word_boundary : (text : List ℕ) → IsUtf8 text → IsCharBoundary text (word_len text)
word_boundary text u = prefix_boundary is_word_byte word_is_ascii text u

digits_boundary : (text : List ℕ) → IsUtf8 text → IsCharBoundary text (digits_len text)
digits_boundary text u = prefix_boundary is_digit digit_is_ascii text u

drop_head : (n : ℕ) (text : List ℕ) (b : ℕ) (bs : List ℕ) → b ∷ bs ≡ drop n text → (n < length text) × (get_or text n 0 ≡ b) × (drop (n + 1) text ≡ bs)
drop_head n [] b bs e = absurd (nothing_there n e)
  where
    nothing_there : (n : ℕ) → b ∷ bs ≡ drop n [] → ⊥
    nothing_there zero e = let h : ⊥ = cc in h
    nothing_there (suc n) e = let h : ⊥ = cc in h
drop_head zero (x ∷ xs) b bs e = (omega arith, sym (let h : b ≡ x = cc in h), sym (let h : bs ≡ xs = cc in h))
drop_head (suc n) (x ∷ xs) b bs e =
    let h = drop_head n xs b bs e in
    let same : suc n + 1 ≡ suc (n + 1) = omega arith in
    (omega (arith, h.0), h.1, ap (λ k. drop k (x ∷ xs)) same ∙ h.2)

decimals_at : (text : List ℕ) → IsUtf8 text → (n : ℕ) → IsCharBoundary text n → (after : List ℕ) → after ≡ drop n text → IsCharBoundary text (with_decimals n after)
decimals_at text u n at [] e = at
decimals_at text u n at (b ∷ bs) e = by_point (b == 46) refl (nat_lt 0 (digits_len bs))
  where
    by_point : (p : Bool) → (b == 46) ≡ p → (q : Bool) → IsCharBoundary text (if p && q then n + 1 + digits_len bs else n)
    by_point false is q = at
    by_point true is false = at
    by_point true is true =
        let h = drop_head n text b bs e in
        let point : get_or text n 0 < 128 = omega (arith, h.1, eqb-true b 46 is) in
        let here = IsCharBoundary-after_ascii text n u h.0 point in
        let more = IsUtf8-drop text (n + 1) u here in
        IsCharBoundary-from_rest text (n + 1) (digits_len bs) (omega (arith, h.0))
        (subst (λ (z : List ℕ). IsCharBoundary (drop (n + 1) text) (digits_len z)) h.2 (digits_boundary (drop (n + 1) text) more))

pub number_boundary : (text : List ℕ) → IsUtf8 text → IsCharBoundary text (number_len text)
number_boundary text u = decimals_at text u (digits_len text) (digits_boundary text u) (drop (digits_len text) text) refl

-- ---- pieces that a byte closes

ends_at : (end : ℕ) (text : List ℕ) (n : ℕ) (c : Bool) → IsUtf8 text → end < 128 → EndsWith end text (record { size = n; closed = c }) → IsCharBoundary text n
ends_at end text n false u less e = subst (IsCharBoundary text) (sym e) (IsCharBoundary-end text)
ends_at end text n true u less e =
    let at = IsCharBoundary-after_ascii text (n - 1) u (omega (arith, e.0, e.1)) (omega (arith, e.2, less)) in
    subst (IsCharBoundary text) (let same : n - 1 + 1 ≡ n = omega (arith, e.0) in same) at

holds_at : (end : ℕ) (text : List ℕ) (n : ℕ) (c : Bool) → IsUtf8 text → end < 128 → EndsWith end text (record { size = n; closed = c }) → IsCharBoundary text (if c then n - 1 else n)
holds_at end text n false u less e = subst (IsCharBoundary text) (sym e) (IsCharBoundary-end text)
holds_at end text n true u less e = IsCharBoundary-before_ascii text (n - 1) (omega (arith, e.0, e.1)) (omega (arith, e.2, less))

size_at : (end : ℕ) (text : List ℕ) (n : ℕ) (c : Bool) → EndsWith end text (record { size = n; closed = c }) → n ≤ length text
size_at end text n false e = omega (arith, e)
size_at end text n true e = e.1

pub ends_boundary : (end : ℕ) (text : List ℕ) (s : Span) → IsUtf8 text → end < 128 → EndsWith end text s → IsCharBoundary text s.size
ends_boundary end text s u less e = ends_at end text s.size s.closed u less e

pub content_boundary : (end : ℕ) (text : List ℕ) (s : Span) → IsUtf8 text → end < 128 → EndsWith end text s → IsCharBoundary text (content_len s)
content_boundary end text s u less e = holds_at end text s.size s.closed u less e

pub ends_within : (end : ℕ) (text : List ℕ) (s : Span) → EndsWith end text s → s.size ≤ length text
ends_within end text s e = size_at end text s.size s.closed e

-- ---- a name, a quoted text, a comment, byte by byte

behind_none : (i : ℕ) (c : Bool) → behind i (record { size = 0; closed = c }) ≡ record { size = i; closed = c }
behind_none i c = let n : i + 0 ≡ i = omega arith in ap (λ (k : ℕ). let s : Span = record { size = k; closed = c } in s) n

behind_more : (i j : ℕ) (s : Span) → behind i (behind j s) ≡ behind (i + j) s
behind_more i j s = let n : i + (j + s.size) ≡ i + j + s.size = omega arith in ap (λ (k : ℕ). let t : Span = record { size = k; closed = s.closed } in t) n

quoted_goes : (q : Bool) (b : ℕ) (bs : List ℕ) → (q && not (b == 39)) ≡ false → quoted_from q (b ∷ bs) ≡ behind 1 (quoted_from (not q && (b == 39)) bs)
unfolding quoted_from
quoted_goes q b bs e = ap (λ (x : Bool). if x then closed 0 else behind 1 (quoted_from (not q && (b == 39)) bs)) e

quoted_stops : (q : Bool) (b : ℕ) (bs : List ℕ) → (q && not (b == 39)) ≡ true → quoted_from q (b ∷ bs) ≡ closed 0
unfolding quoted_from
quoted_stops q b bs e = ap (λ (x : Bool). if x then closed 0 else behind 1 (quoted_from (not q && (b == 39)) bs)) e

pub quoted_step : (text : List ℕ) (i : ℕ) (q : Bool) → i < length text → (q && not (get_or text i 0 == 39)) ≡ false → quoted_span text ≡ behind i (quoted_from q (drop i text)) → quoted_span text ≡ behind (i + 1) (quoted_from (not q && (get_or text i 0 == 39)) (drop (i + 1) text))
quoted_step text i q less on so =
    so
    ∙ ap (λ (z : List ℕ). behind i (quoted_from q z)) (drop_more text i 0 less)
    ∙ ap (behind i) (quoted_goes q (get_or text i 0) (drop (i + 1) text) on)
    ∙ behind_more i 1 (quoted_from (not q && (get_or text i 0 == 39)) (drop (i + 1) text))

pub quoted_close : (text : List ℕ) (i : ℕ) (q : Bool) → i < length text → (q && not (get_or text i 0 == 39)) ≡ true → quoted_span text ≡ behind i (quoted_from q (drop i text)) → quoted_span text ≡ closed i
quoted_close text i q less on so =
    so
    ∙ ap (λ (z : List ℕ). behind i (quoted_from q z)) (drop_more text i 0 less)
    ∙ ap (behind i) (quoted_stops q (get_or text i 0) (drop (i + 1) text) on)
    ∙ behind_none i true

nothing_left : (text : List ℕ) → drop (length text) text ≡ []
nothing_left [] = refl
nothing_left (b ∷ bs) = nothing_left bs

last_quoted : (text : List ℕ) (q : Bool) → quoted_span text ≡ behind (length text) (quoted_from q (drop (length text) text)) → quoted_span text ≡ record { size = length text; closed = q }
unfolding quoted_from
last_quoted text q so = so ∙ ap (λ (z : List ℕ). behind (length text) (quoted_from q z)) (nothing_left text) ∙ behind_none (length text) q

pub quoted_last : (text : List ℕ) (i : ℕ) (q : Bool) → i ≡ length text → quoted_span text ≡ behind i (quoted_from q (drop i text)) → quoted_span text ≡ record { size = length text; closed = q }
quoted_last text i q end so = last_quoted text q (subst (λ (k : ℕ). quoted_span text ≡ behind k (quoted_from q (drop k text))) end so)

and_first : (a b : Bool) → (a && b) ≡ true → a ≡ true
and_first true b e = refl
and_first false b e = e

and_second : (a b : Bool) → (a && b) ≡ true → b ≡ true
and_second true b e = e
and_second false b e = absurd (let h : ⊥ = cc in h)

pub quoted_mark : (text : List ℕ) (i : ℕ) (q r : Bool) → r ≡ (not q && (get_or text i 0 == 39)) → r ≡ true → (1 ≤ i + 1) × (get_or text (i + 1 - 1) 0 ≡ 39)
quoted_mark text i q r is on =
    let same : i ≡ i + 1 - 1 = omega arith in
    let here : get_or text i 0 ≡ 39 = eqb-true (get_or text i 0) 39 (and_second (not q) (get_or text i 0 == 39) (sym is ∙ on)) in
    (omega arith, subst (λ (k : ℕ). get_or text k 0 ≡ 39) same here)

pub quoted_ended : (text : List ℕ) (i : ℕ) (q : Bool) → i < length text → (q && not (get_or text i 0 == 39)) ≡ true → (q ≡ true → (1 ≤ i) × (get_or text (i - 1) 0 ≡ 39)) → EndsWith 39 text (closed i)
quoted_ended text i q less on mark =
    let h = mark (and_first q (not (get_or text i 0 == 39)) on) in
    (h.0, omega (arith, less), h.1)

pub quoted_end : (text : List ℕ) (i : ℕ) (q : Bool) → i ≡ length text → (q ≡ true → (1 ≤ i) × (get_or text (i - 1) 0 ≡ 39)) → EndsWith 39 text (record { size = length text; closed = q })
quoted_end text i false end mark = refl
quoted_end text i true end mark =
    let h = mark refl in
    (omega (arith, end, h.0), omega arith, subst (λ (k : ℕ). get_or text (k - 1) 0 ≡ 39) end h.1)

comment_goes : (q : Bool) (b : ℕ) (bs : List ℕ) → (q && (b == 47)) ≡ false → comment_from q (b ∷ bs) ≡ behind 1 (comment_from (b == 42) bs)
unfolding comment_from
comment_goes q b bs e = ap (λ (x : Bool). if x then closed 1 else behind 1 (comment_from (b == 42) bs)) e

comment_stops : (q : Bool) (b : ℕ) (bs : List ℕ) → (q && (b == 47)) ≡ true → comment_from q (b ∷ bs) ≡ closed 1
unfolding comment_from
comment_stops q b bs e = ap (λ (x : Bool). if x then closed 1 else behind 1 (comment_from (b == 42) bs)) e

pub comment_step : (text : List ℕ) (i : ℕ) (q : Bool) → i < length text → (q && (get_or text i 0 == 47)) ≡ false → comment_span text ≡ behind i (comment_from q (drop i text)) → comment_span text ≡ behind (i + 1) (comment_from (get_or text i 0 == 42) (drop (i + 1) text))
comment_step text i q less on so =
    so
    ∙ ap (λ (z : List ℕ). behind i (comment_from q z)) (drop_more text i 0 less)
    ∙ ap (behind i) (comment_goes q (get_or text i 0) (drop (i + 1) text) on)
    ∙ behind_more i 1 (comment_from (get_or text i 0 == 42) (drop (i + 1) text))

pub comment_close : (text : List ℕ) (i : ℕ) (q : Bool) → i < length text → (q && (get_or text i 0 == 47)) ≡ true → comment_span text ≡ behind i (comment_from q (drop i text)) → comment_span text ≡ closed (i + 1)
comment_close text i q less on so =
    so
    ∙ ap (λ (z : List ℕ). behind i (comment_from q z)) (drop_more text i 0 less)
    ∙ ap (behind i) (comment_stops q (get_or text i 0) (drop (i + 1) text) on)

last_comment : (text : List ℕ) (q : Bool) → comment_span text ≡ behind (length text) (comment_from q (drop (length text) text)) → comment_span text ≡ open_at_end (length text)
unfolding comment_from
last_comment text q so = so ∙ ap (λ (z : List ℕ). behind (length text) (comment_from q z)) (nothing_left text) ∙ behind_none (length text) false

pub comment_last : (text : List ℕ) (i : ℕ) (q : Bool) → i ≡ length text → comment_span text ≡ behind i (comment_from q (drop i text)) → comment_span text ≡ open_at_end (length text)
comment_last text i q end so = last_comment text q (subst (λ (k : ℕ). comment_span text ≡ behind k (comment_from q (drop k text))) end so)

name_byte : (text : List ℕ) → until 93 text < length text → get_or text (until 93 text) 0 ≡ 93
name_byte text less = by_not (get_or text (until 93 text) 0) (prefix_len_stops (λ b. not (b == 93)) text 0 less)
  where
    by_not : (b : ℕ) → not (b == 93) ≡ false → b ≡ 93
    by_not b e = grind arith

pub name_end : (text : List ℕ) (n : ℕ) → n ≡ until 93 text → n < length text → EndsWith 93 text (closed (n + 1))
name_end text n is less =
    let same : until 93 text ≡ n + 1 - 1 = omega (arith, is) in
    let here = name_byte text (omega (arith, is, less)) in
    (omega arith, omega (arith, less), subst (λ (k : ℕ). get_or text k 0 ≡ 93) same here)

-- ---- behind the first byte

pub after_first : (text inner : List ℕ) (n : ℕ) → inner ≡ drop 1 text → 1 ≤ length text → IsCharBoundary inner n → IsCharBoundary text (1 + n)
after_first text inner n e some b = IsCharBoundary-from_rest text 1 n some (subst (λ (z : List ℕ). IsCharBoundary z n) e b)

pub word_at : (text inner bytes : List ℕ) (n : ℕ) → IsUtf8 inner → inner ≡ drop 1 text → bytes ≡ inner → 1 ≤ length text → n ≡ word_len bytes → IsCharBoundary text (1 + n)
word_at text inner bytes n u e f some is = after_first text inner n e some (subst (IsCharBoundary inner) (sym (is ∙ ap word_len f)) (word_boundary inner u))

pub number_at : (text inner bytes : List ℕ) (n : ℕ) → IsUtf8 inner → inner ≡ drop 1 text → bytes ≡ inner → 1 ≤ length text → n ≡ number_len bytes → IsCharBoundary text (1 + n)
number_at text inner bytes n u e f some is = after_first text inner n e some (subst (IsCharBoundary inner) (sym (is ∙ ap number_len f)) (number_boundary inner u))

pub enclosed_at : (end : ℕ) (text inner bytes : List ℕ) (s t : Span) → end < 128 → IsUtf8 inner → inner ≡ drop 1 text → bytes ≡ inner → 1 ≤ length text → EndsWith end bytes s → t ≡ behind 1 s → IsCharBoundary text t.size
enclosed_at end text inner bytes s t less u e f some ends is =
    subst (λ (z : Span). IsCharBoundary text z.size) (sym is)
    (after_first text inner s.size e some (ends_boundary end inner s u less (subst (λ (z : List ℕ). EndsWith end z s) f ends)))

pub comment_at : (text inner further bytes : List ℕ) (s t : Span) → IsUtf8 further → inner ≡ drop 1 text → further ≡ drop 1 inner → bytes ≡ further → 2 ≤ length text → EndsWith 47 bytes s → t ≡ behind 2 s → IsCharBoundary text t.size
comment_at text inner further bytes s t u e g f some ends is =
    let less : 1 ≤ length inner = omega (arith, some, ap length e, one_less text) in
    let first = after_first inner further s.size g less (ends_boundary 47 further s u (omega arith) (subst (λ (z : List ℕ). EndsWith 47 z s) f ends)) in
    let second = after_first text inner (1 + s.size) e (omega (arith, some)) first in
    let same : 1 + (1 + s.size) ≡ 2 + s.size = omega arith in
    subst (λ (z : Span). IsCharBoundary text z.size) (sym is) (subst (IsCharBoundary text) same second)
  where
    one_less : (text : List ℕ) → length (drop 1 text) ≡ length text - 1
    one_less [] = refl
    one_less (b ∷ bs) = omega arith

pub single_at : (text bytes : List ℕ) (t : Option Token) (f : Front) → IsUtf8 text → bytes ≡ text → 1 ≤ length bytes → get_or bytes 0 0 < 128 → f ≡ single t → IsCharBoundary text f.span.size
single_at text bytes t f u same some ascii is =
    let at : IsCharBoundary text 1 = IsCharBoundary-after_ascii text 0 u (omega (arith, some, ap length same)) (subst (λ (z : List ℕ). get_or z 0 0 < 128) same ascii) in
    subst (λ (z : Front). IsCharBoundary text z.span.size) (sym is) at
