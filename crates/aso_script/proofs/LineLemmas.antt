-- The first line of a text, and the lines behind it.
use Rattle.std.proofs.Common.{◌≡◌, ℕ, suc, ◌+◌, ◌<◌, Bool, true, false, eqb, List, [], ◌∷◌, ◌++◌, length, take, drop, refl, sym, ap, ◌∙◌, append_assoc, append-nil, arith}
use Rattle.std.specs.Prelude.{if◌then◌else◌}
use Rattle.aso_script.specs.Script.{Line, lines_of, placed, script_lines}
use Rattle.aso_script.specs.Lines.{first_len}

abbrev pub line_at : ℕ → List ℕ → Line
line_at at bytes = record { at = at; bytes = bytes }

line_step : (b : ℕ) (bs : List ℕ) (n : ℕ) (t : Bool) → lines_of bs ≡ take n bs ∷ lines_of (drop n bs)
    → (if t then (b ∷ []) ∷ take n bs ∷ lines_of (drop n bs) else (b ∷ take n bs) ∷ lines_of (drop n bs)) ≡ take (if t then 1 else suc n) (b ∷ bs) ∷ lines_of (drop (if t then 1 else suc n) (b ∷ bs))
line_step b bs n true known = ap (λ (ls : List (List ℕ)). (b ∷ []) ∷ ls) (sym known)
line_step b bs n false known = refl

last_step : (b : ℕ) (t : Bool) → (b ∷ []) ∷ [] ≡ take (if t then 1 else suc 0) (b ∷ []) ∷ lines_of (drop (if t then 1 else suc 0) (b ∷ []))
unfolding lines_of
last_step b true = refl
last_step b false = refl

pub first_line : (text : List ℕ) → 0 < length text → lines_of text ≡ take (first_len text) text ∷ lines_of (drop (first_len text) text)
unfolding lines_of
first_line [] some = absurd (omega arith)
first_line (b ∷ []) some = last_step b (eqb b 10)
first_line (b ∷ c ∷ cs) some =
    let known = first_line (c ∷ cs) (omega arith) in
    rw known (line_step b (c ∷ cs) (first_len (c ∷ cs)) (eqb b 10) known)

-- one line more is taken, and what follows it is left
pub one_line : (text rest front next : List ℕ) (ls more : List Line) (at n : ℕ) → script_lines text ≡ ls ++ placed at (lines_of rest) → 0 < length rest → n ≡ first_len rest → front ≡ take n rest → next ≡ drop n rest
    → more ≡ ls ++ line_at at front ∷ [] → script_lines text ≡ more ++ placed (at + length front) (lines_of next)
one_line text rest front next ls more at n known some is_n is_front is_next is_more =
    let front_is : front ≡ take (first_len rest) rest = is_front ∙ ap (λ (k : ℕ). take k rest) is_n in
    let next_is : next ≡ drop (first_len rest) rest = is_next ∙ ap (λ (k : ℕ). drop k rest) is_n in
    known ∙ ap (λ (x : List (List ℕ)). ls ++ placed at x) (first_line rest some)
    ∙ rw (is_more, front_is, next_is) (sym (append_assoc ls (line_at at (take (first_len rest) rest) ∷ []) (placed (at + length (take (first_len rest) rest)) (lines_of (drop (first_len rest) rest)))))

-- nothing is left
pub all_lines : (text rest : List ℕ) (ls : List Line) (at : ℕ) → script_lines text ≡ ls ++ placed at (lines_of rest) → length rest ≡ 0 → ls ≡ script_lines text
unfolding lines_of
all_lines text [] ls at known none = sym (known ∙ append-nil ls)
all_lines text (b ∷ bs) ls at known none = absurd (omega arith)
