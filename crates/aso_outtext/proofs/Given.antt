-- What a text gives, and its first byte past white space.
use Rattle.std.proofs.Common.{◌≡◌, ◌∙◌, ℕ, zero, suc, ◌<◌, Bool, true, false, true≢false, cond, eqb, List, [], ◌∷◌, length, drop, get_or, Option, Some, None, sym, ap, arith, ⊎_elim}
use Rattle.aso_outline.specs.declared.draft.Draft.{Draft}
use Rattle.aso_outline.specs.Rules.{broken}
use Rattle.aso_sheettext.specs.Sheet.{Outline as Lines}
use Rattle.aso_sheettext.specs.Faults.{TextSaysOutline}
use Rattle.aso_outjson.specs.Answers.{IsOutline}
use Rattle.aso_outtext.specs.Drafts.{draft_of}
use Rattle.aso_outtext.specs.Answers.{Gives, LinesGive, is_blank, is_json}

-- ---- lines

-- a text that isn't JSON gives what its lines give
by_lines : (text : List ℕ) (o : Draft) → is_json text ≡ false → Gives text o → LinesGive text o
by_lines text o h g =
    ⊎_elim (λ (j : (is_json text ≡ true) × IsOutline text o). absurd (true≢false (sym j.0 ∙ h))) (λ (l : (is_json text ≡ false) × LinesGive text o). l.1) g

pub none_given : (text : List ℕ) → is_json text ≡ false → ((s : Lines) → TextSaysOutline text s → ⊥) → (o : Draft) → Gives text o → ⊥
none_given text h none o g = let l = by_lines text o h g in none l.lines l.said

pub one_given : (text : List ℕ) (said : Lines) (d given : Draft) → is_json text ≡ false → ((s : Lines) → TextSaysOutline text s → s ≡ said) → d ≡ draft_of said → given ≡ d → (o : Draft) → Gives text o → given ≡ o
one_given text said d given h only ed eg o g =
    let l = by_lines text o h g in
    eg ∙ ed ∙ ap draft_of (sym (only l.lines l.said)) ∙ sym l.draft

some_none : (x y : Option (ℕ × ℕ)) (r : ℕ × ℕ) → x ≡ y → x ≡ Some r → y ≡ None → ⊥
some_none x y r e h n = absurd (cc)

pub broken_given : (text : List ℕ) (said : Lines) (d : Draft) (rule member : ℕ) → is_json text ≡ false → ((s : Lines) → TextSaysOutline text s → s ≡ said) → d ≡ draft_of said → broken d ≡ Some (rule, member) → (o : Draft) → Gives text o → ⊥
broken_given text said d rule member h only ed breaks o g =
    let l = by_lines text o h g in
    some_none (broken d) (broken o) (rule, member) (ap broken (ed ∙ ap draft_of (sym (only l.lines l.said)) ∙ sym l.draft)) breaks l.keeps

-- ---- the first byte past white space

json_step : (b : ℕ) (bs : List ℕ) (blank : Bool) → is_blank b ≡ blank → is_json (b ∷ bs) ≡ cond blank (is_json bs) (eqb b 123)
json_step b bs blank h = ap (λ (t : Bool). cond t (is_json bs) (eqb b 123)) h

pub json_here : (text : List ℕ) (i b : ℕ) → i < length text → b ≡ get_or text i b → is_blank b ≡ false → is_json (drop i text) ≡ eqb b 123
json_here [] i b lt e h = absurd (omega arith)
json_here (x ∷ xs) zero b lt e h = json_step x xs false (ap is_blank (sym e) ∙ h) ∙ ap (λ (y : ℕ). eqb y 123) (sym e)
json_here (x ∷ xs) (suc i) b lt e h = json_here xs i b (omega arith) e h

pub json_next : (text : List ℕ) (i b : ℕ) → i < length text → b ≡ get_or text i b → is_blank b ≡ true → is_json (drop (suc i) text) ≡ is_json (drop i text)
json_next [] i b lt e h = absurd (omega arith)
json_next (x ∷ xs) zero b lt e h = sym (json_step x xs true (ap is_blank (sym e) ∙ h))
json_next (x ∷ xs) (suc i) b lt e h = json_next xs i b (omega arith) e h
