-- Cutting one piece more.
use Rattle.std.proofs.Common.{◌≡◌, ℕ, zero, suc, ◌+◌, ◌-◌, ◌≤◌, Bool, true, false, ◌&&◌, List, [], ◌∷◌, ◌++◌, length, drop, Option, Some, None, refl, sym, ◌∙◌, ap, append_assoc, append-nil, arith}
use Rattle.std.proofs.lemmas.List.{length-drop}
use Rattle.aso_token.specs.declared.token.Placed.{Placed}
use Rattle.aso_token.specs.declared.cutting.Cut.{Cut}
use Rattle.aso_token.specs.declared.front.Front.{Front}
use Rattle.aso_token.specs.Lexing.{front_of}
use Rattle.aso_token.specs.Cutting.{placed_of, joined, ended, cut_from, cut}

-- what was cut, and then what is cut from the rest, is what the whole text is cut into
abbrev pub CutSoFar : Bool → List ℕ → List Placed → Bool → ℕ → List ℕ → Type 0
CutSoFar comments text ps whole at rest = (n : ℕ) × (length rest ≤ n) × (at + length rest ≡ length text) × (cut comments text ≡ joined ps whole (cut_from comments n at rest))

and_assoc : (a b c : Bool) → (a && (b && c)) ≡ ((a && b) && c)
and_assoc true b c = refl
and_assoc false b c = refl

and_true : (a : Bool) → (a && true) ≡ a
and_true true = refl
and_true false = refl

and_false : (a : Bool) → (a && false) ≡ false
and_false true = refl
and_false false = refl

joined_joined : (ps qs : List Placed) (v w : Bool) (c : Cut) → joined ps v (joined qs w c) ≡ joined (ps ++ qs) (v && w) c
joined_joined ps qs v w c =
    ap (λ (z : List Placed). let d : Cut = record { placed = z; stop = c.stop; whole = v && (w && c.whole) } in d) (sym (append_assoc ps qs c.placed))
    ∙ ap (λ (z : Bool). let d : Cut = record { placed = (ps ++ qs) ++ c.placed; stop = c.stop; whole = z } in d) (and_assoc v w c.whole)

joined_ended : (ps : List Placed) (v w : Bool) (at : ℕ) → joined ps v (ended at w) ≡ record { placed = ps; stop = at; whole = v && w }
joined_ended ps v w at = ap (λ (z : List Placed). let d : Cut = record { placed = z; stop = at; whole = v && w } in d) (append-nil ps)

abbrev pub after_front : Bool → ℕ → ℕ → List ℕ → Option Front → Cut
after_front comments n at text o = elim o [
  | None ↦ ended at false
  | Some f ↦ joined (placed_of f.token at) f.span.closed (cut_from comments n (at + f.span.size) (drop f.span.size text))
]

pub cut_some : (comments : Bool) (n at : ℕ) (text : List ℕ) → 1 ≤ length text → cut_from comments (suc n) at text ≡ after_front comments n at text (front_of comments text)
unfolding cut_from
cut_some comments n at [] some = absurd (let h : ⊥ = omega arith in h)
cut_some comments n at (b ∷ bs) some = refl

pub cut_none : (comments : Bool) (n at : ℕ) → cut_from comments n at [] ≡ ended at true
unfolding cut_from
cut_none comments zero at = refl
cut_none comments (suc n) at = refl

pub cut_start : (comments : Bool) (text : List ℕ) → CutSoFar comments text [] true 0 text
cut_start comments text = (length text, omega arith, omega arith, refl)

-- one piece more
pub cut_more : (comments : Bool) (text rest further : List ℕ) (ps qs : List Placed) (v w : Bool) (at next : ℕ) (f : Front) → CutSoFar comments text ps v at rest → 1 ≤ length rest → Some f ≡ front_of comments rest → 1 ≤ f.span.size → f.span.size ≤ length rest → further ≡ drop f.span.size rest → next ≡ at + f.span.size → qs ≡ ps ++ placed_of f.token at → w ≡ (v && f.span.closed) → CutSoFar comments text qs w next further
cut_more comments text rest further ps qs v w at next f (zero, le, len, so) some is one within more to put both = absurd (let h : ⊥ = omega (arith, le, some) in h)
cut_more comments text rest further ps qs v w at next f (suc m, le, len, so) some is one within more to put both =
    let less : length further ≡ length rest - f.span.size = ap length more ∙ length-drop f.span.size rest in (
      m,
      omega (arith, le, less, one, within),
      omega (arith, len, less, within, to),
      so
          ∙ ap (joined ps v) (cut_some comments m at rest some)
          ∙ ap (λ (o : Option Front). joined ps v (after_front comments m at rest o)) (sym is)
          ∙ joined_joined ps (placed_of f.token at) v f.span.closed (cut_from comments m (at + f.span.size) (drop f.span.size rest))
          ∙ ap (λ (z : List Placed). joined z (v && f.span.closed) (cut_from comments m (at + f.span.size) (drop f.span.size rest))) (sym put)
          ∙ ap (λ (z : Bool). joined qs z (cut_from comments m (at + f.span.size) (drop f.span.size rest))) (sym both)
          ∙ ap (λ (z : ℕ). joined qs w (cut_from comments m z (drop f.span.size rest))) (sym to)
          ∙ ap (λ (z : List ℕ). joined qs w (cut_from comments m next z)) (sym more),
    )

pub cut_ended : (comments : Bool) (text rest : List ℕ) (ps : List Placed) (v : Bool) (at : ℕ) → CutSoFar comments text ps v at rest → rest ≡ [] → cut comments text ≡ record { placed = ps; stop = at; whole = v }
cut_ended comments text rest ps v at so none =
    so.3
    ∙ ap (λ (z : List ℕ). joined ps v (cut_from comments so.0 at z)) none
    ∙ ap (joined ps v) (cut_none comments so.0 at)
    ∙ joined_ended ps v true at
    ∙ ap (λ (z : Bool). let d : Cut = record { placed = ps; stop = at; whole = z } in d) (and_true v)

pub cut_stuck : (comments : Bool) (text rest : List ℕ) (ps : List Placed) (v : Bool) (at : ℕ) → CutSoFar comments text ps v at rest → 1 ≤ length rest → None ≡ front_of comments rest → cut comments text ≡ record { placed = ps; stop = at; whole = false }
cut_stuck comments text rest ps v at (zero, le, len, so) some none = absurd (let h : ⊥ = omega (arith, le, some) in h)
cut_stuck comments text rest ps v at (suc m, le, len, so) some none =
    so
    ∙ ap (joined ps v) (cut_some comments m at rest some)
    ∙ ap (λ (o : Option Front). joined ps v (after_front comments m at rest o)) (sym none)
    ∙ joined_ended ps v false at
    ∙ ap (λ (z : Bool). let d : Cut = record { placed = ps; stop = at; whole = z } in d) (and_false v)

pub nothing : (xs : List ℕ) → length xs ≡ 0 → xs ≡ []
nothing [] e = refl
nothing (x ∷ xs) e = absurd (let h : ⊥ = omega (arith, e) in h)
