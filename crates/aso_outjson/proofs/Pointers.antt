-- Marks in a text that others are put for, and pointers name by name.
use Rattle.std.proofs.Common.{◌≡◌, ◌≢◌, ◌∙◌, ℕ, suc, ◌+◌, ◌<◌, arith, Bool, true, ◌==◌, List, [], ◌∷◌, ◌++◌, append_assoc, append-nil, length, get_or, drop, reverse, if◌then◌else◌, refl, sym, ap, rules}
use Rattle.std.proofs.lemmas.Bool.{ne_eqb}
use Rattle.std.proofs.lemmas.List.{drop_more, reverse-append}
use Rattle.std.proofs.lemmas.List.Concat.{flat_map-append}
use Rattle.aso_outjson.specs.Pointer.{escaped, pointer, put_for}

module _ (byte : ℕ) (other : List ℕ) where
  one : ℕ → List ℕ
  one b = if b == byte then other else b ∷ []

  pub no_mark : (xs zs : List ℕ) → ((i : ℕ) → i < length xs → get_or xs i 0 ≢ byte) → put_for byte other (xs ++ zs) ≡ xs ++ put_for byte other zs
  no_mark [] zs h = refl
  no_mark (b ∷ xs) zs h =
      let here : b ≢ byte = h 0 (omega arith) in
      ap (λ (q : Bool). (if q then other else b ∷ []) ++ put_for byte other (xs ++ zs)) (ne_eqb b byte here)
      ∙ ap (λ (z : List ℕ). b ∷ z) (no_mark xs zs (λ i lt. h (suc i) (omega (arith, lt))))

  mark_first : (after : List ℕ) → put_for byte other (byte ∷ after) ≡ other ++ put_for byte other after
  mark_first after =
      let same : (byte == byte) ≡ true = search rules in
      ap (λ (q : Bool). (if q then other else byte ∷ []) ++ put_for byte other after) same

  pub to_mark : (text before after : List ℕ) → text ≡ before ++ byte ∷ after → ((i : ℕ) → i < length before → get_or before i 0 ≢ byte) → put_for byte other text ≡ before ++ (other ++ put_for byte other after)
  to_mark text before after e h = ap (put_for byte other) e ∙ no_mark before (byte ∷ after) h ∙ ap (λ (z : List ℕ). before ++ z) (mark_first after)

  pub to_end : (text : List ℕ) → ((i : ℕ) → i < length text → get_or text i 0 ≢ byte) → put_for byte other text ≡ text
  to_end text h = ap (put_for byte other) (sym (append-nil text)) ∙ no_mark text [] h ∙ append-nil text

pub regroup : (out before other rest : List ℕ) → out ++ (before ++ (other ++ rest)) ≡ ((out ++ before) ++ other) ++ rest
regroup out before other rest = sym (append_assoc (out ++ before) other rest ∙ append_assoc out before (other ++ rest))

pub pointer_more : (names : List (List ℕ)) (i : ℕ) (name : List ℕ) → i < length names → name ≡ get_or names i name → pointer (reverse (drop i names)) ≡ pointer (reverse (drop (i + 1) names)) ++ 47 ∷ escaped name
pointer_more names i name within is =
    ap (λ l. pointer (reverse l)) (drop_more names i name within ∙ ap (λ n. n ∷ drop (i + 1) names) (sym is))
    ∙ ap pointer (reverse-append (name ∷ []) (drop (i + 1) names))
    ∙ flat_map-append (λ n. 47 ∷ escaped n) (reverse (drop (i + 1) names)) (name ∷ [])
    ∙ ap (λ z. pointer (reverse (drop (i + 1) names)) ++ z) (append-nil (47 ∷ escaped name))

pub pointer_next : (names : List (List ℕ)) (i left : ℕ) (name before after : List ℕ) → i < length names → left ≡ i + 1 → name ≡ get_or names i name → before ≡ pointer (reverse (drop left names)) → after ≡ before ++ 47 ∷ escaped name
    → after ≡ pointer (reverse (drop i names))
pointer_next names i left name before after within next is so_far put =
    put
    ∙ ap (λ z. z ++ 47 ∷ escaped name) (so_far ∙ ap (λ k. pointer (reverse (drop k names))) next)
    ∙ sym (pointer_more names i name within is)
