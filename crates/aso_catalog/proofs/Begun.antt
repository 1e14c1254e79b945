-- Which writes the parts of a publish begin, at the gate of one place.
use Rattle.std.proofs.Common.{◌≡◌, ⊎_elim, ℕ, zero, suc, ◌+◌, ◌<◌, Bool, true, false, List, [], ◌∷◌, ◌++◌, length, length-append, append_assoc, refl, sym, ◌∙◌, ap, subst, arith}
use Rattle.std.proofs.lemmas.List.{append-nil, append_cancel_left}
use Rattle.std.proofs.lemmas.List.Elements.{Contains-append_cases, Contains-append_right}
use Rattle.std.specs.Prelude.{Contains, if◌then◌else◌}
use Rattle.aso_disk.specs.Slots.{Write}

abbrev pub Closing : Bool → ℕ → List Write
Closing shut p = if shut then [] else (p, 0 ∷ []) ∷ []

abbrev pub Begun : List Write → List Write → Write → Type 0
Begun old now w = (made : List Write) × (now ≡ old ++ made) × Contains made w

abbrev pub Last : List Write → Write → Type 0
Last now w = (before : List Write) × (now ≡ before ++ w ∷ [])

-- what was begun is what was added
only : (old now made : List Write) (w : Write) → now ≡ old ++ made → Begun old now w → Contains made w
only old now made w is has = subst (λ (l : List Write). Contains l w) (append_cancel_left old has.0 made (sym has.1 ∙ is)) has.2

in_none : (w : Write) → Contains [] w → ⊥
in_none w has = absurd (let lt : has.0 < 0 = has.1 in omega arith)

in_one : (v w : Write) → Contains (v ∷ []) w → v ≡ w
in_one v w (zero, lt, is) = is
in_one v w (suc k, lt, is) = absurd (omega arith)

other_byte : (p q : ℕ) → ◌≡◌ {A = Write} (p, 0 ∷ []) (q, 1 ∷ []) → ⊥
other_byte p q e = let bytes : 0 ∷ [] ≡ 1 ∷ [] = ap (λ (w : Write). w.1) e in absurd (cc bytes)

other_place : (p q : ℕ) (frame bytes : List ℕ) → q ≡ p → ◌≡◌ {A = Write} (q + 1, frame) (p, bytes) → ⊥
other_place p q frame bytes at e = let place : q + 1 ≡ p = ap (λ (w : Write). w.0) e in absurd (omega arith)

in_closing : (shut : Bool) (p : ℕ) → Contains (Closing shut p) (p, 1 ∷ []) → ⊥
in_closing true p has = in_none (p, 1 ∷ []) has
in_closing false p has = other_byte p p (in_one (p, 0 ∷ []) (p, 1 ∷ []) has)

last_is : (a b : List Write) (v w : Write) → a ++ v ∷ [] ≡ b ++ w ∷ [] → v ≡ w
last_is [] [] v w e = cc e
last_is [] (y ∷ b) v w e = absurd (omega (arith, ap length e, length-append b (w ∷ [])))
last_is (x ∷ a) [] v w e = absurd (omega (arith, ap length e, length-append a (v ∷ [])))
last_is (x ∷ a) (y ∷ b) v w e = last_is a b v w (cc e)

pub nothing_begun : (old : List Write) (w : Write) → Begun old old w → ⊥
nothing_begun old w has = in_none w (only old old [] w (sym (append-nil old)) has)

pub closing_begun : (old now : List Write) (shut : Bool) (p : ℕ) → now ≡ old ++ Closing shut p → Begun old now (p, 1 ∷ []) → ⊥
closing_begun old now shut p is has = in_closing shut p (only old now (Closing shut p) (p, 1 ∷ []) is has)

pub filling_begun : (old mid now : List Write) (shut : Bool) (p q : ℕ) (frame : List ℕ) → mid ≡ old ++ Closing shut p → now ≡ mid ++ (q + 1, frame) ∷ [] → q ≡ p → Begun old now (p, 1 ∷ []) → ⊥
filling_begun old mid now shut p q frame first second at has =
    let fill : List Write = (q + 1, frame) ∷ [] in
    let is : now ≡ old ++ (Closing shut p ++ fill) = second ∙ ap (λ (l : List Write). l ++ fill) first ∙ append_assoc old (Closing shut p) fill in
    ⊎_elim (in_closing shut p) (λ one. other_place p q frame (1 ∷ []) at (in_one (q + 1, frame) (p, 1 ∷ []) one))
    (Contains-append_cases (Closing shut p) fill (p, 1 ∷ []) (only old now (Closing shut p ++ fill) (p, 1 ∷ []) is has))

pub opening_begun : (old mid next now : List Write) (shut : Bool) (p q r : ℕ) (frame : List ℕ) → mid ≡ old ++ Closing shut p → next ≡ mid ++ (q + 1, frame) ∷ [] → now ≡ next ++ (r, 1 ∷ []) ∷ [] → r ≡ p → Begun old now (p, 1 ∷ [])
opening_begun old mid next now shut p q r frame first second third at =
    let fill : List Write = (q + 1, frame) ∷ [] in
    let open_it : List Write = (r, 1 ∷ []) ∷ [] in
    let here : Contains open_it (p, 1 ∷ []) = (0, omega arith, ap (λ (n : ℕ). (n, 1 ∷ [])) at) in (
      Closing shut p ++ (fill ++ open_it),
      third ∙ ap (λ (l : List Write). l ++ open_it) second ∙ ap (λ (l : List Write). (l ++ fill) ++ open_it) first ∙ simp append_assoc,
      Contains-append_right (Closing shut p) (fill ++ open_it) (p, 1 ∷ []) (Contains-append_right fill open_it (p, 1 ∷ []) here),
    )

pub closing_last : (old now : List Write) (shut : Bool) (p s : ℕ) → shut ≡ false → now ≡ old ++ Closing shut p → Last now (s, 1 ∷ []) → ⊥
closing_last old now true p s lax is has = absurd (cc lax)
closing_last old now false p s lax is has = other_byte p s (last_is old has.0 (p, 0 ∷ []) (s, 1 ∷ []) (sym is ∙ has.1))

pub filling_last : (mid now : List Write) (q s : ℕ) (frame : List ℕ) → now ≡ mid ++ (q + 1, frame) ∷ [] → q ≡ s → Last now (s, 1 ∷ []) → ⊥
filling_last mid now q s frame is at has = other_place s q frame (1 ∷ []) at (last_is mid has.0 (q + 1, frame) (s, 1 ∷ []) (sym is ∙ has.1))

pub opening_last : (next now : List Write) (r s : ℕ) → now ≡ next ++ (r, 1 ∷ []) ∷ [] → r ≡ s → Last now (s, 1 ∷ [])
opening_last next now r s is at = (next, is ∙ ap (λ (n : ℕ). next ++ (n, 1 ∷ []) ∷ []) at)
