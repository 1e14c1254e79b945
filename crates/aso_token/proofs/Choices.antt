-- Readers that choose by the front tokens.
use Rattle.std.proofs.Common.{◌≡◌, Bool, true, false, List, [], ◌∷◌, ◌++◌, length, Ok, Err, inl, inr, refl, sym, ◌∙◌, ap, arith, length-append, if◌then◌else◌, ◌&&◌, ⊎_elim}
use Rattle.aso_token.specs.declared.token.Token.{Token}
use Rattle.aso_token.specs.Lang.{Lang, Or, Empty, Begins}
use Rattle.aso_token.specs.Reads.{Read, begins, second, read_if, read_empty, begin, read_if_two}
use Rattle.aso_token.proofs.Laws.{Halts, Law, cancel, chosen, good, if_false, if_true, ok_err, ok_is, same_head}

-- ---- nothing

pub empty_law : {A : Type 0} (b : A) (goes : Token → Bool) → Law (Empty b) goes (read_empty b)
empty_law {A} b goes = record {
  found = λ ts x e. ([], ap (λ (z : A × List Token). z.1) (ok_is (b, ts) x e), (refl, ap (λ (z : A × List Token). z.0) (ok_is (b, ts) x e)));
  stops = λ ts rest e. ok_err (b, ts) rest e;
  whole = λ front a rest h _. ap (λ z. good (b, z ++ rest)) h.0 ∙ ap (λ z. good (z, rest)) h.1;
  near_ok = λ front us t rest other a e.
      let same = ok_is (b, front ++ t ∷ rest) (a, us ++ t ∷ rest) e in
      let fronts = cancel front us (t ∷ rest) (ap (λ (z : A × List Token). z.1) same) in
      ap (λ z. good (b, z ++ t ∷ other)) fronts ∙ ap (λ (z : A × List Token). good (z.0, us ++ t ∷ other)) same;
  near_err = λ front t rest other e. ok_err (b, front ++ t ∷ rest) (t ∷ rest) e;
}

-- ---- a choice by the front token

module _ {A : Type 0} (P Q : Lang A) (g test : Token → Bool) (r s : List Token → Read A) (p : Law P g r) (q : Law Q g s) where
  or_found : (ts : List Token) (x : A × List Token) → read_if test r s ts ≡ Ok x → (front : List Token) × (ts ≡ front ++ x.1) × Or P Q front x.0
  or_found ts x e =
      ⊎_elim
      (λ (h : (begins test ts ≡ true) × (r ts ≡ Ok x)). let f = p.found ts x h.1 in (f.0, f.1, inl f.2))
      (λ (h : (begins test ts ≡ false) × (s ts ≡ Ok x)). let f = q.found ts x h.1 in (f.0, f.1, inr f.2))
      (chosen (begins test ts) (r ts) (s ts) (Ok x) e)

  or_stops : (ts rest : List Token) → read_if test r s ts ≡ Err rest → (front : List Token) × (ts ≡ front ++ rest) × Begins (Or P Q) front
  or_stops ts rest e =
      ⊎_elim
      (λ (h : (begins test ts ≡ true) × (r ts ≡ Err rest)). let f = p.stops ts rest h.1 in (f.0, f.1, (f.2.0, f.2.1, inl f.2.2)))
      (λ (h : (begins test ts ≡ false) × (s ts ≡ Err rest)). let f = q.stops ts rest h.1 in (f.0, f.1, (f.2.0, f.2.1, inr f.2.2)))
      (chosen (begins test ts) (r ts) (s ts) (Err rest) e)

  or_near_ok : (front us : List Token) (t : Token) (rest other : List Token) (a : A) → read_if test r s (front ++ t ∷ rest) ≡ Ok (a, us ++ t ∷ rest) → read_if test r s (front ++ t ∷ other) ≡ Ok (a, us ++ t ∷ other)
  or_near_ok front us t rest other a e =
      let ts = front ++ t ∷ rest in
      let to = front ++ t ∷ other in
      let head = sym (same_head test front t rest other) in
      ⊎_elim
      (λ (h : (begins test ts ≡ true) × (r ts ≡ Ok (a, us ++ t ∷ rest))). if_true (begins test to) (r to) (s to) (head ∙ h.0) ∙ p.near_ok front us t rest other a h.1)
      (λ (h : (begins test ts ≡ false) × (s ts ≡ Ok (a, us ++ t ∷ rest))). if_false (begins test to) (r to) (s to) (head ∙ h.0) ∙ q.near_ok front us t rest other a h.1)
      (chosen (begins test ts) (r ts) (s ts) (Ok (a, us ++ t ∷ rest)) e)

  or_near_err : (front : List Token) (t : Token) (rest other : List Token) → read_if test r s (front ++ t ∷ rest) ≡ Err (t ∷ rest) → read_if test r s (front ++ t ∷ other) ≡ Err (t ∷ other)
  or_near_err front t rest other e =
      let ts = front ++ t ∷ rest in
      let to = front ++ t ∷ other in
      let head = sym (same_head test front t rest other) in
      ⊎_elim
      (λ (h : (begins test ts ≡ true) × (r ts ≡ Err (t ∷ rest))). if_true (begins test to) (r to) (s to) (head ∙ h.0) ∙ p.near_err front t rest other h.1)
      (λ (h : (begins test ts ≡ false) × (s ts ≡ Err (t ∷ rest))). if_false (begins test to) (r to) (s to) (head ∙ h.0) ∙ q.near_err front t rest other h.1)
      (chosen (begins test ts) (r ts) (s ts) (Err (t ∷ rest)) e)

  pub or_law : ((ts : List Token) (a : A) (rest : List Token) → P ts a → begins test (ts ++ rest) ≡ true)
      → ((ts : List Token) (a : A) (rest : List Token) → Q ts a → Halts g rest → begins test (ts ++ rest) ≡ false)
      → Law (Or P Q) g (read_if test r s)
  or_law first second = record {
    found = or_found;
    stops = or_stops;
    near_ok = or_near_ok;
    near_err = or_near_err;
    whole = λ front a rest h halts. ⊎_elim
        (λ (h : P front a). if_true (begins test (front ++ rest)) (r (front ++ rest)) (s (front ++ rest)) (first front a rest h) ∙ p.whole front a rest h halts)
        (λ (h : Q front a). if_false (begins test (front ++ rest)) (r (front ++ rest)) (s (front ++ rest)) (second front a rest h halts) ∙ q.whole front a rest h halts)
        h;
  }

-- ---- a choice by the two front tokens

begin_same : (f h : Token → Bool) (x : Token) (front : List Token) (t : Token) (rest other : List Token) → begin f h ((x ∷ front) ++ t ∷ rest) ≡ begin f h ((x ∷ front) ++ t ∷ other)
begin_same f h x [] t rest other = refl
begin_same f h x (y ∷ ys) t rest other = refl

two_true : (a b : Bool) → (a && b) ≡ true → (a ≡ true) × (b ≡ true)
two_true true b e = (refl, e)
two_true false b e = absurd (let n : ⊥ = cc in n)

module _ {A : Type 0} (P Q : Lang A) (g f h : Token → Bool) (r s : List Token → Read A) (p : Law P g r) (q : Law Q g s)
    (p_begins : (ts : List Token) (a : A) (rest : List Token) → P ts a → begin f h (ts ++ rest) ≡ true)
    (q_begins : (ts : List Token) (a : A) (rest : List Token) → Q ts a → Halts g rest → begin f h (ts ++ rest) ≡ false)
    (q_some : (a : A) → Q [] a → ⊥)
    (q_goes : (n m : Token) (rest : List Token) → f n ≡ true → h m ≡ true → (b : A) × (s (n ∷ m ∷ rest) ≡ Ok (b, m ∷ rest)))
    (p_goes : (n m : Token) (rest : List Token) → f n ≡ true → h m ≡ true → r (n ∷ m ∷ rest) ≡ Err (n ∷ m ∷ rest) → ⊥) where
  two_ok : (ts : List Token) (x : A × List Token) → read_if_two f h r s ts ≡ Ok x → (front : List Token) × (ts ≡ front ++ x.1) × Or P Q front x.0
  two_ok ts x e =
      ⊎_elim
      (λ (k : (begin f h ts ≡ true) × (r ts ≡ Ok x)). let f = p.found ts x k.1 in (f.0, f.1, inl f.2))
      (λ (k : (begin f h ts ≡ false) × (s ts ≡ Ok x)). let f = q.found ts x k.1 in (f.0, f.1, inr f.2))
      (chosen (begin f h ts) (r ts) (s ts) (Ok x) e)

  two_stops : (ts rest : List Token) → read_if_two f h r s ts ≡ Err rest → (front : List Token) × (ts ≡ front ++ rest) × Begins (Or P Q) front
  two_stops ts rest e =
      ⊎_elim
      (λ (k : (begin f h ts ≡ true) × (r ts ≡ Err rest)). let f = p.stops ts rest k.1 in (f.0, f.1, (f.2.0, f.2.1, inl f.2.2)))
      (λ (k : (begin f h ts ≡ false) × (s ts ≡ Err rest)). let f = q.stops ts rest k.1 in (f.0, f.1, (f.2.0, f.2.1, inr f.2.2)))
      (chosen (begin f h ts) (r ts) (s ts) (Err rest) e)

  never_empty : (a : A) → Or P Q [] a → ⊥
  never_empty a k = ⊎_elim (λ (k : P [] a). let e : false ≡ true = p_begins [] a [] k in let n : ⊥ = cc in n) (λ (k : Q [] a). q_some a k) k

  nothing_taken : (us : List Token) (t : Token) (rest : List Token) (a : A) (front : List Token) → t ∷ rest ≡ front ++ (us ++ t ∷ rest) → Or P Q front a → ⊥
  nothing_taken us t rest a [] e k = never_empty a k
  nothing_taken us t rest a (x ∷ front) e k = omega (arith, ap length e, length-append front (us ++ t ∷ rest), length-append us (t ∷ rest))

  two_near_ok : (front us : List Token) (t : Token) (rest other : List Token) (a : A) → read_if_two f h r s (front ++ t ∷ rest) ≡ Ok (a, us ++ t ∷ rest) → read_if_two f h r s (front ++ t ∷ other) ≡ Ok (a, us ++ t ∷ other)
  two_near_ok [] us t rest other a e = let k = two_ok (t ∷ rest) (a, us ++ t ∷ rest) e in absurd (nothing_taken us t rest a k.0 k.1 k.2)
  two_near_ok (x ∷ front) us t rest other a e =
      let ts = (x ∷ front) ++ t ∷ rest in
      let to = (x ∷ front) ++ t ∷ other in
      let head = sym (begin_same f h x front t rest other) in
      ⊎_elim
      (λ (k : (begin f h ts ≡ true) × (r ts ≡ Ok (a, us ++ t ∷ rest))). if_true (begin f h to) (r to) (s to) (head ∙ k.0) ∙ p.near_ok (x ∷ front) us t rest other a k.1)
      (λ (k : (begin f h ts ≡ false) × (s ts ≡ Ok (a, us ++ t ∷ rest))). if_false (begin f h to) (r to) (s to) (head ∙ k.0) ∙ q.near_ok (x ∷ front) us t rest other a k.1)
      (chosen (begin f h ts) (r ts) (s ts) (Ok (a, us ++ t ∷ rest)) e)

  p_front : (t : Token) (rest : List Token) → begin f h (t ∷ rest) ≡ true → r (t ∷ rest) ≡ Err (t ∷ rest) → ⊥
  p_front t [] b e = let k = two_true (f t) false b in let k1 : false ≡ true = k.1 in let n : ⊥ = cc in n
  p_front t (m ∷ rest) b e = let k = two_true (f t) (h m) b in p_goes t m rest k.0 k.1 e

  q_front : (t : Token) (other : List Token) (b : Bool) → begin f h (t ∷ other) ≡ b → s (t ∷ other) ≡ Err (t ∷ other) → (if b then r (t ∷ other) else s (t ∷ other)) ≡ Err (t ∷ other)
  q_front t other false b e = e
  q_front t [] true b e = let k = two_true (f t) false b in let k1 : false ≡ true = k.1 in absurd (let n : ⊥ = cc in n)
  q_front t (m ∷ other) true b e = let k = two_true (f t) (h m) b in let z = q_goes t m other k.0 k.1 in ok_err (z.0, m ∷ other) (t ∷ m ∷ other) (sym z.1 ∙ e)

  two_near_err : (front : List Token) (t : Token) (rest other : List Token) → read_if_two f h r s (front ++ t ∷ rest) ≡ Err (t ∷ rest) → read_if_two f h r s (front ++ t ∷ other) ≡ Err (t ∷ other)
  two_near_err [] t rest other e =
      ⊎_elim
      (λ (k : (begin f h (t ∷ rest) ≡ true) × (r (t ∷ rest) ≡ Err (t ∷ rest))). absurd (p_front t rest k.0 k.1))
      (λ (k : (begin f h (t ∷ rest) ≡ false) × (s (t ∷ rest) ≡ Err (t ∷ rest))). q_front t other (begin f h (t ∷ other)) refl (q.near_err [] t rest other k.1))
      (chosen (begin f h (t ∷ rest)) (r (t ∷ rest)) (s (t ∷ rest)) (Err (t ∷ rest)) e)
  two_near_err (x ∷ front) t rest other e =
      let ts = (x ∷ front) ++ t ∷ rest in
      let to = (x ∷ front) ++ t ∷ other in
      let head = sym (begin_same f h x front t rest other) in
      ⊎_elim
      (λ (k : (begin f h ts ≡ true) × (r ts ≡ Err (t ∷ rest))). if_true (begin f h to) (r to) (s to) (head ∙ k.0) ∙ p.near_err (x ∷ front) t rest other k.1)
      (λ (k : (begin f h ts ≡ false) × (s ts ≡ Err (t ∷ rest))). if_false (begin f h to) (r to) (s to) (head ∙ k.0) ∙ q.near_err (x ∷ front) t rest other k.1)
      (chosen (begin f h ts) (r ts) (s ts) (Err (t ∷ rest)) e)

  pub or_two_law : Law (Or P Q) g (read_if_two f h r s)
  or_two_law = record {
    found = two_ok;
    stops = two_stops;
    near_ok = two_near_ok;
    near_err = two_near_err;
    whole = λ front a rest k halts. ⊎_elim
        (λ (k : P front a). if_true (begin f h (front ++ rest)) (r (front ++ rest)) (s (front ++ rest)) (p_begins front a rest k) ∙ p.whole front a rest k halts)
        (λ (k : Q front a). if_false (begin f h (front ++ rest)) (r (front ++ rest)) (s (front ++ rest)) (q_begins front a rest k halts) ∙ q.whole front a rest k halts)
        k;
  }
