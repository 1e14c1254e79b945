-- Readers of one text behind another, and of a value made of what is read.
use Rattle.std.proofs.Common.{◌≡◌, Bool, false, List, [], ◌∷◌, ◌++◌, Ok, Err, refl, sym, ◌∙◌, ap, subst, append_assoc, ⊎_elim}
use Rattle.aso_token.specs.declared.token.Token.{Token}
use Rattle.aso_token.specs.Lang.{Lang, ◌▷◌, ◌◁◌, Then, Pick, Makes, Begins}
use Rattle.aso_token.specs.Reads.{Read, ◌>>=◌, paired, second, made, read_then, picked, read_pick, read_as, ◌▸◌, ◌◂◌}
use Rattle.aso_token.proofs.Laws.{Halts, Law, bad, bind_err, bind_ok, bound, err_is, failed, good, never_halts, ok_err, ok_is}

second_err : {A B : Type 0} (r : Read B) (a : A) (rest : List Token) → (r >>= paired a) ≡ Err rest → r ≡ Err rest
second_err (Ok y) a rest e = ok_err ((a, y.0), y.1) rest e
second_err {A} {B} (Err w) a rest e = ap (bad {A = B}) (err_is {A = A × B} w rest e)

-- the front that two readers took, where the second begins at what the first left
joined : (ts xs mid ys rest : List Token) → ts ≡ xs ++ mid → mid ≡ ys ++ rest → ts ≡ (xs ++ ys) ++ rest
joined ts xs mid ys rest e f = e ∙ ap (λ z. xs ++ z) f ∙ sym (append_assoc xs ys rest)

module _ {A B : Type 0} (P : Lang A) (Q : Lang B) (gp gq : Token → Bool) (r : List Token → Read A) (s : List Token → Read B) (p : Law P gp r) (q : Law Q gq s) where
  then_found : (ts : List Token) (v : (A × B) × List Token) → read_then r s ts ≡ Ok v → (front : List Token) × (ts ≡ front ++ v.1) × Then P Q front v.0
  then_found ts v e =
      let a = bind_ok (r ts) (second s) v e in
      let x : A × List Token = a.0 in
      let b = bind_ok (s x.1) (paired x.0) v a.2 in
      let y : B × List Token = b.0 in
      let fa = p.found ts x a.1 in
      let fb = q.found x.1 y b.1 in
      let F : (A × B) × List Token → Type 0 = λ v. (front : List Token) × (ts ≡ front ++ v.1) × Then P Q front v.0 in
      subst F (ok_is ((x.0, y.0), y.1) v b.2) (fa.0 ++ fb.0, joined ts fa.0 x.1 fb.0 y.1 fa.1 fb.1, (fa.0, fb.0, refl, fa.2, fb.2))

  then_stops_second : (ts rest : List Token) (x : A × List Token) → r ts ≡ Ok x → second s x ≡ Err rest → (front : List Token) × (ts ≡ front ++ rest) × Begins (Then P Q) front
  then_stops_second ts rest x is k =
      let f = p.found ts x is in
      let g = q.stops x.1 rest (second_err (s x.1) x.0 rest k) in
      (f.0 ++ g.0, joined ts f.0 x.1 g.0 rest f.1 g.1, (g.2.0, (x.0, g.2.1), (f.0, g.0 ++ g.2.0, append_assoc f.0 g.0 g.2.0, f.2, g.2.2)))

  then_stops : (ys : List Token) × (b : B) × Q ys b → (ts rest : List Token) → read_then r s ts ≡ Err rest → (front : List Token) × (ts ≡ front ++ rest) × Begins (Then P Q) front
  then_stops some ts rest e =
      ⊎_elim
      (λ (h : r ts ≡ Err rest).
      let f = p.stops ts rest h in
      (f.0, f.1, (f.2.0 ++ some.0, (f.2.1, some.1), (f.0 ++ f.2.0, some.0, sym (append_assoc f.0 f.2.0 some.0), f.2.2, some.2))))
      (λ (h : (x : A × List Token) × (r ts ≡ Ok x) × (second s x ≡ Err rest)). then_stops_second ts rest h.0 h.1 h.2)
      (bind_err (r ts) (second s) rest e)

  then_whole : ((ys : List Token) (b : B) (rest : List Token) → Q ys b → Halts gq rest → Halts gp (ys ++ rest)) → (front : List Token) (v : A × B) (rest : List Token) → Then P Q front v → Halts gq rest → read_then r s (front ++ rest) ≡ Ok (v, rest)
  then_whole next front v rest h halts =
      let xs = h.0 in
      let ys = h.1 in
      let first : r (front ++ rest) ≡ Ok (v.0, ys ++ rest) =
      ap (λ z. r (z ++ rest)) h.2 ∙ ap r (append_assoc xs ys rest) ∙ p.whole xs v.0 (ys ++ rest) h.3 (next ys v.1 rest h.4 halts) in
      bound (r (front ++ rest)) (second s) (v.0, ys ++ rest) first
      ∙ bound (s (ys ++ rest)) (paired v.0) (v.1, rest) (q.whole ys v.1 rest h.4 halts)

  -- what the first took and left, beside what the second left
  first_near : (front us : List Token) (t : Token) (rest other : List Token) (x : A × List Token) (mine : List Token) → r (front ++ t ∷ rest) ≡ Ok x → x.1 ≡ mine ++ (us ++ t ∷ rest) → r (front ++ t ∷ other) ≡ Ok (x.0, mine ++ (us ++ t ∷ other))
  first_near front us t rest other x mine e is =
      let to : x ≡ (x.0, (mine ++ us) ++ t ∷ rest) = ap (λ (z : List Token). let v : A × List Token = (x.0, z) in v) (is ∙ sym (append_assoc mine us (t ∷ rest))) in
      p.near_ok front (mine ++ us) t rest other x.0 (e ∙ ap good to) ∙ ap (λ (z : List Token). good {A = A} (x.0, z)) (append_assoc mine us (t ∷ other))

  then_near_ok : (front us : List Token) (t : Token) (rest other : List Token) (v : A × B) → read_then r s (front ++ t ∷ rest) ≡ Ok (v, us ++ t ∷ rest) → read_then r s (front ++ t ∷ other) ≡ Ok (v, us ++ t ∷ other)
  then_near_ok front us t rest other v e =
      let a = bind_ok (r (front ++ t ∷ rest)) (second s) (v, us ++ t ∷ rest) e in
      let x : A × List Token = a.0 in
      let b = bind_ok (s x.1) (paired x.0) (v, us ++ t ∷ rest) a.2 in
      let y : B × List Token = b.0 in
      let same = ok_is ((x.0, y.0), y.1) (v, us ++ t ∷ rest) b.2 in
      let left : y.1 ≡ us ++ t ∷ rest = ap (λ (z : (A × B) × List Token). z.1) same in
      let value : (x.0, y.0) ≡ v = ap (λ (z : (A × B) × List Token). z.0) same in
      let f = q.found x.1 y b.1 in
      let mid : x.1 ≡ f.0 ++ (us ++ t ∷ rest) = f.1 ∙ ap (λ z. f.0 ++ z) left in
      let one = first_near front us t rest other x f.0 a.1 mid in
      let tail : s ((f.0 ++ us) ++ t ∷ rest) ≡ Ok (y.0, us ++ t ∷ rest) =
      ap s (append_assoc f.0 us (t ∷ rest) ∙ sym mid) ∙ b.1 ∙ ap (λ (z : List Token). good {A = B} (y.0, z)) left in
      let two : s (f.0 ++ (us ++ t ∷ other)) ≡ Ok (y.0, us ++ t ∷ other) =
      ap s (sym (append_assoc f.0 us (t ∷ other))) ∙ q.near_ok (f.0 ++ us) us t rest other y.0 tail in
      bound (r (front ++ t ∷ other)) (second s) (x.0, f.0 ++ (us ++ t ∷ other)) one
      ∙ bound (s (f.0 ++ (us ++ t ∷ other))) (paired x.0) (y.0, us ++ t ∷ other) two
      ∙ ap (λ (z : A × B). good {A = A × B} (z, us ++ t ∷ other)) value

  then_near_err : (front : List Token) (t : Token) (rest other : List Token) → read_then r s (front ++ t ∷ rest) ≡ Err (t ∷ rest) → read_then r s (front ++ t ∷ other) ≡ Err (t ∷ other)
  then_near_err front t rest other e =
      ⊎_elim
      (λ (h : r (front ++ t ∷ rest) ≡ Err (t ∷ rest)). failed (r (front ++ t ∷ other)) (second s) (t ∷ other) (p.near_err front t rest other h))
      (λ (h : (x : A × List Token) × (r (front ++ t ∷ rest) ≡ Ok x) × (second s x ≡ Err (t ∷ rest))).
      let x : A × List Token = h.0 in
      let k : s x.1 ≡ Err (t ∷ rest) = second_err (s x.1) x.0 (t ∷ rest) h.2 in
      let f = q.stops x.1 (t ∷ rest) k in
      let one = first_near front [] t rest other x f.0 h.1 f.1 in
      let two = q.near_err f.0 t rest other (ap s (sym f.1) ∙ k) in
      bound (r (front ++ t ∷ other)) (second s) (x.0, f.0 ++ t ∷ other) one ∙ failed (s (f.0 ++ t ∷ other)) (paired x.0) (t ∷ other) two)
      (bind_err (r (front ++ t ∷ rest)) (second s) (t ∷ rest) e)

  pub then_law : (ys : List Token) × (b : B) × Q ys b → ((ys : List Token) (b : B) (rest : List Token) → Q ys b → Halts gq rest → Halts gp (ys ++ rest)) → Law (Then P Q) gq (read_then r s)
  then_law some next = record { found = then_found; stops = then_stops some; whole = then_whole next; near_ok = then_near_ok; near_err = then_near_err }

-- ---- one, and what its value says must follow

module _ {A B : Type 0} (P : Lang A) (Q : A → Lang B) (gp gq : Token → Bool) (r : List Token → Read A) (s : A → List Token → Read B) (p : Law P gp r) (q : (a : A) → Law (Q a) gq (s a)) where
  pick_found : (ts : List Token) (v : (A × B) × List Token) → read_pick r s ts ≡ Ok v → (front : List Token) × (ts ≡ front ++ v.1) × Pick P Q front v.0
  pick_found ts v e =
      let a = bind_ok (r ts) (picked s) v e in
      let x : A × List Token = a.0 in
      let b = bind_ok (s x.0 x.1) (paired x.0) v a.2 in
      let y : B × List Token = b.0 in
      let fa = p.found ts x a.1 in
      let fb = (q x.0).found x.1 y b.1 in
      let F : (A × B) × List Token → Type 0 = λ v. (front : List Token) × (ts ≡ front ++ v.1) × Pick P Q front v.0 in
      subst F (ok_is ((x.0, y.0), y.1) v b.2) (fa.0 ++ fb.0, joined ts fa.0 x.1 fb.0 y.1 fa.1 fb.1, (fa.0, fb.0, refl, fa.2, fb.2))

  pick_stops_after : (ts rest : List Token) (x : A × List Token) → r ts ≡ Ok x → picked s x ≡ Err rest → (front : List Token) × (ts ≡ front ++ rest) × Begins (Pick P Q) front
  pick_stops_after ts rest x is k =
      let f = p.found ts x is in
      let g = (q x.0).stops x.1 rest (second_err (s x.0 x.1) x.0 rest k) in
      (f.0 ++ g.0, joined ts f.0 x.1 g.0 rest f.1 g.1, (g.2.0, (x.0, g.2.1), (f.0, g.0 ++ g.2.0, append_assoc f.0 g.0 g.2.0, f.2, g.2.2)))

  pick_stops : ((a : A) → (ys : List Token) × (b : B) × Q a ys b) → (ts rest : List Token) → read_pick r s ts ≡ Err rest → (front : List Token) × (ts ≡ front ++ rest) × Begins (Pick P Q) front
  pick_stops some ts rest e =
      ⊎_elim
      (λ (h : r ts ≡ Err rest).
      let f = p.stops ts rest h in
      let z = some f.2.1 in (f.0, f.1, (f.2.0 ++ z.0, (f.2.1, z.1), (f.0 ++ f.2.0, z.0, sym (append_assoc f.0 f.2.0 z.0), f.2.2, z.2))))
      (λ (h : (x : A × List Token) × (r ts ≡ Ok x) × (picked s x ≡ Err rest)). pick_stops_after ts rest h.0 h.1 h.2)
      (bind_err (r ts) (picked s) rest e)

  pick_whole : ((a : A) (ys : List Token) (b : B) (rest : List Token) → Q a ys b → Halts gq rest → Halts gp (ys ++ rest)) → (front : List Token) (v : A × B) (rest : List Token) → Pick P Q front v → Halts gq rest → read_pick r s (front ++ rest) ≡ Ok (v, rest)
  pick_whole next front v rest h halts =
      let xs = h.0 in
      let ys = h.1 in
      let first : r (front ++ rest) ≡ Ok (v.0, ys ++ rest) =
      ap (λ z. r (z ++ rest)) h.2 ∙ ap r (append_assoc xs ys rest) ∙ p.whole xs v.0 (ys ++ rest) h.3 (next v.0 ys v.1 rest h.4 halts) in
      bound (r (front ++ rest)) (picked s) (v.0, ys ++ rest) first
      ∙ bound (s v.0 (ys ++ rest)) (paired v.0) (v.1, rest) ((q v.0).whole ys v.1 rest h.4 halts)

  -- what the first took and left, beside what the second left
  pick_first : (front us : List Token) (t : Token) (rest other : List Token) (x : A × List Token) (mine : List Token) → r (front ++ t ∷ rest) ≡ Ok x → x.1 ≡ mine ++ (us ++ t ∷ rest) → r (front ++ t ∷ other) ≡ Ok (x.0, mine ++ (us ++ t ∷ other))
  pick_first front us t rest other x mine e is =
      let to : x ≡ (x.0, (mine ++ us) ++ t ∷ rest) = ap (λ (z : List Token). let v : A × List Token = (x.0, z) in v) (is ∙ sym (append_assoc mine us (t ∷ rest))) in
      p.near_ok front (mine ++ us) t rest other x.0 (e ∙ ap good to) ∙ ap (λ (z : List Token). good {A = A} (x.0, z)) (append_assoc mine us (t ∷ other))

  pick_near_ok : (front us : List Token) (t : Token) (rest other : List Token) (v : A × B) → read_pick r s (front ++ t ∷ rest) ≡ Ok (v, us ++ t ∷ rest) → read_pick r s (front ++ t ∷ other) ≡ Ok (v, us ++ t ∷ other)
  pick_near_ok front us t rest other v e =
      let a = bind_ok (r (front ++ t ∷ rest)) (picked s) (v, us ++ t ∷ rest) e in
      let x : A × List Token = a.0 in
      let b = bind_ok (s x.0 x.1) (paired x.0) (v, us ++ t ∷ rest) a.2 in
      let y : B × List Token = b.0 in
      let same = ok_is ((x.0, y.0), y.1) (v, us ++ t ∷ rest) b.2 in
      let left : y.1 ≡ us ++ t ∷ rest = ap (λ (z : (A × B) × List Token). z.1) same in
      let value : (x.0, y.0) ≡ v = ap (λ (z : (A × B) × List Token). z.0) same in
      let f = (q x.0).found x.1 y b.1 in
      let mid : x.1 ≡ f.0 ++ (us ++ t ∷ rest) = f.1 ∙ ap (λ z. f.0 ++ z) left in
      let one = pick_first front us t rest other x f.0 a.1 mid in
      let tail : s x.0 ((f.0 ++ us) ++ t ∷ rest) ≡ Ok (y.0, us ++ t ∷ rest) =
      ap (s x.0) (append_assoc f.0 us (t ∷ rest) ∙ sym mid) ∙ b.1 ∙ ap (λ (z : List Token). good {A = B} (y.0, z)) left in
      let two : s x.0 (f.0 ++ (us ++ t ∷ other)) ≡ Ok (y.0, us ++ t ∷ other) =
      ap (s x.0) (sym (append_assoc f.0 us (t ∷ other))) ∙ (q x.0).near_ok (f.0 ++ us) us t rest other y.0 tail in
      bound (r (front ++ t ∷ other)) (picked s) (x.0, f.0 ++ (us ++ t ∷ other)) one
      ∙ bound (s x.0 (f.0 ++ (us ++ t ∷ other))) (paired x.0) (y.0, us ++ t ∷ other) two
      ∙ ap (λ (z : A × B). good {A = A × B} (z, us ++ t ∷ other)) value

  pick_near_err : (front : List Token) (t : Token) (rest other : List Token) → read_pick r s (front ++ t ∷ rest) ≡ Err (t ∷ rest) → read_pick r s (front ++ t ∷ other) ≡ Err (t ∷ other)
  pick_near_err front t rest other e =
      ⊎_elim
      (λ (h : r (front ++ t ∷ rest) ≡ Err (t ∷ rest)). failed (r (front ++ t ∷ other)) (picked s) (t ∷ other) (p.near_err front t rest other h))
      (λ (h : (x : A × List Token) × (r (front ++ t ∷ rest) ≡ Ok x) × (picked s x ≡ Err (t ∷ rest))).
      let x : A × List Token = h.0 in
      let k : s x.0 x.1 ≡ Err (t ∷ rest) = second_err (s x.0 x.1) x.0 (t ∷ rest) h.2 in
      let f = (q x.0).stops x.1 (t ∷ rest) k in
      let one = pick_first front [] t rest other x f.0 h.1 f.1 in
      let two = (q x.0).near_err f.0 t rest other (ap (s x.0) (sym f.1) ∙ k) in
      bound (r (front ++ t ∷ other)) (picked s) (x.0, f.0 ++ t ∷ other) one ∙ failed (s x.0 (f.0 ++ t ∷ other)) (paired x.0) (t ∷ other) two)
      (bind_err (r (front ++ t ∷ rest)) (picked s) (t ∷ rest) e)

  pub pick_law : ((a : A) → (ys : List Token) × (b : B) × Q a ys b) → ((a : A) (ys : List Token) (b : B) (rest : List Token) → Q a ys b → Halts gq rest → Halts gp (ys ++ rest)) → Law (Pick P Q) gq (read_pick r s)
  pick_law some next = record { found = pick_found; stops = pick_stops some; whole = pick_whole next; near_ok = pick_near_ok; near_err = pick_near_err }

-- ---- a value made of what is read

module _ {A B : Type 0} (P : Lang A) (goes : Token → Bool) (r : List Token → Read A) (f : A → B) (p : Law P goes r) where
  made_err : (r : Read A) (rest : List Token) → (r >>= made f) ≡ Err rest → r ≡ Err rest
  made_err (Ok y) rest e = ok_err (f y.0, y.1) rest e
  made_err (Err w) rest e = ap (bad {A = A}) (err_is {A = B} w rest e)

  as_found : (ts : List Token) (v : B × List Token) → read_as r f ts ≡ Ok v → (front : List Token) × (ts ≡ front ++ v.1) × Makes P f front v.0
  as_found ts v e =
      let a = bind_ok (r ts) (made f) v e in
      let fa = p.found ts a.0 a.1 in
      let F : B × List Token → Type 0 = λ v. (front : List Token) × (ts ≡ front ++ v.1) × Makes P f front v.0 in
      subst F (ok_is (f a.0.0, a.0.1) v a.2) (fa.0, fa.1, (a.0.0, fa.2, refl))

  as_stops : (ts rest : List Token) → read_as r f ts ≡ Err rest → (front : List Token) × (ts ≡ front ++ rest) × Begins (Makes P f) front
  as_stops ts rest e =
      let h = p.stops ts rest (made_err (r ts) rest e) in
      (h.0, h.1, (h.2.0, f h.2.1, (h.2.1, h.2.2, refl)))

  as_whole : (front : List Token) (b : B) (rest : List Token) → Makes P f front b → Halts goes rest → read_as r f (front ++ rest) ≡ Ok (b, rest)
  as_whole front b rest h halts = bound (r (front ++ rest)) (made f) (h.0, rest) (p.whole front h.0 rest h.1 halts) ∙ ap (λ z. good (z, rest)) h.2

  as_near_ok : (front us : List Token) (t : Token) (rest other : List Token) (b : B) → read_as r f (front ++ t ∷ rest) ≡ Ok (b, us ++ t ∷ rest) → read_as r f (front ++ t ∷ other) ≡ Ok (b, us ++ t ∷ other)
  as_near_ok front us t rest other b e =
      let a = bind_ok (r (front ++ t ∷ rest)) (made f) (b, us ++ t ∷ rest) e in
      let x : A × List Token = a.0 in
      let same = ok_is (f x.0, x.1) (b, us ++ t ∷ rest) a.2 in
      let left : x.1 ≡ us ++ t ∷ rest = ap (λ (z : B × List Token). z.1) same in
      let one = p.near_ok front us t rest other x.0 (a.1 ∙ ap (λ (z : List Token). good {A = A} (x.0, z)) left) in
      bound (r (front ++ t ∷ other)) (made f) (x.0, us ++ t ∷ other) one ∙ ap (λ (z : B × List Token). good {A = B} (z.0, us ++ t ∷ other)) same

  as_near_err : (front : List Token) (t : Token) (rest other : List Token) → read_as r f (front ++ t ∷ rest) ≡ Err (t ∷ rest) → read_as r f (front ++ t ∷ other) ≡ Err (t ∷ other)
  as_near_err front t rest other e = failed (r (front ++ t ∷ other)) (made f) (t ∷ other) (p.near_err front t rest other (made_err (r (front ++ t ∷ rest)) (t ∷ rest) e))

  pub as_law : Law (Makes P f) goes (read_as r f)
  as_law = record { found = as_found; stops = as_stops; whole = as_whole; near_ok = as_near_ok; near_err = as_near_err }

-- what nothing can continue, and what follows it
abbrev pub Never : Token → Bool
Never t = false

pub then_never : {A B : Type 0} (P : Lang A) (Q : Lang B) (gq : Token → Bool) (r : List Token → Read A) (s : List Token → Read B) → Law P Never r → Law Q gq s → (ys : List Token) × (b : B) × Q ys b → Law (Then P Q) gq (read_then r s)
then_never P Q gq r s p q some = then_law P Q Never gq r s p q some (λ ys b rest h halts. never_halts (ys ++ rest))

pub right_never : {A B : Type 0} (P : Lang A) (Q : Lang B) (gq : Token → Bool) (r : List Token → Read A) (s : List Token → Read B) → Law P Never r → Law Q gq s → (ys : List Token) × (b : B) × Q ys b → Law (P ▷ Q) gq (r ▸ s)
right_never P Q gq r s p q some = as_law (Then P Q) gq (read_then r s) (λ v. v.1) (then_never P Q gq r s p q some)

pub left_never : {A B : Type 0} (P : Lang A) (Q : Lang B) (gq : Token → Bool) (r : List Token → Read A) (s : List Token → Read B) → Law P Never r → Law Q gq s → (ys : List Token) × (b : B) × Q ys b → Law (P ◁ Q) gq (r ◂ s)
left_never P Q gq r s p q some = as_law (Then P Q) gq (read_then r s) (λ v. v.0) (then_never P Q gq r s p q some)
