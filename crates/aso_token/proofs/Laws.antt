-- What a reader owes its language, and the laws that stand alone.
use Rattle.std.proofs.Common.{◌≡◌, Bool, true, false, List, [], ◌∷◌, ◌++◌, length, Option, Some, None, Result, Ok, Err, ◌⊎◌, inl, inr, refl, sym, ◌∙◌, ap, subst, arith, length-append, if◌then◌else◌, ◌||◌, is_some, option_map, map}
use Rattle.aso_token.specs.declared.token.Token.{Token}
use Rattle.aso_token.specs.declared.stop.Stop.{Stop}
use Rattle.aso_token.specs.declared.stop.Stop.TheVariants.{NoMemory, At}
use Rattle.aso_token.specs.Lang.{Lang, One, Begins}
use Rattle.aso_token.specs.Reads.{Read, ◌>>=◌, begins, taken, read_one, passes, front_of, with_rest, Gives, Fails}

abbrev pub Halts : (Token → Bool) → List Token → Type 0
Halts goes ts = begins goes ts ≡ false

pub record Law {A : Type 0} (P : Lang A) (goes : Token → Bool) (r : List Token → Read A) : Type 0 where
  pub found : (ts : List Token) (x : A × List Token) → r ts ≡ Ok x → (front : List Token) × (ts ≡ front ++ x.1) × P front x.0
  pub stops : (ts rest : List Token) → r ts ≡ Err rest → (front : List Token) × (ts ≡ front ++ rest) × Begins P front
  pub whole : (front : List Token) (a : A) (rest : List Token) → P front a → Halts goes rest → r (front ++ rest) ≡ Ok (a, rest)
  pub near_ok : (front us : List Token) (t : Token) (rest other : List Token) (a : A) → r (front ++ t ∷ rest) ≡ Ok (a, us ++ t ∷ rest) → r (front ++ t ∷ other) ≡ Ok (a, us ++ t ∷ other)
  pub near_err : (front : List Token) (t : Token) (rest other : List Token) → r (front ++ t ∷ rest) ≡ Err (t ∷ rest) → r (front ++ t ∷ other) ≡ Err (t ∷ other)

-- ---- small steps

abbrev pub good : {A : Type 0} → A × List Token → Read A
good x = Ok x

abbrev pub bad : {A : Type 0} → List Token → Read A
bad x = Err x

pub ok_is : {A : Type 0} (a b : A × List Token) → good a ≡ good b → a ≡ b
ok_is a b e = cc

pub err_is : {A : Type 0} (a b : List Token) → bad {A = A} a ≡ bad b → a ≡ b
err_is a b e = cc

pub ok_err : {A C : Type 0} (a : A × List Token) (b : List Token) → good a ≡ bad b → C
ok_err a b e = absurd (let h : ⊥ = cc in h)

pub bind_ok : {A B : Type 0} (r : Read A) (f : A × List Token → Read B) (y : B × List Token) → (r >>= f) ≡ Ok y → (x : A × List Token) × (r ≡ Ok x) × (f x ≡ Ok y)
bind_ok (Ok x) f y e = (x, refl, e)
bind_ok (Err z) f y e = ok_err y z (sym e)

pub bind_err : {A B : Type 0} (r : Read A) (f : A × List Token → Read B) (rest : List Token) → (r >>= f) ≡ Err rest → (r ≡ Err rest) ⊎ ((x : A × List Token) × (r ≡ Ok x) × (f x ≡ Err rest))
bind_err (Ok x) f rest e = inr (x, refl, e)
bind_err {A} {B} (Err w) f rest e = inl (ap (bad {A = A}) (err_is {A = B} w rest e))

pub bound : {A B : Type 0} (r : Read A) (f : A × List Token → Read B) (x : A × List Token) → r ≡ Ok x → (r >>= f) ≡ f x
bound r f x e = ap (λ z. z >>= f) e

pub failed : {A B : Type 0} (r : Read A) (f : A × List Token → Read B) (rest : List Token) → r ≡ Err rest → (r >>= f) ≡ Err rest
failed r f rest e = ap (λ z. z >>= f) e

pub same_head : (test : Token → Bool) (us : List Token) (t : Token) (rest other : List Token) → begins test (us ++ t ∷ rest) ≡ begins test (us ++ t ∷ other)
same_head test [] t rest other = refl
same_head test (u ∷ us) t rest other = refl

pub never_halts : (ts : List Token) → Halts (λ _. false) ts
never_halts [] = refl
never_halts (t ∷ ts) = refl

tail_is : (u t : Token) (us ts : List Token) → u ∷ us ≡ t ∷ ts → us ≡ ts
tail_is u t us ts e = cc

longer : (u : Token) (us vs : List Token) → vs ≡ u ∷ (us ++ vs) → ⊥
longer u us vs e = omega (arith, ap length e, length-append us vs)

pub cancel : (xs ys zs : List Token) → xs ++ zs ≡ ys ++ zs → xs ≡ ys
cancel [] [] zs e = refl
cancel [] (y ∷ ys) zs e = absurd (longer y ys zs e)
cancel (x ∷ xs) [] zs e = absurd (longer x xs zs (sym e))
cancel (x ∷ xs) (y ∷ ys) zs e =
    let h : x ≡ y = cc in
    let k = cancel xs ys zs (tail_is x y (xs ++ zs) (ys ++ zs) e) in
    cc

longer_in : (us : List Token) (t : Token) (rest : List Token) → rest ≡ us ++ t ∷ rest → ⊥
longer_in us t rest e = omega (arith, ap length e, length-append us (t ∷ rest))

-- ---- one token

taken_ok : {A : Type 0} (o : Option A) (t : Token) (ts : List Token) (x : A × List Token) → taken o t ts ≡ Ok x → (o ≡ Some x.0) × (ts ≡ x.1)
taken_ok None t ts x e = ok_err x (t ∷ ts) (sym e)
taken_ok {A} (Some a) t ts x e = (ap (λ (z : A × List Token). Some z.0) (ok_is (a, ts) x e), ap (λ (z : A × List Token). z.1) (ok_is (a, ts) x e))

taken_err : {A : Type 0} (o : Option A) (t : Token) (ts rest : List Token) → taken o t ts ≡ Err rest → (o ≡ None) × (t ∷ ts ≡ rest)
taken_err {A} None t ts rest e = (refl, err_is {A = A} (t ∷ ts) rest e)
taken_err (Some a) t ts rest e = ok_err (a, ts) rest e

untaken : {A : Type 0} (o : Option A) (t : Token) (ts : List Token) → o ≡ None → taken o t ts ≡ Err (t ∷ ts)
untaken o t ts e = ap (λ o. taken o t ts) e

one_found : {A : Type 0} (f : Token → Option A) (ts : List Token) (x : A × List Token) → read_one f ts ≡ Ok x → (front : List Token) × (ts ≡ front ++ x.1) × One f front x.0
one_found f [] x e = ok_err x [] (sym e)
one_found f (t ∷ ts) x e =
    let h = taken_ok (f t) t ts x e in
    (t ∷ [], ap (λ z. t ∷ z) h.1, (t, refl, h.0))

one_stops : {A : Type 0} (f : Token → Option A) → (t : Token) × (a : A) × (f t ≡ Some a) → (ts rest : List Token) → read_one f ts ≡ Err rest → (front : List Token) × (ts ≡ front ++ rest) × Begins (One f) front
one_stops {A} f some [] rest e = ([], err_is {A = A} [] rest e, (some.0 ∷ [], some.1, (some.0, refl, some.2)))
one_stops f some (t ∷ ts) rest e = ([], (taken_err (f t) t ts rest e).1, (some.0 ∷ [], some.1, (some.0, refl, some.2)))

one_whole : {A : Type 0} (f : Token → Option A) (front : List Token) (a : A) (rest : List Token) → One f front a → read_one f (front ++ rest) ≡ Ok (a, rest)
one_whole f front a rest h = ap (λ z. read_one f (z ++ rest)) h.1 ∙ ap (λ o. taken o h.0 rest) h.2

one_near_ok : {A : Type 0} (f : Token → Option A) (front us : List Token) (t : Token) (rest other : List Token) (a : A) → read_one f (front ++ t ∷ rest) ≡ Ok (a, us ++ t ∷ rest) → read_one f (front ++ t ∷ other) ≡ Ok (a, us ++ t ∷ other)
one_near_ok f [] us t rest other a e = absurd (longer_in us t rest (taken_ok (f t) t rest (a, us ++ t ∷ rest) e).1)
one_near_ok f (u ∷ front) us t rest other a e =
    let h = taken_ok (f u) u (front ++ t ∷ rest) (a, us ++ t ∷ rest) e in
    let same : front ≡ us = cancel front us (t ∷ rest) h.1 in
    ap (λ o. taken o u (front ++ t ∷ other)) h.0 ∙ ap (λ z. good (a, z ++ t ∷ other)) same

one_near_err : {A : Type 0} (f : Token → Option A) (front : List Token) (t : Token) (rest other : List Token) → read_one f (front ++ t ∷ rest) ≡ Err (t ∷ rest) → read_one f (front ++ t ∷ other) ≡ Err (t ∷ other)
one_near_err f [] t rest other e = untaken (f t) t other (taken_err (f t) t rest (t ∷ rest) e).0
one_near_err f (u ∷ front) t rest other e = absurd (longer u front (t ∷ rest) (sym (taken_err (f u) u (front ++ t ∷ rest) (t ∷ rest) e).1))

pub one_law : {A : Type 0} (f : Token → Option A) → (t : Token) × (a : A) × (f t ≡ Some a) → Law (One f) (λ _. false) (read_one f)
one_law f some = record {
  found = one_found f;
  stops = one_stops f some;
  whole = λ front a rest h _. one_whole f front a rest h;
  near_ok = one_near_ok f;
  near_err = one_near_err f;
}

-- ---- laws that differ by what may follow

pub loosen : {A : Type 0} (P : Lang A) (g h : Token → Bool) (r : List Token → Read A) → ((ts : List Token) → Halts h ts → Halts g ts) → Law P g r → Law P h r
loosen P g h r less p = record {
  found = p.found;
  stops = p.stops;
  near_ok = p.near_ok;
  near_err = p.near_err;
  whole = λ front a rest is halts. p.whole front a rest is (less rest halts);
}

-- a language of the same texts
pub same_law : {A : Type 0} (P Q : Lang A) (g : Token → Bool) (r : List Token → Read A) → ((ts : List Token) (a : A) → P ts a → Q ts a) → ((ts : List Token) (a : A) → Q ts a → P ts a) → Law P g r → Law Q g r
same_law P Q g r to from p = record {
  found = λ ts x e. let h = p.found ts x e in (h.0, h.1, to h.0 x.0 h.2);
  stops = λ ts rest e. let h = p.stops ts rest e in (h.0, h.1, (h.2.0, h.2.1, to (h.0 ++ h.2.0) h.2.1 h.2.2));
  near_ok = p.near_ok;
  near_err = p.near_err;
  whole = λ front a rest is halts. p.whole front a rest (from front a is) halts;
}

pub chosen : {A : Type 0} (b : Bool) (x y z : A) → (if b then x else y) ≡ z → ((b ≡ true) × (x ≡ z)) ⊎ ((b ≡ false) × (y ≡ z))
chosen true x y z e = inl (refl, e)
chosen false x y z e = inr (refl, e)

pub if_true : {A : Type 0} (b : Bool) (x y : A) → b ≡ true → (if b then x else y) ≡ x
if_true b x y e = ap (λ c. if c then x else y) e

pub if_false : {A : Type 0} (b : Bool) (x y : A) → b ≡ false → (if b then x else y) ≡ y
if_false b x y e = ap (λ c. if c then x else y) e

-- ---- what goes on

or_false : (a b : Bool) → (a || b) ≡ false → (a ≡ false) × (b ≡ false)
or_false true b e = absurd (let h : ⊥ = cc in h)
or_false false b e = (refl, e)

abbrev pub either : (Token → Bool) → (Token → Bool) → Token → Bool
either f g t = f t || g t

pub halts_first : (f g : Token → Bool) (ts : List Token) → Halts (either f g) ts → Halts f ts
halts_first f g [] h = refl
halts_first f g (t ∷ ts) h = (or_false (f t) (g t) h).0

pub halts_second : (f g : Token → Bool) (ts : List Token) → Halts (either f g) ts → Halts g ts
halts_second f g [] h = refl
halts_second f g (t ∷ ts) h = (or_false (f t) (g t) h).1

-- tokens that pass one test fail another
pub fails : (f g : Token → Bool) → ((t : Token) → f t ≡ true → g t ≡ false) → (ts : List Token) → begins f ts ≡ true → Halts g ts
fails f g apart [] h = refl
fails f g apart (t ∷ ts) h = apart t h

-- ---- what code answers

pub not_front : {A : Type 0} (f : Token → Option A) (ts : List Token) → None ≡ front_of f ts → begins (passes f) ts ≡ false
not_front f [] e = refl
not_front f (t ∷ ts) e = none_is (f t) ts e
  where
    none_is : {A : Type 0} (o : Option A) (ts : List Token) → None ≡ option_map (with_rest ts) o → is_some o ≡ false
    none_is None ts e = refl
    none_is (Some b) ts e = absurd (let n : ⊥ = cc in n)

pub gives_same : {A B : Type 0} (view : A → B × List Token) (r : Result A Stop) (z w : Read B) → z ≡ w → Gives view r z → Gives view r w
gives_same view r z w e h = let F : Read _ → Type 0 = λ z. Gives view r z in subst F e h

pub fails_on : {A B : Type 0} (s : Stop) (z : Read A) (w : Read B) → ((rest : List Token) → z ≡ Err rest → w ≡ Err rest) → Fails s z → Fails s w
fails_on NoMemory z w h f = tt
fails_on (At rest) z w h f = h (map (λ p. p.token) rest.now) f
