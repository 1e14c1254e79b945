-- Readers of several texts, end to end or with tokens between them.
use Rattle.std.proofs.Common.{◌≡◌, ℕ, zero, suc, ◌+◌, ◌≤◌, ◌<◌, Bool, true, false, List, [], ◌∷◌, ◌++◌, length, Option, Some, None, Ok, Err, inl, inr, refl, sym, ◌∙◌, ap, append_assoc, arith, length-append, if◌then◌else◌, is_some, fold, option_map, ⊎_elim}
use Rattle.aso_token.specs.declared.token.Token.{Token}
use Rattle.aso_token.specs.Lang.{Lang, One, Then, Makes, Empty, UpTo, Many, Chain, put_before}
use Rattle.aso_token.specs.Reads.{Read, ◌>>=◌, begins, taken, read_one, paired, second, made, read_then, read_as, read_empty, read_upto, read_many, read_chain, passes, gathered, onward, front_of, with_rest}
use Rattle.aso_token.proofs.Laws.{Halts, Law, either, fails, good, halts_first, halts_second, never_halts, one_law}
use Rattle.aso_token.proofs.Sequences.{as_law, then_law}
use Rattle.aso_token.proofs.Choices.{empty_law, or_law}

module _ {A : Type 0} (P : Lang A) (gp test : Token → Bool) (r : List Token → Read A) (p : Law P gp r)
    (heads : (ts : List Token) (a : A) (rest : List Token) → P ts a → begins test (ts ++ rest) ≡ true)
    (apart : (t : Token) → test t ≡ true → gp t ≡ false) (some : (ts : List Token) × (a : A) × P ts a) where
  some_upto : (n : ℕ) → (ts : List Token) × (all : List A) × UpTo n P ts all
  some_upto zero = ([], [], (refl, refl))
  some_upto (suc n) = ([], [], inr (refl, refl))

  then_heads : {B : Type 0} (Q : Lang B) (ts : List Token) (v : A × B) (rest : List Token) → Then P Q ts v → begins test (ts ++ rest) ≡ true
  then_heads Q ts v rest h = ap (λ z. begins test (z ++ rest)) h.2 ∙ ap (begins test) (append_assoc h.0 h.1 rest) ∙ heads h.0 v.0 (h.1 ++ rest) h.3

  upto_next : (n : ℕ) (ys : List Token) (b : List A) (rest : List Token) → UpTo n P ys b → Halts (either test gp) rest → Halts gp (ys ++ rest)
  upto_next zero ys b rest h halts = ap (λ z. begins gp (z ++ rest)) h.0 ∙ halts_second test gp rest halts
  upto_next (suc n) ys b rest h halts = ⊎_elim
      (λ (h : Makes (Then P (UpTo n P)) put_before ys b). fails test gp apart (ys ++ rest) (then_heads (UpTo n P) ys h.0 rest h.1))
      (λ (h : Empty [] ys b). ap (λ z. begins gp (z ++ rest)) h.0 ∙ halts_second test gp rest halts)
      h

  pub upto_law : (n : ℕ) → Law (UpTo n P) (either test gp) (read_upto test r n)
  upto_law zero = empty_law [] (either test gp)
  upto_law (suc n) =
      or_law (Makes (Then P (UpTo n P)) put_before) (Empty []) (either test gp) test (read_as (read_then r (read_upto test r n)) put_before) (read_empty [])
      (as_law (Then P (UpTo n P)) (either test gp) (read_then r (read_upto test r n)) put_before
      (then_law P (UpTo n P) gp (either test gp) r (read_upto test r n) p (upto_law n) (some_upto n) (upto_next n)))
      (empty_law [] (either test gp))
      (λ ts a rest h. then_heads (UpTo n P) ts h.0 rest h.1)
      (λ ts a rest h halts. ap (λ z. begins test (z ++ rest)) h.0 ∙ halts_first test gp rest halts)

  nonempty : (ts : List Token) (a : A) → P ts a → 1 ≤ length ts
  nonempty [] a h = absurd (let k : false ≡ true = heads [] a [] h in let n : ⊥ = cc in n)
  nonempty (t ∷ ts) a h = omega arith

  shorter : (ts : List Token) (x : A × List Token) → r ts ≡ Ok x → suc (length x.1) ≤ length ts
  shorter ts x e = let f = p.found ts x e in omega (arith, length-append f.0 x.1, ap length f.1, nonempty f.0 x.0 f.2)

  then_same : (s u : List Token → Read (List A)) (z : Read A) → ((x : A × List Token) → z ≡ Ok x → s x.1 ≡ u x.1) → (z >>= second s) ≡ (z >>= second u)
  then_same s u (Ok x) h = ap (λ (z : Read (List A)). z >>= paired x.0) (h x refl)
  then_same s u (Err w) h = refl

  pub same_fuel : (n m : ℕ) (ts : List Token) → length ts ≤ n → length ts ≤ m → read_upto test r n ts ≡ read_upto test r m ts
  same_fuel zero zero ts a b = refl
  same_fuel zero (suc m) [] a b = refl
  same_fuel zero (suc m) (t ∷ ts) a b = absurd (omega arith)
  same_fuel (suc n) zero [] a b = refl
  same_fuel (suc n) zero (t ∷ ts) a b = absurd (omega arith)
  same_fuel (suc n) (suc m) ts a b =
      ap (λ (z : Read (A × List A)). if begins test ts then (z >>= made put_before) else Ok ([], ts))
      (then_same (read_upto test r n) (read_upto test r m) (r ts)
      (λ x e. let k = shorter ts x e in same_fuel n m x.1 (omega arith) (omega arith)))

  upto_ge : (n m : ℕ) (ts : List Token) (all : List A) → n ≤ m → UpTo n P ts all → UpTo m P ts all
  upto_ge zero zero ts all le h = h
  upto_ge zero (suc m) ts all le h = inr h
  upto_ge (suc n) zero ts all le h = absurd (omega arith)
  upto_ge (suc n) (suc m) ts all le h = ⊎_elim
      (λ (h : Makes (Then P (UpTo n P)) put_before ts all). let k = h.1 in
      inl (h.0, (k.0, k.1, k.2, k.3, upto_ge n m k.1 h.0.1 (omega arith) k.4), h.2))
      (λ (h : Empty [] ts all). inr h)
      h

  pub many_law : Law (Many P) (either test gp) (read_many test r)
  many_law = record {
    found = λ ts x e. let f = (upto_law (length ts)).found ts x e in (f.0, f.1, (length ts, f.2));
    stops = λ ts rest e. let f = (upto_law (length ts)).stops ts rest e in (f.0, f.1, (f.2.0, f.2.1, (length ts, f.2.2)));
    whole = λ front a rest h halts.
        let n = length (front ++ rest) in
        same_fuel n (h.0 + n) (front ++ rest) (omega arith) (omega arith)
        ∙ (upto_law (h.0 + n)).whole front a rest (upto_ge h.0 (h.0 + n) front a (omega arith) h.1) halts;
    near_ok = λ front us t rest other a e.
        let n = length (front ++ t ∷ rest) in
        let m = length (front ++ t ∷ other) in
        same_fuel m (n + m) (front ++ t ∷ other) (omega arith) (omega arith)
        ∙ (upto_law (n + m)).near_ok front us t rest other a (same_fuel (n + m) n (front ++ t ∷ rest) (omega arith) (omega arith) ∙ e);
    near_err = λ front t rest other e.
        let n = length (front ++ t ∷ rest) in
        let m = length (front ++ t ∷ other) in
        same_fuel m (n + m) (front ++ t ∷ other) (omega arith) (omega arith)
        ∙ (upto_law (n + m)).near_err front t rest other (same_fuel (n + m) n (front ++ t ∷ rest) (omega arith) (omega arith) ∙ e);
  }

-- ---- texts with tokens between them

-- a text that begins with a token
pub one_heads : {A B : Type 0} (f : Token → Option A) (Q : Lang B) (ts : List Token) (v : A × B) (rest : List Token) → Then (One f) Q ts v → begins (passes f) (ts ++ rest) ≡ true
one_heads f Q ts v rest h = ap (λ z. begins (passes f) (z ++ rest)) (h.2 ∙ ap (λ z. z ++ h.1) h.3.1) ∙ ap is_some h.3.2

pub many_follow : {A : Type 0} (P : Lang A) (test g : Token → Bool) → ((ts : List Token) (a : A) (rest : List Token) → P ts a → begins test (ts ++ rest) ≡ true) → ((t : Token) → test t ≡ true → g t ≡ false) →
    (n : ℕ) (ys : List Token) (b : List A) (rest : List Token) → UpTo n P ys b → Halts g rest → Halts g (ys ++ rest)
many_follow P test g heads apart zero ys b rest h halts = ap (λ z. begins g (z ++ rest)) h.0 ∙ halts
many_follow P test g heads apart (suc n) ys b rest h halts = ⊎_elim
    (λ (h : Makes (Then P (UpTo n P)) put_before ys b).
    let k = h.1 in
    fails test g apart (ys ++ rest) (ap (λ z. begins test (z ++ rest)) k.2 ∙ ap (begins test) (append_assoc k.0 k.1 rest) ∙ heads k.0 h.0.0 (k.1 ++ rest) k.3))
    (λ (h : Empty [] ys b). ap (λ z. begins g (z ++ rest)) h.0 ∙ halts)
    h

module _ {A B : Type 0} (P : Lang A) (gp : Token → Bool) (r : List Token → Read A) (p : Law P gp r) (between : Token → Option B)
    (apart : (t : Token) → passes between t ≡ true → gp t ≡ false) (tok : (t : Token) × (b : B) × (between t ≡ Some b)) (some : (ts : List Token) × (a : A) × P ts a) where
  pub pair_law : Law (Then (One between) P) gp (read_then (read_one between) r)
  pair_law = then_law (One between) P (λ _. false) gp (read_one between) r (one_law between tok) p some (λ ys b rest h halts. never_halts (ys ++ rest))

  some_pair : (ts : List Token) × (v : B × A) × Then (One between) P ts v
  some_pair = (tok.0 ∷ some.0, (tok.1, some.1), (tok.0 ∷ [], some.0, refl, (tok.0, refl, tok.2), some.2))

  pub pairs_law : Law (Many (Then (One between) P)) (either (passes between) gp) (read_many (passes between) (read_then (read_one between) r))
  pairs_law = many_law (Then (One between) P) gp (passes between) (read_then (read_one between) r) pair_law (one_heads between P) apart some_pair

  pub chain_law : Law (Chain between P) (either (passes between) gp) (read_chain between r)
  chain_law = then_law P (Many (Then (One between) P)) gp (either (passes between) gp) r (read_many (passes between) (read_then (read_one between) r)) p pairs_law
      ([], [], (zero, (refl, refl)))
      (λ ys b rest h halts. many_follow (Then (One between) P) (passes between) gp (one_heads between P) apart h.0 ys b rest h.1 (halts_second (passes between) gp rest halts))

  -- how a loop reads what follows
  module _ {C : Type 0} (step : C → B × A → C) where
    regroup : (f : A × List (B × A) → C) (a : A) (e : C) → ((ys : List (B × A)) → f (a, ys) ≡ fold step e ys) → (z : Read (List (B × A))) → ((z >>= paired a) >>= made f) ≡ (z >>= gathered step e)
    regroup f a e same (Ok y) = ap (λ c. good (c, y.1)) (same y.0)
    regroup f a e same (Err w) = refl

    pub onward_start : (f : A × List (B × A) → C) (ts : List Token) (x : A × List Token) (e : C) → ((ys : List (B × A)) → f (x.0, ys) ≡ fold step e ys) → r ts ≡ Ok x → read_as (read_chain between r) f ts ≡ onward step between r e x.1
    onward_start f ts x e same is =
        let many = read_many (passes between) (read_then (read_one between) r) in
        ap (λ (z : Read A). (z >>= second many) >>= made f) is ∙ regroup f x.0 e same (many x.1)

    pub onward_fail : (f : A × List (B × A) → C) (ts rest : List Token) → r ts ≡ Err rest → read_as (read_chain between r) f ts ≡ Err rest
    onward_fail f ts rest is =
        let many = read_many (passes between) (read_then (read_one between) r) in
        ap (λ (z : Read A). (z >>= second many) >>= made f) is

    front_none : (o : Option B) (ts : List Token) → option_map (with_rest ts) o ≡ None → is_some o ≡ false
    front_none None ts e = refl
    front_none (Some b) ts e = absurd (let n : ⊥ = cc in n)

    front_some : (o : Option B) (ts : List Token) (v : B × List Token) → option_map (with_rest ts) o ≡ Some v → (o ≡ Some v.0) × (ts ≡ v.1)
    front_some None ts v e = absurd (let n : ⊥ = cc in n)
    front_some (Some b) ts v e =
        let same : (b, ts) ≡ v = cc in
        (ap (λ (z : B × List Token). Some z.0) same, ap (λ (z : B × List Token). z.1) same)

    pub onward_end : (e : C) (ts : List Token) → front_of between ts ≡ None → onward step between r e ts ≡ Ok (e, ts)
    onward_end e [] is = refl
    onward_end e (t ∷ ts) is =
        let many = read_upto (passes between) (read_then (read_one between) r) (length ts) in
        ap (λ (b : Bool). (if b then read_as (read_then (read_then (read_one between) r) many) put_before (t ∷ ts) else Ok ([], t ∷ ts)) >>= gathered step e) (front_none (between t) ts is)

    one_more : (z : Read (List (B × A))) (e : C) (v : B × A) → (((z >>= paired v) >>= made put_before) >>= gathered step e) ≡ (z >>= gathered step (step e v))
    one_more (Ok y) e v = refl
    one_more (Err w) e v = refl

    pub onward_step : (e : C) (t : Token) (after : List Token) (b : B) (x : A × List Token) → between t ≡ Some b → r after ≡ Ok x → onward step between r e (t ∷ after) ≡ onward step between r (step e (b, x.0)) x.1
    onward_step e t after b x is reads =
        let pair = read_then (read_one between) r in
        let many = read_upto (passes between) pair (length after) in
        let f = p.found after x reads in
        let less : length x.1 ≤ length after = omega (arith, ap length f.1, length-append f.0 x.1) in
        ap (λ (o : Option B). (if is_some o then ((((taken o t after >>= second r) >>= second many) >>= made put_before)) else Ok ([], t ∷ after)) >>= gathered step e) is
        ∙ ap (λ (z : Read A). (((z >>= paired b) >>= second many) >>= made put_before) >>= gathered step e) reads
        ∙ ap (λ (z : Read (List (B × A))). ((z >>= paired (b, x.0)) >>= made put_before) >>= gathered step e)
        (same_fuel (Then (One between) P) gp (passes between) pair pair_law (one_heads between P) apart some_pair (length after) (length x.1) x.1 less (omega arith))
        ∙ one_more (read_many (passes between) pair x.1) e (b, x.0)

    pub onward_err : (e : C) (t : Token) (after rest : List Token) (b : B) → between t ≡ Some b → r after ≡ Err rest → onward step between r e (t ∷ after) ≡ Err rest
    onward_err e t after rest b is reads =
        let pair = read_then (read_one between) r in
        let many = read_upto (passes between) pair (length after) in
        ap (λ (o : Option B). (if is_some o then ((((taken o t after >>= second r) >>= second many) >>= made put_before)) else Ok ([], t ∷ after)) >>= gathered step e) is
        ∙ ap (λ (z : Read A). (((z >>= paired b) >>= second many) >>= made put_before) >>= gathered step e) reads

    pub onward_front : (e : C) (ts after : List Token) (b : B) (x : A × List Token) → Some (b, after) ≡ front_of between ts → r after ≡ Ok x → onward step between r e ts ≡ onward step between r (step e (b, x.0)) x.1
    onward_front e [] after b x front reads = absurd (let n : ⊥ = cc in n)
    onward_front e (t ∷ ts) after b x front reads =
        let f = front_some (between t) ts (b, after) (sym front) in
        onward_step e t ts b x f.0 (ap r f.1 ∙ reads)

    pub onward_front_err : (e : C) (ts after rest : List Token) (b : B) → Some (b, after) ≡ front_of between ts → r after ≡ Err rest → onward step between r e ts ≡ Err rest
    onward_front_err e [] after rest b front reads = absurd (let n : ⊥ = cc in n)
    onward_front_err e (t ∷ ts) after rest b front reads =
        let f = front_some (between t) ts (b, after) (sym front) in
        onward_err e t ts rest b f.0 (ap r f.1 ∙ reads)

    pub front_less : (ts after : List Token) (b : B) (x : A × List Token) → Some (b, after) ≡ front_of between ts → r after ≡ Ok x → length x.1 < length ts
    front_less [] after b x front reads = absurd (let n : ⊥ = cc in n)
    front_less (t ∷ ts) after b x front reads =
        let f = front_some (between t) ts (b, after) (sym front) in
        let g = p.found after x reads in
        omega (arith, ap length f.1, ap length g.1, length-append g.0 x.1)
