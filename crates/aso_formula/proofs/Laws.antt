-- What is read is in the grammar of formulas, what is in it is read, and a fault is where nothing can come.
use Rattle.std.proofs.Common.{◌≡◌, ℕ, zero, suc, length, length-append, arith, Bool, true, false, List, [], ◌∷◌, ◌++◌, Option, Some, None, Ok, Err, inr, ⊎_elim, refl, sym, ◌∙◌, ap, subst, append_assoc, append-nil, ◌||◌, ◌&&◌, is_some, option_map}
use Rattle.aso_token.specs.declared.token.Token.{Token}
use Rattle.aso_token.specs.declared.token.Token.TheVariants.{Number, Name, Mark}
use Rattle.aso_token.specs.declared.token.Mark.TheVariants.{Comma, Open, Close, Plus, Minus, Star, Slash}
use Rattle.aso_token.specs.Lang.{Lang, One, Then, Or, Makes, Chain}
use Rattle.aso_token.specs.Reads.{Read, ◌>>=◌, paired, made, begins, begin, begins_second, with_rest, read_one, read_then, read_if, read_chain, passes}
use Rattle.aso_token.proofs.Laws.{Law, Halts, either, one_law, loosen, halts_first, halts_second, never_halts, fails, ok_err, bad, err_is}
use Rattle.aso_token.proofs.Sequences.{then_law, as_law}
use Rattle.aso_token.proofs.Choices.{or_law, or_two_law}
use Rattle.aso_token.proofs.Lists.{chain_law, one_heads, many_follow, onward_start, onward_end}
use Rattle.aso_outline.specs.declared.draft.Op.{Op}
use Rattle.aso_outline.specs.declared.draft.Expr.{Expr}
use Rattle.aso_outline.specs.declared.draft.Expr.TheVariants.{Cell}
use Rattle.aso_token.specs.Marks.{comma, open_mark, close_mark, name}
use Rattle.aso_formula.specs.Formula.{sum_mark, product_mark, minus, atom, operated, from_left, negative, inner, names_of, cross, Term, Sum, Names, Inside, Negative, Nested, Factor, Formula}
use Rattle.aso_formula.specs.Reading.{read_term, read_sum, read_names, read_cross, read_inside, read_negative, read_nested, read_factor}

abbrev pub never : Token → Bool
never t = false

abbrev pub term_goes : Token → Bool
term_goes = either (passes product_mark) never

abbrev pub sum_goes : Token → Bool
sum_goes = either (passes sum_mark) term_goes

abbrev pub inside_goes : Token → Bool
inside_goes = either (passes comma) sum_goes

-- ---- which tokens are apart

pub sum_apart : (t : Token) → passes sum_mark t ≡ true → term_goes t ≡ false
sum_apart (Mark Plus) e = refl
sum_apart (Mark Minus) e = refl
sum_apart t e = absurd (let n : ⊥ = cc in n)

sum_comma : (t : Token) → passes sum_mark t ≡ true → passes comma t ≡ false
sum_comma (Mark Plus) e = refl
sum_comma (Mark Minus) e = refl
sum_comma t e = absurd (let n : ⊥ = cc in n)

product_comma : (t : Token) → passes product_mark t ≡ true → passes comma t ≡ false
product_comma (Mark Star) e = refl
product_comma (Mark Slash) e = refl
product_comma t e = absurd (let n : ⊥ = cc in n)

open_minus : (t : Token) → passes open_mark t ≡ true → passes minus t ≡ false
open_minus (Mark Open) e = refl
open_minus t e = absurd (let n : ⊥ = cc in n)

minus_name : (t : Token) → passes minus t ≡ true → passes name t ≡ false
minus_name (Mark Minus) e = refl
minus_name t e = absurd (let n : ⊥ = cc in n)

open_name : (t : Token) → passes open_mark t ≡ true → passes name t ≡ false
open_name (Mark Open) e = refl
open_name t e = absurd (let n : ⊥ = cc in n)

atom_signs : (t : Token) (a : Expr) → atom t ≡ Some a → (passes minus t ≡ false) × (passes open_mark t ≡ false)
atom_signs (Number text) a e = (refl, refl)
atom_signs (Name text) a e = (refl, refl)
atom_signs t a e = absurd (let n : ⊥ = cc in n)

-- ---- the law of each rule

pub some_name : (t : Token) × (a : List ℕ) × (name t ≡ Some a)
some_name = (Name [], [], refl)

some_atom : (t : Token) × (a : Expr) × (atom t ≡ Some a)
some_atom = (Name [], Cell ([] ∷ []), refl)

module _ (F : Lang Expr) (r : List Token → Read Expr) (f : Law F never r) (some : (ts : List Token) × (e : Expr) × F ts e) where
  pub term_law : Law (Term F) term_goes (read_term r)
  unfolding read_term
  term_law = as_law (Chain product_mark F) term_goes (read_chain product_mark r) from_left
      (chain_law F never r f product_mark (λ t e. refl) (Mark Star, _, refl) some)

  pub some_term : (ts : List Token) × (e : Expr) × Term F ts e
  some_term = (some.0, some.1, ((some.1, []), (some.0, [], sym (append-nil some.0), some.2, (zero, (refl, refl))), refl))

  pub sum_law : Law (Sum F) sum_goes (read_sum r)
  unfolding read_sum
  sum_law = as_law (Chain sum_mark (Term F)) sum_goes (read_chain sum_mark (read_term r)) from_left
      (chain_law (Term F) term_goes (read_term r) term_law sum_mark sum_apart (Mark Plus, _, refl) some_term)

-- ---- members within parentheses

pub one_name : (ts : List Token) × (a : List ℕ) × One name ts a
one_name = (Name [] ∷ [], [], (Name [], refl, refl))

abbrev pub names_goes : Token → Bool
names_goes = either (passes comma) never

pub names_law : Law Names names_goes read_names
unfolding read_names
names_law = as_law (Chain comma (One name)) names_goes (read_chain comma (read_one name)) names_of
    (chain_law (One name) never (read_one name) (one_law name some_name) comma (λ t e. refl) (Mark Comma, tt, refl) one_name)

some_names : (ts : List Token) × (a : List (List ℕ)) × Names ts a
some_names = (Name [] ∷ [], [] ∷ [], (([], []), (Name [] ∷ [], [], refl, (Name [], refl, refl), (zero, (refl, refl))), refl))

abbrev pub Cross : Lang Expr
Cross = Makes (Then (Then (One name) (One comma)) Names) cross

cross_law : Law Cross names_goes read_cross
cross_law = as_law (Then (Then (One name) (One comma)) Names) names_goes (read_then (read_then (read_one name) (read_one comma)) read_names) cross
    (then_law (Then (One name) (One comma)) Names never names_goes (read_then (read_one name) (read_one comma)) read_names
    (then_law (One name) (One comma) never never (read_one name) (read_one comma) (one_law name some_name) (one_law comma (Mark Comma, tt, refl))
    (Mark Comma ∷ [], tt, (Mark Comma, refl, refl)) (λ ys b rest h halts. never_halts (ys ++ rest)))
    names_law some_names (λ ys b rest h halts. never_halts (ys ++ rest)))

-- a name, and then a token that is no comma or another token altogether
abbrev pub NoPair : List Token → Type 0
NoPair ts = begin (passes name) (passes comma) ts ≡ false

no_first : (ts : List Token) → Halts (passes name) ts → NoPair ts
no_first ts h = ap (λ (b : Bool). b && begins_second (passes comma) ts) h

no_second : (t : Token) (ts : List Token) → Halts (passes comma) ts → NoPair (t ∷ ts)
no_second t ts h = ap (λ (b : Bool). passes name t && b) h ∙ and_false (passes name t)
  where
    and_false : (b : Bool) → (b && false) ≡ false
    and_false true = refl
    and_false false = refl

abbrev pub Single : Lang Expr → Type 0
Single P = (xs : List Token) (e : Expr) (zs : List Token) → P xs e → Halts (passes comma) zs → NoPair (xs ++ zs)

chain_single : (P : Lang Expr) (between : Token → Option Op) → ((t : Token) → passes between t ≡ true → passes comma t ≡ false) → Single P → Single (Makes (Chain between P) from_left)
chain_single P between apart single ts e zs h halts =
    let k = h.1 in
    let after = many_follow (Then (One between) P) (passes between) (passes comma) (one_heads between P) apart k.4.0 k.1 h.0.1 zs k.4.1 halts in
    ap (λ z. begin (passes name) (passes comma) (z ++ zs)) k.2
    ∙ ap (begin (passes name) (passes comma)) (append_assoc k.0 k.1 zs)
    ∙ single k.0 h.0.0 (k.1 ++ zs) k.3 after

empty_front : (xs ys : List Token) → [] ≡ xs ++ ys → xs ≡ []
empty_front [] ys e = refl
empty_front (x ∷ xs) ys e = absurd (let n : ⊥ = cc in n)

chain_some : (P : Lang Expr) (between : Token → Option Op) → ((e : Expr) → P [] e → ⊥) → (e : Expr) → Makes (Chain between P) from_left [] e → ⊥
chain_some P between some e h =
    let k = h.1 in
    let F : List Token → Type 0 = λ z. P z h.0.0 in
    some h.0.0 (subst F (empty_front k.0 k.1 k.2) k.3)

comma_ends : (m : Token) → passes comma m ≡ true → (product_mark m ≡ None) × (sum_mark m ≡ None)
comma_ends (Mark Comma) e = (refl, refl)
comma_ends m e = absurd (let n : ⊥ = cc in n)

names_fail : (z : Read (List (List ℕ))) (a : List ℕ × Unit {0}) (w : List Token) → ((z >>= paired a) >>= made cross) ≡ Err w → z ≡ Err w
names_fail (Ok y) a w e = ok_err (cross (a, y.0), y.1) w e
names_fail (Err v) a w e = ap (bad {A = List (List ℕ)}) (err_is {A = Expr} v w e)

too_long : (n m : Token) (rest front : List Token) → rest ≡ front ++ (n ∷ m ∷ rest) → ⊥
too_long n m rest front e = omega (arith, ap length e, length-append front (n ∷ m ∷ rest))

cross_goes : (n m : Token) (rest : List Token) → passes name n ≡ true → passes comma m ≡ true → read_cross (n ∷ m ∷ rest) ≡ Err (n ∷ m ∷ rest) → ⊥
cross_goes (Name text) (Mark Comma) rest a b e =
    let f = names_law.stops rest (Name text ∷ Mark Comma ∷ rest) (names_fail (read_names rest) (text, tt) (Name text ∷ Mark Comma ∷ rest) e) in
    too_long (Name text) (Mark Comma) rest f.0 f.1
cross_goes (Name text) m rest a b e = let n : ⊥ = cc in n
cross_goes n m rest a b e = let n : ⊥ = cc in n

atom_single : Single (One atom)
atom_single ts e zs h halts = ap (λ z. begin (passes name) (passes comma) (z ++ zs)) h.1 ∙ no_second h.0 zs halts

atom_full : (e : Expr) → One atom [] e → ⊥
atom_full e h = let k = h.1 in let n : ⊥ = cc in n

module _ (F : Lang Expr) (r : List Token → Read Expr) (f : Law F never r) (some : (ts : List Token) × (e : Expr) × F ts e)
    (single : Single F) (full : (e : Expr) → F [] e → ⊥) (first : (n : Token) (rest : List Token) → passes name n ≡ true → (e : Expr) × (r (n ∷ rest) ≡ Ok (e, rest))) where
  sum_first : (n m : Token) (rest : List Token) → passes name n ≡ true → passes comma m ≡ true → (e : Expr) × (read_sum r (n ∷ m ∷ rest) ≡ Ok (e, m ∷ rest))
  unfolding read_term read_sum
  sum_first n m rest a b =
      let x = first n (m ∷ rest) a in
      let no = comma_ends m b in
      let term : read_term r (n ∷ m ∷ rest) ≡ Ok (x.0, m ∷ rest) =
      onward_start F never r f product_mark (λ t e. refl) (Mark Star, _, refl) some operated from_left (n ∷ m ∷ rest) (x.0, m ∷ rest) x.0 (λ ys. refl) x.1
      ∙ onward_end F never r f product_mark (λ t e. refl) (Mark Star, _, refl) some operated x.0 (m ∷ rest) (ap (option_map (with_rest rest)) no.0) in (
        x.0,
        onward_start (Term F) term_goes (read_term r) (term_law F r f some) sum_mark sum_apart (Mark Plus, _, refl) (some_term F r f some) operated from_left (n ∷ m ∷ rest) (x.0, m ∷ rest) x.0 (λ ys. refl) term
            ∙ onward_end (Term F) term_goes (read_term r) (term_law F r f some) sum_mark sum_apart (Mark Plus, _, refl) (some_term F r f some) operated x.0 (m ∷ rest) (ap (option_map (with_rest rest)) no.1),
      )

  pub inside_law : Law (Inside F) inside_goes (read_inside r)
  unfolding read_inside
  inside_law = or_two_law Cross (Sum F) inside_goes (passes name) (passes comma) read_cross (read_sum r)
      (loosen Cross names_goes inside_goes read_cross (λ ts h. cross_less ts h) cross_law)
      (loosen (Sum F) sum_goes inside_goes (read_sum r) (λ ts h. halts_second (passes comma) sum_goes ts h) (sum_law F r f some))
      cross_begins
      (λ ts e rest h halts. chain_single (Term F) sum_mark sum_comma (chain_single F product_mark product_comma single) ts e rest h (halts_first (passes comma) sum_goes rest halts))
      (chain_some (Term F) sum_mark (chain_some F product_mark full))
      sum_first
      cross_goes
    where
      cross_less : (ts : List Token) → Halts inside_goes ts → Halts names_goes ts
      cross_less [] h = refl
      cross_less (t ∷ ts) h = ap (λ (b : Bool). b || false) (halts_first (passes comma) sum_goes (t ∷ ts) h)

      cross_begins : (ts : List Token) (e : Expr) (rest : List Token) → Cross ts e → begin (passes name) (passes comma) (ts ++ rest) ≡ true
      cross_begins ts e rest h =
          let k = h.1 in
          let j = k.3 in
          let front : k.0 ≡ j.3.0 ∷ j.4.0 ∷ [] = j.2 ∙ ap (λ z. z ++ j.1) j.3.1 ∙ ap (λ z. j.3.0 ∷ z) j.4.1 in
          ap (λ z. begin (passes name) (passes comma) (z ++ rest)) (k.2 ∙ ap (λ z. z ++ k.1) front)
          ∙ ap (λ (o : Option (List ℕ)). is_some o && passes comma j.4.0) j.3.2
          ∙ ap (λ (o : Option (Unit {0})). is_some o) j.4.2

  some_sum : (ts : List Token) × (e : Expr) × Sum F ts e
  some_sum = let t = some_term F r f some in (t.0, t.1, ((t.1, []), (t.0, [], sym (append-nil t.0), t.2, (zero, (refl, refl))), refl))

  pub nested_law : Law (Nested F) never (read_nested r)
  nested_law = as_law (Then (Then (One open_mark) (Inside F)) (One close_mark)) never (read_then (read_then (read_one open_mark) (read_inside r)) (read_one close_mark)) inner
      (then_law (Then (One open_mark) (Inside F)) (One close_mark) inside_goes never (read_then (read_one open_mark) (read_inside r)) (read_one close_mark)
      (then_law (One open_mark) (Inside F) never inside_goes (read_one open_mark) (read_inside r) (one_law open_mark (Mark Open, tt, refl)) inside_law
      (some_sum.0, some_sum.1, inr some_sum.2) (λ ys b rest h halts. never_halts (ys ++ rest)))
      (one_law close_mark (Mark Close, tt, refl)) (Mark Close ∷ [], tt, (Mark Close, refl, refl))
      (λ ys b rest h halts. ap (λ z. begins inside_goes (z ++ rest)) h.1 ∙ close_apart h.0 (ap is_some h.2)))
    where
      close_apart : (t : Token) → passes close_mark t ≡ true → inside_goes t ≡ false
      close_apart (Mark Close) e = refl
      close_apart t e = absurd (let n : ⊥ = cc in n)

  pub negative_law : Law (Negative F) never (read_negative r)
  negative_law = as_law (Then (One minus) F) never (read_then (read_one minus) r) negative
      (then_law (One minus) F never never (read_one minus) r (one_law minus (Mark Minus, tt, refl)) f some (λ ys b rest h halts. never_halts (ys ++ rest)))

  nested_heads : (ts : List Token) (e : Expr) (rest : List Token) → Nested F ts e → begins (passes open_mark) (ts ++ rest) ≡ true
  nested_heads ts e rest h =
      let k = h.1 in
      ap (λ z. begins (passes open_mark) (z ++ rest)) k.2 ∙ ap (begins (passes open_mark)) (append_assoc k.0 k.1 rest) ∙ one_heads open_mark (Inside F) k.0 h.0.0 (k.1 ++ rest) k.3

  negative_heads : (ts : List Token) (e : Expr) (rest : List Token) → Negative F ts e → begins (passes minus) (ts ++ rest) ≡ true
  negative_heads ts e rest h = one_heads minus F ts h.0 rest h.1

  abbrev pub Next : Lang Expr
  Next = Or (Negative F) (Or (Nested F) (One atom))

  pub next_law : Law Next never (read_if (passes minus) (read_negative r) (read_if (passes open_mark) (read_nested r) (read_one atom)))
  next_law = or_law (Negative F) (Or (Nested F) (One atom)) never (passes minus) (read_negative r) (read_if (passes open_mark) (read_nested r) (read_one atom)) negative_law
      (or_law (Nested F) (One atom) never (passes open_mark) (read_nested r) (read_one atom) nested_law (one_law atom some_atom) nested_heads
      (λ ts e rest h halts. ap (λ z. begins (passes open_mark) (z ++ rest)) h.1 ∙ (atom_signs h.0 e h.2).1))
      negative_heads
      (λ ts e rest h halts. ⊎_elim
      (λ (k : Nested F ts e). fails (passes open_mark) (passes minus) open_minus (ts ++ rest) (nested_heads ts e rest k))
      (λ (k : One atom ts e). ap (λ z. begins (passes minus) (z ++ rest)) k.1 ∙ (atom_signs k.0 e k.2).0)
      h)

  pub next_single : Single Next
  next_single ts e zs h halts = ⊎_elim
      (λ (k : Negative F ts e). no_first (ts ++ zs) (fails (passes minus) (passes name) minus_name (ts ++ zs) (negative_heads ts e zs k)))
      (λ (k : Or (Nested F) (One atom) ts e). ⊎_elim
      (λ (j : Nested F ts e). no_first (ts ++ zs) (fails (passes open_mark) (passes name) open_name (ts ++ zs) (nested_heads ts e zs j)))
      (λ (j : One atom ts e). atom_single ts e zs j halts)
      k)
      h

  pub next_full : (e : Expr) → Next [] e → ⊥
  next_full e h = ⊎_elim
      (λ (k : Negative F [] e). let b : false ≡ true = negative_heads [] e [] k in let n : ⊥ = cc in n)
      (λ (k : Or (Nested F) (One atom) [] e). ⊎_elim
      (λ (j : Nested F [] e). let b : false ≡ true = nested_heads [] e [] j in let n : ⊥ = cc in n)
      (λ (j : One atom [] e). atom_full e j)
      k)
      h

-- ---- factors of every depth

pub some_factor : (n : ℕ) → (ts : List Token) × (e : Expr) × Factor n ts e
some_factor zero = (Name [] ∷ [], Cell ([] ∷ []), (Name [], refl, refl))
some_factor (suc n) = (Name [] ∷ [], Cell ([] ∷ []), inr (inr (Name [], refl, refl)))

factor_first : (n : ℕ) (t : Token) (rest : List Token) → passes name t ≡ true → (e : Expr) × (read_factor n (t ∷ rest) ≡ Ok (e, rest))
unfolding read_factor
factor_first zero (Name text) rest h = (Cell (text ∷ []), refl)
factor_first (suc n) (Name text) rest h = (Cell (text ∷ []), refl)
factor_first n t rest h = absurd (let n : ⊥ = cc in n)

pub record Deep (n : ℕ) : Type 0 where
  pub law : Law (Factor n) never (read_factor n)
  pub single : Single (Factor n)
  pub full : (e : Expr) → Factor n [] e → ⊥

pub deep : (n : ℕ) → Deep n
unfolding read_factor
deep zero = record { law = one_law atom some_atom; single = atom_single; full = atom_full }
deep (suc n) =
    let d = deep n in
    record {
      law = next_law (Factor n) (read_factor n) d.law (some_factor n) d.single d.full (factor_first n);
      single = next_single (Factor n) (read_factor n) d.law (some_factor n) d.single d.full (factor_first n);
      full = next_full (Factor n) (read_factor n) d.law (some_factor n) d.single d.full (factor_first n);
    }

pub formula_law : Law Formula sum_goes (read_sum (read_factor 64))
unfolding Formula
formula_law = sum_law (Factor 64) (read_factor 64) (deep 64).law (some_factor 64)
