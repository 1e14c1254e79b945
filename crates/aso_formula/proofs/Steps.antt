-- The reading of a factor, by its front token.
use Rattle.std.proofs.Common.{◌≡◌, ◌≢◌, ℕ, zero, suc, ◌-◌, Bool, false, List, [], ◌∷◌, ◌++◌, Some, None, Ok, Err, refl, sym, ◌∙◌, ap, append_assoc, append-nil, map, fold, arith}
use Rattle.aso_token.specs.declared.token.Token.{Token}
use Rattle.aso_token.specs.declared.token.Token.TheVariants.{Name, Mark}
use Rattle.aso_token.specs.declared.token.Mark.TheVariants.{Comma, Open, Minus}
use Rattle.aso_token.specs.Lang.{One}
use Rattle.aso_token.specs.Reads.{Read, ◌>>=◌, paired, second, made, begins, read_one, read_chain, onward, front_of, passes}
use Rattle.aso_token.proofs.Laws.{if_false, not_front, one_law}
use Rattle.aso_token.proofs.Lists.{onward_start, onward_fail}
use Rattle.aso_outline.specs.declared.draft.Expr.{Expr}
use Rattle.aso_token.specs.Marks.{comma, open_mark, close_mark, name}
use Rattle.aso_formula.specs.Formula.{minus, atom, negative, inner, cross, names_of}
use Rattle.aso_formula.specs.Reading.{behind, grown, read_names, read_behind, read_rest, crossed, read_negated, negated_of, read_closed, closed_of, left_over, read_inside, read_sum, read_factor, pair_front}
use Rattle.aso_formula.proofs.Laws.{some_name, one_name}

pub factor_zero : (n : ℕ) (ts : List Token) → n ≡ 0 → read_one atom ts ≡ read_factor n ts
unfolding read_factor
factor_zero zero ts e = refl
factor_zero (suc n) ts e = absurd (omega arith)

negated_same : (z : Read Expr) → (z >>= negated_of) ≡ ((z >>= paired tt) >>= made negative)
negated_same (Ok x) = refl
negated_same (Err w) = refl

snd_is : (a b : Unit {0} × List Token) → Some a ≡ Some b → a.1 ≡ b.1
snd_is a b e = let same : a ≡ b = cc in ap (λ (z : Unit {0} × List Token). z.1) same

pub factor_minus : (n : ℕ) (ts rest : List Token) → n ≢ 0 → Some (tt, rest) ≡ front_of minus ts → read_negated (read_factor (n - 1)) rest ≡ read_factor n ts
unfolding read_factor
factor_minus zero ts rest some e = absurd (some refl)
factor_minus (suc n) (Mark Minus ∷ ts) rest some e =
    let same : rest ≡ ts = snd_is (tt, rest) (tt, ts) e in
    let less : suc n - 1 ≡ n = omega arith in
    ap (λ k. read_negated (read_factor k) rest) less ∙ ap (read_negated (read_factor n)) same ∙ negated_same (read_factor n ts)
factor_minus (suc n) ts rest some e = absurd (let n : ⊥ = cc in n)

closed_same : (z : Read Expr) → (z >>= closed_of) ≡ (((z >>= paired tt) >>= second (read_one close_mark)) >>= made inner)
closed_same (Ok x) = last (read_one close_mark x.1)
  where
    last : (z : Read (Unit {0})) → (z >>= left_over x.0) ≡ ((z >>= paired (tt, x.0)) >>= made inner)
    last (Ok y) = refl
    last (Err w) = refl
closed_same (Err w) = refl

pub factor_open : (n : ℕ) (ts rest : List Token) → n ≢ 0 → Some (tt, rest) ≡ front_of open_mark ts → read_closed (read_factor (n - 1)) rest ≡ read_factor n ts
unfolding read_factor
factor_open zero ts rest some e = absurd (some refl)
factor_open (suc n) (Mark Open ∷ ts) rest some e =
    let same : rest ≡ ts = snd_is (tt, rest) (tt, ts) e in
    let less : suc n - 1 ≡ n = omega arith in
    ap (λ k. read_closed (read_factor k) rest) less ∙ ap (read_closed (read_factor n)) same ∙ closed_same (read_inside (read_factor n) ts)
factor_open (suc n) ts rest some e = absurd (let n : ⊥ = cc in n)

pub factor_else : (n : ℕ) (ts : List Token) → n ≢ 0 → None ≡ front_of minus ts → None ≡ front_of open_mark ts → read_one atom ts ≡ read_factor n ts
unfolding read_factor
factor_else zero ts some a b = absurd (some refl)
factor_else (suc n) ts some a b = sym (if_false (begins (passes minus) ts) _ _ (not_front minus ts a) ∙ if_false (begins (passes open_mark) ts) _ _ (not_front open_mark ts b))

crossed_same : (z : Read (List (List ℕ))) (text : List ℕ) → ((z >>= behind text) >>= crossed) ≡ ((z >>= paired (text, tt)) >>= made cross)
crossed_same (Ok x) text = refl
crossed_same (Err w) text = refl

pub inside_pair : (n : ℕ) (ts rest : List Token) (text : List ℕ) → Some (text, rest) ≡ pair_front ts → read_rest text rest ≡ read_inside (read_factor n) ts
unfolding read_inside
inside_pair n (Name a ∷ Mark Comma ∷ ts) rest text e =
    let same : (text, rest) ≡ (a, ts) = cc in
    ap (λ (z : List ℕ × List Token). read_rest z.0 z.1) same ∙ crossed_same (read_names ts) a
inside_pair n ts rest text e = absurd (let n : ⊥ = cc in n)

pub inside_sum : (n : ℕ) (ts : List Token) → None ≡ pair_front ts → read_sum (read_factor n) ts ≡ read_inside (read_factor n) ts
unfolding read_inside
inside_sum n (Name a ∷ Mark Comma ∷ ts) e = absurd (let n : ⊥ = cc in n)
inside_sum n (Name a ∷ ts) e = refl
inside_sum n ts e = refl

grown_same : (all : List (List ℕ)) (ys : List (Unit {0} × List ℕ)) → all ++ map (λ x. x.1) ys ≡ fold grown all ys
grown_same all [] = append-nil all
grown_same all (y ∷ ys) = sym (append_assoc all (y.1 ∷ []) (map (λ x. x.1) ys)) ∙ grown_same (all ++ y.1 ∷ []) ys

abbrev first_names : List ℕ → List ℕ × List (Unit {0} × List ℕ) → List (List ℕ)
first_names first v = first ∷ names_of v

behind_same : (z : Read (List ℕ × List (Unit {0} × List ℕ))) (first : List ℕ) → ((z >>= made names_of) >>= behind first) ≡ (z >>= made (first_names first))
behind_same (Ok x) first = refl
behind_same (Err w) first = refl

abbrev pub never : Token → Bool
never t = false

pub names_start : (first : List ℕ) (ts : List Token) (x : List ℕ × List Token) → read_one name ts ≡ Ok x → read_behind first ts ≡ onward grown comma (read_one name) (first ∷ x.0 ∷ []) x.1
unfolding read_names
names_start first ts x e =
    behind_same (read_chain comma (read_one name) ts) first
    ∙ onward_start (One name) never (read_one name) (one_law name some_name) comma (λ t e. refl) (Mark Comma, tt, refl) one_name grown (first_names first) ts x (first ∷ x.0 ∷ []) (λ ys. grown_same (first ∷ x.0 ∷ []) ys) e

pub names_fail : (first : List ℕ) (ts rest : List Token) → read_one name ts ≡ Err rest → read_behind first ts ≡ Err rest
unfolding read_names
names_fail first ts rest e =
    behind_same (read_chain comma (read_one name) ts) first
    ∙ onward_fail (One name) never (read_one name) (one_law name some_name) comma (λ t e. refl) (Mark Comma, tt, refl) one_name grown (first_names first) ts rest e
