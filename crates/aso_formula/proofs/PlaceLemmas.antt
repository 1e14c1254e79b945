-- As many atoms begin in a text as the formula that it spells has.
use Rattle.std.proofs.Common.{◌≡◌, ◌∙◌, ℕ, zero, suc, ◌+◌, Bool, true, false, not, ◌&&◌, List, [], ◌∷◌, ◌++◌, length, length-append, Option, Some, None, ⊎_elim, refl, sym, ap, subst, arith, option_map, fold}
use Rattle.std.specs.Prelude.{if◌then◌else◌, ℤ}
use Rattle.aso_token.specs.declared.token.Token.{Token}
use Rattle.aso_token.specs.declared.token.Token.TheVariants.{Number, Name, Mark}
use Rattle.aso_token.specs.declared.token.Mark.TheVariants.{Comma, Open, Close, Plus, Minus, Star, Slash}
use Rattle.aso_token.specs.declared.token.Placed.{Placed}
use Rattle.aso_token.specs.Cutting.{cut}
use Rattle.aso_token.specs.Lang.{Lang, One, Then, Or, Makes, UpTo, Many, Chain, put_before}
use Rattle.aso_token.specs.Marks.{comma, open_mark, close_mark, name}
use Rattle.aso_token.specs.Numerals.{number_of}
use Rattle.aso_token.specs.Reads.{begins, passes, tokens_of}
use Rattle.aso_outline.specs.declared.draft.Op.{Op}
use Rattle.aso_outline.specs.declared.draft.Expr.{Expr}
use Rattle.aso_outline.specs.declared.draft.Expr.TheVariants.{Num, Cell, Bin}
use Rattle.aso_outline.specs.declared.draft.Expr.TheBlock.{hidden-the_row-Expr-0}
use Rattle.aso_outline.specs.Atoms.{Atom, atoms}
use Rattle.aso_outline.proofs.AtomSteps.{atoms_neg, atoms_bin}
use Rattle.aso_formula.specs.Formula.{sum_mark, product_mark, minus, atom, operated, from_left, negative, inner, names_of, cross, Term, Sum, Names, Inside, Negative, Nested, Factor, Formula, SpellsFormula}
use Rattle.aso_formula.specs.Places.{atom_places, begin_of, begins_in}

-- how many atoms begin among some tokens, given whether a comma stands before them, and whether one stands last
abbrev count : Bool → List Token → ℕ
count c [] = 0
count c (t ∷ ts) = (if passes name t && not c then 1 else 0) + count (passes comma t) ts

abbrev ends : Bool → List Token → Bool
ends c [] = c
ends c (t ∷ ts) = ends (passes comma t) ts

one_or_none : (b : Bool) (x : ℕ) → length (if b then x ∷ [] else []) ≡ (if b then 1 else 0)
one_or_none true x = refl
one_or_none false x = refl

length_begins : (c : Bool) (before : ℕ) (ps : List Placed) → length (begins_in c before ps) ≡ count c (tokens_of ps)
length_begins c before [] = refl
length_begins c before (p ∷ ps) =
    length-append (begin_of c before p ps) (begins_in (passes comma p.token) p.at ps)
    ∙ (ap (λ (n : ℕ). n + length (begins_in (passes comma p.token) p.at ps)) (one_or_none (passes name p.token && not c) (if begins (passes comma) (tokens_of ps) then before else p.at))
    ∙ ap (λ (n : ℕ). (if passes name p.token && not c then 1 else 0) + n) (length_begins (passes comma p.token) p.at ps))

count_append : (c : Bool) (xs ys : List Token) → count c (xs ++ ys) ≡ count c xs + count (ends c xs) ys
count_append c [] ys = omega arith
count_append c (x ∷ xs) ys = omega (arith, count_append (passes comma x) xs ys)

ends_append : (c : Bool) (xs ys : List Token) → ends c (xs ++ ys) ≡ ends (ends c xs) ys
ends_append c [] ys = refl
ends_append c (x ∷ xs) ys = ends_append (passes comma x) xs ys

-- the texts of a language have so many atoms, behind a comma or not, and end with no comma
abbrev CountsFrom : Bool → {A : Type 0} → Lang A → (A → ℕ) → Type 0
CountsFrom c {A} P g = (ts : List Token) (a : A) → P ts a → (count c ts ≡ g a) × (ends c ts ≡ false)

abbrev Counts : {A : Type 0} → Lang A → (A → ℕ) → Type 0
Counts P g = CountsFrom false P g

one_counts : (c : Bool) {A : Type 0} (f : Token → Option A) (g : A → ℕ) → ((t : Token) (a : A) → f t ≡ Some a → (count c (t ∷ []) ≡ g a) × (passes comma t ≡ false)) → CountsFrom c (One f) g
one_counts c f g each ts a h = subst (λ (xs : List Token). (count c xs ≡ g a) × (ends c xs ≡ false)) (sym h.1) (each h.0 a h.2)

then_counts : (c : Bool) {A B : Type 0} (P : Lang A) (Q : Lang B) (g : A → ℕ) (h : B → ℕ) → CountsFrom c P g → Counts Q h → CountsFrom c (Then P Q) (λ v. g v.0 + h v.1)
then_counts c P Q g h p q ts v x =
    let xs = x.0 in
    let ys = x.1 in
    let a = p xs v.0 x.3 in
    let b = q ys v.1 x.4 in (
      ap (count c) x.2 ∙ (count_append c xs ys ∙ (ap (λ (d : Bool). count c xs + count d ys) a.1 ∙ (ap (λ (n : ℕ). n + count false ys) a.0 ∙ ap (λ (n : ℕ). g v.0 + n) b.0))),
      ap (ends c) x.2 ∙ (ends_append c xs ys ∙ (ap (λ (d : Bool). ends d ys) a.1 ∙ b.1)),
    )

or_counts : {A : Type 0} (P Q : Lang A) (g : A → ℕ) → Counts P g → Counts Q g → Counts (Or P Q) g
or_counts P Q g p q ts a x = ⊎_elim (λ (y : P ts a). p ts a y) (λ (y : Q ts a). q ts a y) x

makes_counts : (c : Bool) {A B : Type 0} (P : Lang A) (f : A → B) (g : A → ℕ) (h : B → ℕ) → ((a : A) → g a ≡ h (f a)) → CountsFrom c P g → CountsFrom c (Makes P f) h
makes_counts c P f g h same p ts b x =
    let r = p ts x.0 x.1 in
    (r.0 ∙ (same x.0 ∙ ap h x.2), r.1)

abbrev total : {A : Type 0} → (A → ℕ) → List A → ℕ
total g [] = 0
total g (a ∷ all) = g a + total g all

upto_counts : {A : Type 0} (P : Lang A) (g : A → ℕ) → Counts P g → (n : ℕ) → Counts (UpTo n P) (total g)
upto_counts {A} P g p n = by_turns n
  where
    none : (ts : List Token) (all : List A) → (ts ≡ []) × ([] ≡ all) → (count false ts ≡ total g all) × (ends false ts ≡ false)
    none ts all x = (ap (count false) x.0 ∙ ap (total g) x.1, ap (ends false) x.0)

    by_turns : (n : ℕ) → Counts (UpTo n P) (total g)
    by_turns zero ts all x = none ts all x
    by_turns (suc n) ts all x =
        ⊎_elim
        (λ (y : Makes (Then P (UpTo n P)) put_before ts all). makes_counts false (Then P (UpTo n P)) put_before (λ v. g v.0 + total g v.1) (total g) (λ a. refl) (then_counts false P (UpTo n P) g (total g) p (by_turns n)) ts all y)
        (λ (y : (ts ≡ []) × ([] ≡ all)). none ts all y) x

many_counts : {A : Type 0} (P : Lang A) (g : A → ℕ) → Counts P g → Counts (Many P) (total g)
many_counts P g p ts all x = upto_counts P g p x.0 ts all x.1

-- ---- the rules

abbrev atoms_in : Expr → ℕ
atoms_in e = length (atoms e)

abbrev nothing : {A : Type 0} → A → ℕ
nothing a = 0

in_bin : (op : Op) (e f : Expr) → atoms_in (Bin op e f) ≡ atoms_in e + atoms_in f
in_bin op e f = ap length (atoms_bin op e f) ∙ length-append (atoms e) (atoms f)

in_fold : (xs : List (Op × Expr)) (e : Expr) → atoms_in e + total (λ (x : Op × Expr). nothing x.0 + atoms_in x.1) xs ≡ atoms_in (fold operated e xs)
in_fold [] e = omega arith
in_fold (x ∷ xs) e = omega (arith, in_bin x.0 e x.1, in_fold xs (Bin x.0 e x.1))

sum_plain : (t : Token) (o : Op) → sum_mark t ≡ Some o → (count false (t ∷ []) ≡ 0) × (passes comma t ≡ false)
sum_plain (Mark Plus) o e = (refl, refl)
sum_plain (Mark Minus) o e = (refl, refl)
sum_plain t o e = absurd (let n : ⊥ = cc in n)

product_plain : (t : Token) (o : Op) → product_mark t ≡ Some o → (count false (t ∷ []) ≡ 0) × (passes comma t ≡ false)
product_plain (Mark Star) o e = (refl, refl)
product_plain (Mark Slash) o e = (refl, refl)
product_plain t o e = absurd (let n : ⊥ = cc in n)

minus_plain : (t : Token) (o : Unit {0}) → minus t ≡ Some o → (count false (t ∷ []) ≡ 0) × (passes comma t ≡ false)
minus_plain (Mark Minus) o e = (refl, refl)
minus_plain t o e = absurd (let n : ⊥ = cc in n)

open_plain : (t : Token) (o : Unit {0}) → open_mark t ≡ Some o → (count false (t ∷ []) ≡ 0) × (passes comma t ≡ false)
open_plain (Mark Open) o e = (refl, refl)
open_plain t o e = absurd (let n : ⊥ = cc in n)

close_plain : (t : Token) (o : Unit {0}) → close_mark t ≡ Some o → (count false (t ∷ []) ≡ 0) × (passes comma t ≡ false)
close_plain (Mark Close) o e = (refl, refl)
close_plain t o e = absurd (let n : ⊥ = cc in n)

num_none : (z : ℤ) → 0 ≡ atoms_in (Num z)
unfolding hidden-the_row-Expr-0 denote.Hole.Carrier.hidden
num_none z = refl

cell_one : (names : Atom) → 1 ≡ atoms_in (Cell names)
unfolding hidden-the_row-Expr-0 denote.Hole.Carrier.hidden
cell_one names = refl

number_plain : (o : Option ℤ) (e : Expr) → option_map Num o ≡ Some e → 0 ≡ atoms_in e
number_plain (Some z) e is = num_none z ∙ ap (λ (x : Option Expr). some_in x) is
  where
    some_in : Option Expr → ℕ
    some_in (Some x) = atoms_in x
    some_in None = 0
number_plain None e is = absurd (let n : ⊥ = cc in n)

atom_plain : (t : Token) (e : Expr) → atom t ≡ Some e → (count false (t ∷ []) ≡ atoms_in e) × (passes comma t ≡ false)
atom_plain (Number text) e is = (number_plain (number_of text) e is, refl)
atom_plain (Name text) e is = (cell_one (text ∷ []) ∙ ap some_in is, refl)
  where
    some_in : Option Expr → ℕ
    some_in (Some x) = atoms_in x
    some_in None = 0
atom_plain t e is = absurd (let n : ⊥ = cc in n)

-- a later member, and the comma before it
later_plain : (t : Token) (a : List ℕ) → name t ≡ Some a → (count true (t ∷ []) ≡ 0) × (passes comma t ≡ false)
later_plain (Name text) a e = (refl, refl)
later_plain t a e = absurd (let n : ⊥ = cc in n)

pair_counts : Counts (Then (One comma) (One name)) nothing
pair_counts ts v x = by_tokens x.3.0 x.4.0 x.3.2 x.4.2
  where
    same : ts ≡ x.3.0 ∷ x.4.0 ∷ []
    same = x.2 ∙ (ap (λ (xs : List Token). xs ++ x.1) x.3.1 ∙ ap (λ (ys : List Token). x.3.0 ∷ ys) x.4.1)

    by_both : (t u : Token) → comma t ≡ Some v.0 → name u ≡ Some v.1 → (count false (t ∷ u ∷ []) ≡ 0) × (ends false (t ∷ u ∷ []) ≡ false)
    by_both (Mark Comma) (Name text) e f = (refl, refl)
    by_both t u e f = absurd (let n : ⊥ = cc in n)

    by_tokens : (t u : Token) → comma t ≡ Some v.0 → name u ≡ Some v.1 → (count false ts ≡ 0) × (ends false ts ≡ false)
    by_tokens t u e f = subst (λ (xs : List Token). (count false xs ≡ 0) × (ends false xs ≡ false)) (sym same) (by_both x.3.0 x.4.0 x.3.2 x.4.2)

total_nothing : {A : Type 0} (xs : List A) → total nothing xs ≡ 0
total_nothing [] = refl
total_nothing (x ∷ xs) = omega (arith, total_nothing xs)

names_count : CountsFrom true Names nothing
names_count =
    makes_counts true (Chain comma (One name)) names_of (λ v. nothing v.0 + total nothing v.1) nothing (λ v. omega (arith, total_nothing v.1))
    (then_counts true (One name) (Many (Then (One comma) (One name))) nothing (total nothing) (one_counts true name nothing later_plain) (many_counts (Then (One comma) (One name)) nothing pair_counts))

-- a first member and its comma
first_pair : (ts : List Token) (v : List ℕ × Unit {0}) → Then (One name) (One comma) ts v → (count false ts ≡ 1) × (ends false ts ≡ true)
first_pair ts v x = subst (λ (xs : List Token). (count false xs ≡ 1) × (ends false xs ≡ true)) (sym same) (by_both x.3.0 x.4.0 x.3.2 x.4.2)
  where
    same : ts ≡ x.3.0 ∷ x.4.0 ∷ []
    same = x.2 ∙ (ap (λ (xs : List Token). xs ++ x.1) x.3.1 ∙ ap (λ (ys : List Token). x.3.0 ∷ ys) x.4.1)

    by_both : (t u : Token) → name t ≡ Some v.0 → comma u ≡ Some v.1 → (count false (t ∷ u ∷ []) ≡ 1) × (ends false (t ∷ u ∷ []) ≡ true)
    by_both (Name text) (Mark Comma) e f = (refl, refl)
    by_both t u e f = absurd (let n : ⊥ = cc in n)

cross_counts : Counts (Makes (Then (Then (One name) (One comma)) Names) cross) atoms_in
cross_counts ts e x =
    let xs = x.1.0 in
    let ys = x.1.1 in
    let a = first_pair xs x.0.0 x.1.3 in
    let b = names_count ys x.0.1 x.1.4 in (
      ap (count false) x.1.2 ∙ (count_append false xs ys ∙ (ap (λ (d : Bool). count false xs + count d ys) a.1 ∙ (ap (λ (n : ℕ). n + count true ys) a.0 ∙ (ap (λ (n : ℕ). 1 + n) b.0 ∙ (cell_one (x.0.0.0 ∷ x.0.1) ∙ ap atoms_in x.2))))),
      ap (ends false) x.1.2 ∙ (ends_append false xs ys ∙ (ap (λ (d : Bool). ends d ys) a.1 ∙ b.1)),
    )

module _ (F : Lang Expr) (f : Counts F atoms_in) where
  chain_counts : (P : Lang Expr) → Counts P atoms_in → (between : Token → Option Op) → ((t : Token) (o : Op) → between t ≡ Some o → (count false (t ∷ []) ≡ 0) × (passes comma t ≡ false)) → Counts (Makes (Chain between P) from_left) atoms_in
  chain_counts P p between plain =
      makes_counts false (Chain between P) from_left (λ v. atoms_in v.0 + total (λ (x : Op × Expr). nothing x.0 + atoms_in x.1) v.1) atoms_in (λ v. in_fold v.1 v.0)
      (then_counts false P (Many (Then (One between) P)) atoms_in (total (λ (x : Op × Expr). nothing x.0 + atoms_in x.1)) p
      (many_counts (Then (One between) P) (λ (x : Op × Expr). nothing x.0 + atoms_in x.1) (then_counts false (One between) P nothing atoms_in (one_counts false between nothing plain) p)))

  sum_counts : Counts (Sum F) atoms_in
  sum_counts = chain_counts (Term F) (chain_counts F f product_mark product_plain) sum_mark sum_plain

  inside_counts : Counts (Inside F) atoms_in
  inside_counts = or_counts (Makes (Then (Then (One name) (One comma)) Names) cross) (Sum F) atoms_in cross_counts sum_counts

  negative_counts : Counts (Negative F) atoms_in
  negative_counts =
      makes_counts false (Then (One minus) F) negative (λ v. nothing v.0 + atoms_in v.1) atoms_in (λ v. omega (arith, ap length (atoms_neg v.1)))
      (then_counts false (One minus) F nothing atoms_in (one_counts false minus nothing minus_plain) f)

  nested_counts : Counts (Nested F) atoms_in
  nested_counts =
      makes_counts false (Then (Then (One open_mark) (Inside F)) (One close_mark)) inner (λ v. (nothing v.0.0 + atoms_in v.0.1) + nothing v.1) atoms_in (λ v. omega arith)
      (then_counts false (Then (One open_mark) (Inside F)) (One close_mark) (λ v. nothing v.0 + atoms_in v.1) nothing
      (then_counts false (One open_mark) (Inside F) nothing atoms_in (one_counts false open_mark nothing open_plain) inside_counts) (one_counts false close_mark nothing close_plain))

factor_counts : (n : ℕ) → Counts (Factor n) atoms_in
factor_counts zero = one_counts false atom atoms_in atom_plain
factor_counts (suc n) =
    or_counts (Negative (Factor n)) (Or (Nested (Factor n)) (One atom)) atoms_in (negative_counts (Factor n) (factor_counts n))
    (or_counts (Nested (Factor n)) (One atom) atoms_in (nested_counts (Factor n) (factor_counts n)) (one_counts false atom atoms_in atom_plain))

pub atoms_placed : (text : List ℕ) (e : Expr) → SpellsFormula text e → length (atom_places text) ≡ length (atoms e)
unfolding Formula
atoms_placed text e s = length_begins false 0 (cut false text).placed ∙ (sum_counts (Factor 64) (factor_counts 64) (tokens_of (cut false text).placed) e s.1).0
