-- The names in the text of a formula are those in its atoms.
use Rattle.std.proofs.Common.{◌≡◌, ◌∙◌, inl, inr, ℕ, zero, suc, Bool, true, false, not, ◌&&◌, List, [], ◌∷◌, map, Option, Some, None, is_some, is_none, option_map, unwrap_or, refl, sym, ap, fold, true≢false}
use Rattle.std.specs.Prelude.{ℤ, if◌then◌else◌, slice_get}
use Rattle.std.specs.Option.{option_and_then}
use Rattle.std.specs.List.{list_all, find as first}
use Rattle.std.proofs.lemmas.List.Folds.{list_all-append}
use Rattle.aso_token.specs.declared.token.Token.{Token}
use Rattle.aso_token.specs.declared.token.Token.TheVariants.{Number, Name, Mark}
use Rattle.aso_token.specs.declared.token.Mark.TheVariants.{Comma, Open, Close, Plus, Minus, Star, Slash}
use Rattle.aso_token.specs.declared.token.Placed.{Placed}
use Rattle.aso_token.specs.Cutting.{cut}
use Rattle.aso_token.specs.Lang.{Lang, One, Then, Or, Makes, UpTo, Many, Chain, put_before}
use Rattle.aso_token.specs.Marks.{comma, open_mark, close_mark, name}
use Rattle.aso_token.specs.Numerals.{number_of}
use Rattle.aso_token.specs.Reads.{tokens_of}
use Rattle.aso_tree.proofs.Positions.{position_cons}
use Rattle.aso_outline.specs.declared.draft.Draft.{Draft}
use Rattle.aso_outline.specs.declared.draft.Op.{Op}
use Rattle.aso_outline.specs.declared.draft.Expr.{Expr}
use Rattle.aso_outline.specs.declared.draft.Expr.TheVariants.{Num, Bin}
use Rattle.aso_outline.specs.declared.draft.Expr.TheBlock.{hidden-the_row-Expr-0}
use Rattle.aso_outline.specs.Atoms.{Atom, atoms}
use Rattle.aso_outline.specs.Extend.{first_foreign}
use Rattle.aso_outline.specs.Members.{find, own_name, same_name, seats}
use Rattle.aso_outline.specs.Ranks.{all_named, members_named, named}
use Rattle.aso_outline.specs.Rules.{is_atom, is_well_named}
use Rattle.aso_outline.specs.declared.seat.Seat.{Seat}
use Rattle.aso_outline.proofs.AtomSteps.{all_bin, all_cell, all_neg}
use Rattle.aso_outline.proofs.ByName.{find_position}
use Rattle.aso_formula.specs.Formula.{sum_mark, product_mark, minus, atom, operated, from_left, negative, inner, names_of, cross, Term, Sum, Names, Inside, Negative, Nested, Factor, Formula, SpellsFormula}
use Rattle.aso_formula.specs.Places.{first_unknown, is_unknown}

-- ---- both of two

pub first_of : (a b : Bool) → (a && b) ≡ true → a ≡ true
first_of true b e = refl
first_of false b e = absurd (true≢false (sym e))

pub second_of : (a b : Bool) → (a && b) ≡ true → b ≡ true
second_of true b e = e
second_of false b e = absurd (true≢false (sym e))

and_true : (b : Bool) → (b && true) ≡ b
and_true true = refl
and_true false = refl

both : (a b c d : Bool) → a ≡ b → c ≡ d → (a && c) ≡ (b && d)
both a b c d e f = ap (λ (x : Bool). x && c) e ∙ ap (λ (x : Bool). b && x) f

regrouped : (a b c : Bool) → (a && (b && c)) ≡ ((a && b) && c)
regrouped true b c = refl
regrouped false b c = refl

-- ---- names of a test, in texts and in formulas

module _ (test : List ℕ → Bool) where
  -- a token that is no name passes
  abbrev passing : Token → Bool
  passing t = unwrap_or (option_map test (name t)) true

  abbrev of_atoms : Expr → Bool
  of_atoms e = list_all (λ names. list_all test names) (atoms e)

  -- the names of the language's texts all pass where this of what they spell holds
  abbrev Tells : {A : Type 0} → Lang A → (A → Bool) → Type 0
  Tells {A} P g = (ts : List Token) (a : A) → P ts a → list_all passing ts ≡ g a

  one_tells : {A : Type 0} (f : Token → Option A) (g : A → Bool) → ((t : Token) (a : A) → f t ≡ Some a → passing t ≡ g a) → Tells (One f) g
  one_tells f g each ts a (t, is, made) = ap (list_all passing) is ∙ (and_true (passing t) ∙ each t a made)

  then_tells : {A B : Type 0} (P : Lang A) (Q : Lang B) (g : A → Bool) (h : B → Bool) → Tells P g → Tells Q h → Tells (Then P Q) (λ v. g v.0 && h v.1)
  then_tells P Q g h p q ts v (xs, ys, is, x, y) =
      ap (list_all passing) is ∙ (list_all-append passing xs ys ∙ both (list_all passing xs) (g v.0) (list_all passing ys) (h v.1) (p xs v.0 x) (q ys v.1 y))

  or_tells : {A : Type 0} (P Q : Lang A) (g : A → Bool) → Tells P g → Tells Q g → Tells (Or P Q) g
  or_tells P Q g p q ts a (inl x) = p ts a x
  or_tells P Q g p q ts a (inr x) = q ts a x

  makes_tells : {A B : Type 0} (P : Lang A) (f : A → B) (g : A → Bool) (h : B → Bool) → ((a : A) → g a ≡ h (f a)) → Tells P g → Tells (Makes P f) h
  makes_tells P f g h same p ts b (a, x, is) = p ts a x ∙ (same a ∙ ap h is)

  upto_tells : {A : Type 0} (P : Lang A) (g : A → Bool) → Tells P g → (n : ℕ) → Tells (UpTo n P) (list_all g)
  upto_tells P g p zero ts all (none, is) = ap (list_all passing) none ∙ ap (list_all g) is
  upto_tells P g p (suc n) ts all (inl x) = makes_tells (Then P (UpTo n P)) put_before (λ v. g v.0 && list_all g v.1) (list_all g) (λ v. refl) (then_tells P (UpTo n P) g (list_all g) p (upto_tells P g p n)) ts all x
  upto_tells P g p (suc n) ts all (inr (none, is)) = ap (list_all passing) none ∙ ap (list_all g) is

  many_tells : {A : Type 0} (P : Lang A) (g : A → Bool) → Tells P g → Tells (Many P) (list_all g)
  many_tells P g p ts all (n, x) = upto_tells P g p n ts all x

  -- ---- the rules

  abbrev none : {A : Type 0} → A → Bool
  none a = true

  abbrev of_part : Op × Expr → Bool
  of_part x = none x.0 && of_atoms x.1

  in_fold : (xs : List (Op × Expr)) (e : Expr) → (of_atoms e && list_all of_part xs) ≡ of_atoms (fold operated e xs)
  in_fold [] e = and_true (of_atoms e)
  in_fold (x ∷ xs) e =
      regrouped (of_atoms e) (of_atoms x.1) (list_all of_part xs)
      ∙ (ap (λ (b : Bool). b && list_all of_part xs) (sym (all_bin (λ names. list_all test names) x.0 e x.1)) ∙ in_fold xs (Bin x.0 e x.1))

  sum_plain : (t : Token) (o : Op) → sum_mark t ≡ Some o → passing t ≡ true
  sum_plain (Mark Plus) o e = refl
  sum_plain (Mark Minus) o e = refl
  sum_plain t o e = absurd (let n : ⊥ = cc in n)

  product_plain : (t : Token) (o : Op) → product_mark t ≡ Some o → passing t ≡ true
  product_plain (Mark Star) o e = refl
  product_plain (Mark Slash) o e = refl
  product_plain t o e = absurd (let n : ⊥ = cc in n)

  minus_plain : (t : Token) (o : Unit {0}) → minus t ≡ Some o → passing t ≡ true
  minus_plain (Mark Minus) o e = refl
  minus_plain t o e = absurd (let n : ⊥ = cc in n)

  comma_plain : (t : Token) (o : Unit {0}) → comma t ≡ Some o → passing t ≡ true
  comma_plain (Mark Comma) o e = refl
  comma_plain t o e = absurd (let n : ⊥ = cc in n)

  open_plain : (t : Token) (o : Unit {0}) → open_mark t ≡ Some o → passing t ≡ true
  open_plain (Mark Open) o e = refl
  open_plain t o e = absurd (let n : ⊥ = cc in n)

  close_plain : (t : Token) (o : Unit {0}) → close_mark t ≡ Some o → passing t ≡ true
  close_plain (Mark Close) o e = refl
  close_plain t o e = absurd (let n : ⊥ = cc in n)

  name_told : (t : Token) (a : List ℕ) → name t ≡ Some a → passing t ≡ test a
  name_told t a e = ap (λ (n : Option (List ℕ)). unwrap_or (option_map test n) true) e

  num_none : (z : ℤ) → true ≡ of_atoms (Num z)
  unfolding hidden-the_row-Expr-0 denote.Hole.Carrier.hidden
  num_none z = refl

  abbrev some_in : Option Expr → Bool
  some_in (Some e) = of_atoms e
  some_in None = true

  number_told : (z : Option ℤ) (e : Expr) → option_map Num z ≡ Some e → true ≡ of_atoms e
  number_told (Some z) e is = num_none z ∙ ap some_in is
  number_told None e is = absurd (let n : ⊥ = cc in n)

  atom_told : (t : Token) (e : Expr) → atom t ≡ Some e → passing t ≡ of_atoms e
  atom_told (Number text) e is = number_told (number_of text) e is
  atom_told (Name text) e is = sym (and_true (test text)) ∙ (sym (all_cell (λ names. list_all test names) (text ∷ [])) ∙ ap some_in is)
  atom_told t e is = absurd (let n : ⊥ = cc in n)

  later_names : (xs : List (Unit {0} × List ℕ)) → list_all (λ (x : Unit {0} × List ℕ). none x.0 && test x.1) xs ≡ list_all test (map (λ x. x.1) xs)
  later_names [] = refl
  later_names (x ∷ xs) = ap (λ (b : Bool). test x.1 && b) (later_names xs)

  names_tell : Tells Names (list_all test)
  names_tell =
      makes_tells (Chain comma (One name)) names_of (λ v. test v.0 && list_all (λ (x : Unit {0} × List ℕ). none x.0 && test x.1) v.1) (list_all test) (λ v. ap (λ (b : Bool). test v.0 && b) (later_names v.1))
      (then_tells (One name) (Many (Then (One comma) (One name))) test (list_all (λ (x : Unit {0} × List ℕ). none x.0 && test x.1)) (one_tells name test name_told)
      (many_tells (Then (One comma) (One name)) (λ (x : Unit {0} × List ℕ). none x.0 && test x.1) (then_tells (One comma) (One name) none test (one_tells comma none comma_plain) (one_tells name test name_told))))

  cross_tells : Tells (Makes (Then (Then (One name) (One comma)) Names) cross) of_atoms
  cross_tells =
      makes_tells (Then (Then (One name) (One comma)) Names) cross (λ v. (test v.0.0 && none v.0.1) && list_all test v.1) of_atoms
      (λ v. ap (λ (b : Bool). b && list_all test v.1) (and_true (test v.0.0)) ∙ sym (all_cell (λ names. list_all test names) (v.0.0 ∷ v.1)))
      (then_tells (Then (One name) (One comma)) Names (λ v. test v.0 && none v.1) (list_all test) (then_tells (One name) (One comma) test none (one_tells name test name_told) (one_tells comma none comma_plain)) names_tell)

  chain_tells : (P : Lang Expr) → Tells P of_atoms → (between : Token → Option Op) → ((t : Token) (o : Op) → between t ≡ Some o → passing t ≡ true) → Tells (Makes (Chain between P) from_left) of_atoms
  chain_tells P p between plain =
      makes_tells (Chain between P) from_left (λ v. of_atoms v.0 && list_all of_part v.1) of_atoms (λ v. in_fold v.1 v.0)
      (then_tells P (Many (Then (One between) P)) of_atoms (list_all of_part) p
      (many_tells (Then (One between) P) of_part (then_tells (One between) P none of_atoms (one_tells between none plain) p)))

  module _ (F : Lang Expr) (f : Tells F of_atoms) where
    sum_tells : Tells (Sum F) of_atoms
    sum_tells = chain_tells (Term F) (chain_tells F f product_mark product_plain) sum_mark sum_plain

    inside_tells : Tells (Inside F) of_atoms
    inside_tells = or_tells (Makes (Then (Then (One name) (One comma)) Names) cross) (Sum F) of_atoms cross_tells sum_tells

    negative_tells : Tells (Negative F) of_atoms
    negative_tells =
        makes_tells (Then (One minus) F) negative (λ v. none v.0 && of_atoms v.1) of_atoms (λ v. sym (all_neg (λ names. list_all test names) v.1))
        (then_tells (One minus) F none of_atoms (one_tells minus none minus_plain) f)

    nested_tells : Tells (Nested F) of_atoms
    nested_tells =
        makes_tells (Then (Then (One open_mark) (Inside F)) (One close_mark)) inner (λ v. (none v.0.0 && of_atoms v.0.1) && none v.1) of_atoms (λ v. and_true (of_atoms v.0.1))
        (then_tells (Then (One open_mark) (Inside F)) (One close_mark) (λ v. none v.0 && of_atoms v.1) none
        (then_tells (One open_mark) (Inside F) none of_atoms (one_tells open_mark none open_plain) inside_tells) (one_tells close_mark none close_plain))

  factor_tells : (n : ℕ) → Tells (Factor n) of_atoms
  factor_tells zero = one_tells atom of_atoms atom_told
  factor_tells (suc n) =
      or_tells (Negative (Factor n)) (Or (Nested (Factor n)) (One atom)) of_atoms (negative_tells (Factor n) (factor_tells n))
      (or_tells (Nested (Factor n)) (One atom) of_atoms (nested_tells (Factor n) (factor_tells n)) (one_tells atom of_atoms atom_told))

  names_told : (text : List ℕ) (e : Expr) → SpellsFormula text e → list_all passing (tokens_of (cut false text).placed) ≡ of_atoms e
  unfolding Formula
  names_told text e (whole, spelled) = sum_tells (Factor 64) (factor_tells 64) (tokens_of (cut false text).placed) e spelled

-- ---- a formula of atoms of a dimension

module _ (o : Draft) (d : ℕ) where
  abbrev known : List ℕ → Bool
  known text = is_some (named o text)

  atom_known : (names : Atom) → is_atom o d names ≡ true → list_all known names ≡ true
  unfolding is_atom
  atom_known names e = first_of (all_named o names) (is_well_named o d (members_named o names)) e

  atoms_known : (all : List Atom) → list_all (is_atom o d) all ≡ true → list_all (λ names. list_all known names) all ≡ true
  atoms_known [] e = refl
  atoms_known (names ∷ all) e =
      let here : list_all known names ≡ true = atom_known names (first_of (is_atom o d names) (list_all (is_atom o d) all) e) in
      ap (λ (b : Bool). b && list_all (λ names. list_all known names) all) here ∙ atoms_known all (second_of (is_atom o d names) (list_all (is_atom o d) all) e)

  -- no atom is foreign
  pub none_foreign : (all : List Atom) → list_all (is_atom o d) all ≡ true → first_foreign o d all ≡ None
  none_foreign [] e = refl
  none_foreign (names ∷ all) e =
      position_cons (λ (a : Atom). not (is_atom o d a)) names all
      ∙ (ap (λ (b : Bool). if not b then Some 0 else option_map (λ (k : ℕ). suc k) (first_foreign o d all)) (first_of (is_atom o d names) (list_all (is_atom o d) all) e)
      ∙ ap (option_map (λ (k : ℕ). suc k)) (none_foreign all (second_of (is_atom o d names) (list_all (is_atom o d) all) e)))

  by_number : (text : List ℕ) → named o text ≡ option_and_then (λ (k : ℕ). slice_get (seats o) k) (find o text)
  unfolding named find
  by_number text = find_position (λ s. unwrap_or (option_map (same_name text) (own_name o s)) false) (seats o)

  found : (x : Option ℕ) → is_some (option_and_then (λ (k : ℕ). slice_get (seats o) k) x) ≡ true → is_none x ≡ false
  found (Some k) e = refl
  found None e = absurd (true≢false (sym e))

  has_member : (n : Option (List ℕ)) → unwrap_or (option_map known n) true ≡ true → unwrap_or (option_map (λ (text : List ℕ). is_none (find o text)) n) false ≡ false
  has_member (Some text) e = found (find o text) (ap (λ (s : Option Seat). is_some s) (sym (by_number text)) ∙ e)
  has_member None e = refl

  none_among : (ps : List Placed) → list_all (passing known) (tokens_of ps) ≡ true → first (is_unknown o) ps ≡ None
  none_among [] e = refl
  none_among (p ∷ ps) e =
      ap (λ (b : Bool). if b then Some p else first (is_unknown o) ps) (has_member (name p.token) (first_of (passing known p.token) (list_all (passing known) (tokens_of ps)) e))
      ∙ none_among ps (second_of (passing known p.token) (list_all (passing known) (tokens_of ps)) e)

  -- and no name is unknown
  pub none_unknown : (text : List ℕ) (e : Expr) → SpellsFormula text e → list_all (is_atom o d) (atoms e) ≡ true → first_unknown o text ≡ None
  none_unknown text e spelled right = none_among (cut false text).placed (names_told known text e spelled ∙ atoms_known (atoms e) right)
