-- What is printed spells what it was printed from, and no text that spells that has fewer parentheses.
use Rattle.std.proofs.Common.{◌≡◌, ℕ, zero, suc, ◌+◌, ◌≤◌, ◌<◌, ◌^◌, Bool, true, false, List, [], ◌∷◌, ◌++◌, length, map, flat_map, Option, Some, None, refl, sym, ◌∙◌, ap, subst, append_assoc, append-nil, arith, ◌⊎◌, inl, inr, ⊎_elim, if◌then◌else◌, nat_lt, nat_le, fold, pos, ℤ, take, drop, not, ◌&&◌, ◌==◌, ◌-◌, Result, Ok, Err, option_map}
use Rattle.std.specs.List.{prefix_len, list_all}
use Rattle.std.specs.Result.{result_ok}
use Rattle.std.proofs.lemmas.List.Sums.{fold-append}
use Rattle.std.proofs.lemmas.Bool.{leb-false}
use Rattle.aso_token.specs.declared.token.Token.{Token}
use Rattle.aso_token.specs.declared.token.Token.TheVariants.{Number, Name, Mark as AMark}
use Rattle.aso_token.specs.declared.token.Mark.{Mark}
use Rattle.aso_token.specs.declared.token.Mark.TheVariants.{Comma, Open, Close, Plus, Minus, Star, Slash, Equals}
use Rattle.aso_token.specs.Lang.{Lang, One, Then, Makes, UpTo, Chain}
use Rattle.aso_token.specs.Marks.{comma, open_mark, name}
use Rattle.aso_token.specs.Reads.{tokens_of}
use Rattle.aso_token.specs.declared.token.Placed.{Placed}
use Rattle.aso_token.specs.declared.front.Front.{Front}
use Rattle.aso_token.specs.Lexing.{is_digit, is_letter, is_blank, mark_of, until, number_len, name_span, closed, open_at_end, content, opens_comment, single, number_front, name_front, front_of}
use Rattle.aso_token.specs.Cutting.{placed_of, cut_from, cut}
use Rattle.aso_token.proofs.Pieces.{after_front}
use Rattle.aso_outline.specs.declared.draft.Op.{Op}
use Rattle.aso_outline.specs.declared.draft.Op.TheVariants as op
use Rattle.aso_outline.specs.declared.draft.Expr.{Expr}
use Rattle.aso_outline.specs.declared.draft.Expr.TheOpen.{Expr-F}
use Rattle.aso_outline.specs.declared.draft.Expr.TheFolds.{fold-Expr}
use Rattle.aso_outline.specs.declared.draft.Expr.TheVariants.{Num, Cell, Neg, Bin}
use Rattle.aso_formula.specs.Formula.{sum_mark, product_mark, atom, operated, from_left, cross, Term, Sum, Names, Inside, Factor, Formula, SpellsFormula}
use Rattle.aso_formula.specs.Printing.{level_of, op_text, bracketed, more_names, cell_text, units_text, number_text, in_parens, shown_step, shown, formula_text, opens, parens_of}
use Rattle.aso_num.specs.AmountText.{is_negative, digits_len, amount_of, parts_of, judged, Parts, signed, units_of}
use Rattle.aso_num.specs.declared.amount.NumberFault.{NumberFault}
use Rattle.aso_num.specs.declared.amount.NumberFault.TheVariants.{NotNumber, Decimals, Range}
use Rattle.aso_token.specs.Numerals.{number_of}
use Rattle.aso_token.proofs.Lexed.{Lexes, Free, HasNoEnd, lexes_none, lex_space, lex_open, lex_close, lex_star, lex_plus, lex_comma, lex_minus, lex_slash, lex_name, lex_number}
use Rattle.aso_formula.proofs.Numbers.{units_number, units_numeral}
use Rattle.aso_formula.proofs.Trees.{fold_num, fold_cell, fold_neg, fold_bin}

-- ---- texts with one more at their end

upto_snoc : {A : Type 0} (P : Lang A) (n : ℕ) (xs ys : List Token) (all : List A) (a : A) → UpTo n P xs all → P ys a → UpTo (suc n) P (xs ++ ys) (all ++ a ∷ [])
upto_snoc {A} P zero xs ys all a h p =
    inl ((a, []), (ys, [], ap (λ (z : List Token). z ++ ys) h.0 ∙ sym (append-nil ys), p, (refl, refl)), ap (λ (z : List A). z ++ a ∷ []) h.1)
upto_snoc {A} P (suc m) xs ys all a (inl k) p =
    let us = k.1.0 in
    let vs = k.1.1 in
    inl ((k.0.0, k.0.1 ++ a ∷ []), (us, vs ++ ys, ap (λ (z : List Token). z ++ ys) k.1.2 ∙ append_assoc us vs ys, k.1.3, upto_snoc P m vs ys k.0.1 a k.1.4 p), ap (λ (z : List A). z ++ a ∷ []) k.2)
upto_snoc {A} P (suc m) xs ys all a (inr h) p =
    inl ((a, []), (ys, [], ap (λ (z : List Token). z ++ ys) h.0 ∙ sym (append-nil ys), p, none m), ap (λ (z : List A). z ++ a ∷ []) h.1)
  where
    none : (m : ℕ) → UpTo (suc m) P [] []
    none m = inr (refl, refl)

abbrev pub LeftChain : (Token → Option Op) → Lang Expr → Lang Expr
LeftChain between P = Makes (Chain between P) from_left

chain_one : (P : Lang Expr) (between : Token → Option Op) (ts : List Token) (e : Expr) → P ts e → LeftChain between P ts e
chain_one P between ts e p = ((e, []), (ts, [], sym (append-nil ts), p, (zero, (refl, refl))), refl)

chain_snoc : (P : Lang Expr) (between : Token → Option Op) (xs ys : List Token) (t : Token) (left right : Expr) (o : Op) → LeftChain between P xs left → between t ≡ Some o → P ys right → LeftChain between P (xs ++ t ∷ ys) (Bin o left right)
chain_snoc P between xs ys t left right o h e p =
    let v = h.0 in
    let k = h.1 in (
      (v.0, v.1 ++ (o, right) ∷ []),
      (k.0, k.1 ++ t ∷ ys, ap (λ (z : List Token). z ++ t ∷ ys) k.2 ∙ append_assoc k.0 k.1 (t ∷ ys), k.3, (suc k.4.0, upto_snoc (Then (One between) P) k.4.0 k.1 (t ∷ ys) v.1 (o, right) k.4.1 (t ∷ [], ys, refl, (t, refl, e), p))),
      fold-append operated v.0 v.1 ((o, right) ∷ []) ∙ ap (λ (z : Expr). Bin o z right) h.2,
    )

module _ (P : Lang Expr) (between : Token → Option Op) (R : List Token → Expr → Type 0)
    (step : (xs ys : List Token) (t : Token) (left right : Expr) (o : Op) → R xs left → between t ≡ Some o → P ys right → R (xs ++ t ∷ ys) (Bin o left right)) where
  upto_fold : (n : ℕ) (xs vs : List Token) (left : Expr) (all : List (Op × Expr)) → R xs left → UpTo n (Then (One between) P) vs all → R (xs ++ vs) (fold operated left all)
  upto_fold zero xs vs left all r h =
      subst (λ (z : List Token). R (xs ++ z) (fold operated left all)) (sym h.0)
      (subst (λ (z : List (Op × Expr)). R (xs ++ []) (fold operated left z)) h.1 (subst (λ (z : List Token). R z left) (sym (append-nil xs)) r))
  upto_fold (suc m) xs vs left all r (inr h) =
      subst (λ (z : List Token). R (xs ++ z) (fold operated left all)) (sym h.0)
      (subst (λ (z : List (Op × Expr)). R (xs ++ []) (fold operated left z)) h.1 (subst (λ (z : List Token). R z left) (sym (append-nil xs)) r))
  upto_fold (suc m) xs vs left all r (inl k) =
      let x : Op × Expr = k.0.0 in
      let more : List (Op × Expr) = k.0.1 in
      let cs = k.1.0 in
      let bs = k.1.1 in
      let one = k.1.3 in
      let t = one.3.0 in
      let ds = one.1 in
      let front : cs ≡ t ∷ ds = one.2 ∙ ap (λ (z : List Token). z ++ ds) one.3.1 in
      let here : R (xs ++ t ∷ ds) (Bin x.0 left x.1) = step xs ds t left x.1 x.0 r one.3.2 one.4 in
      let on : R ((xs ++ t ∷ ds) ++ bs) (fold operated (Bin x.0 left x.1) more) = upto_fold m (xs ++ t ∷ ds) bs (Bin x.0 left x.1) more here k.1.4 in
      let same : (xs ++ t ∷ ds) ++ bs ≡ xs ++ vs = append_assoc xs (t ∷ ds) bs ∙ ap (λ (z : List Token). xs ++ z) (sym (k.1.2 ∙ ap (λ (z : List Token). z ++ bs) front)) in
      subst (λ (z : List (Op × Expr)). R (xs ++ vs) (fold operated left z)) k.2 (subst (λ (z : List Token). R z (fold operated (Bin x.0 left x.1) more)) same on)

  chain_fold : ((ts : List Token) (e : Expr) → P ts e → R ts e) → (ts : List Token) (e : Expr) → LeftChain between P ts e → R ts e
  chain_fold start ts e h =
      let k = h.1 in
      subst (λ (z : Expr). R ts z) h.2
      (subst (λ (z : List Token). R z (fold operated h.0.0 h.0.1)) (sym k.2) (upto_fold k.4.0 k.0 k.1 h.0.0 h.0.1 (start k.0 h.0.0 k.3) k.4.1))

chain_more : (P Q : Lang Expr) (between : Token → Option Op) → ((ts : List Token) (e : Expr) → P ts e → Q ts e) → (ts : List Token) (e : Expr) → LeftChain between P ts e → LeftChain between Q ts e
chain_more P Q between sub = chain_fold P between (LeftChain between Q)
    (λ xs ys t left right o r e p. chain_snoc Q between xs ys t left right o r e (sub ys right p))
    (λ ts e p. chain_one Q between ts e (sub ts e p))

-- ---- more nesting is allowed

sum_more : (P Q : Lang Expr) → ((ts : List Token) (e : Expr) → P ts e → Q ts e) → (ts : List Token) (e : Expr) → Sum P ts e → Sum Q ts e
sum_more P Q sub = chain_more (Term P) (Term Q) sum_mark (chain_more P Q product_mark sub)

inside_more : (P Q : Lang Expr) → ((ts : List Token) (e : Expr) → P ts e → Q ts e) → (us : List Token) (x : Expr) → Inside P us x → Inside Q us x
inside_more P Q sub us x (inl c) = inl c
inside_more P Q sub us x (inr s) = inr (sum_more P Q sub us x s)

factor_more : (n : ℕ) (ts : List Token) (e : Expr) → Factor n ts e → Factor (suc n) ts e
factor_more zero ts e h = inr (inr h)
factor_more (suc n) ts e (inl k) =
    inl (k.0, (k.1.0, k.1.1, k.1.2, k.1.3, factor_more n k.1.1 k.0.1 k.1.4), k.2)
factor_more (suc n) ts e (inr (inl k)) =
    let j = k.1 in
    let i = j.3 in
    inr (inl (k.0, (j.0, j.1, j.2, (i.0, i.1, i.2, i.3, inside_more (Factor n) (Factor (suc n)) (factor_more n) i.1 k.0.0.1 i.4), j.4), k.2))
factor_more (suc n) ts e (inr (inr h)) = inr (inr h)

-- ---- parentheses

abbrev pub wrap : List Token → List Token
wrap ts = AMark Open ∷ (ts ++ AMark Close ∷ [])

wrap_factor : (n : ℕ) (ts : List Token) (e : Expr) → Sum (Factor n) ts e → Factor (suc n) (wrap ts) e
wrap_factor n ts e s = inr (inl (((tt, e), tt), (AMark Open ∷ ts, AMark Close ∷ [], refl, (AMark Open ∷ [], ts, refl, (AMark Open, refl, refl), inr s), (AMark Close, refl, refl)), refl))

opens_append : (xs ys : List Token) → opens (xs ++ ys) ≡ opens xs + opens ys
opens_append [] ys = omega arith
opens_append (x ∷ xs) ys = omega (arith, opens_append xs ys)

opens_wrap : (xs : List Token) → opens (wrap xs) ≡ 1 + opens xs
opens_wrap xs = omega (arith, opens_append xs (AMark Close ∷ []))

-- ---- the tokens that are printed

abbrev pub op_token : Op → Token
op_token op.Plus = AMark Plus
op_token op.Minus = AMark Minus
op_token op.Times = AMark Star
op_token op.Over = AMark Slash
op_token op.Skip = AMark Equals

abbrev pub separated : List (List ℕ) → List Token
separated names = flat_map (λ n. AMark Comma ∷ Name n ∷ []) names

abbrev pub cell_tokens : List (List ℕ) → List Token
cell_tokens [] = []
cell_tokens (n ∷ []) = Name n ∷ []
cell_tokens (n ∷ m ∷ names) = wrap (Name n ∷ separated (m ∷ names))

abbrev pub wrapped : Bool → List Token → List Token
wrapped b ts = if b then wrap ts else ts

abbrev pub tokens_step : Expr-F (ℕ → List Token) → ℕ → List Token
tokens_step (Expr-F.Num z) level = Number (number_text z) ∷ []
tokens_step (Expr-F.Cell names) level = cell_tokens names
tokens_step (Expr-F.Neg e) level = AMark Minus ∷ e 2
tokens_step (Expr-F.Bin o left right) level = wrapped (nat_lt (level_of o) level) (left (level_of o) ++ op_token o ∷ right (level_of o + 1))

abbrev pub printed : Expr → ℕ → List Token
printed = fold-Expr (ℕ → List Token) tokens_step

printed_bin : (o : Op) (l r : Expr) (k : ℕ) → printed (Bin o l r) k ≡ wrapped (nat_lt (level_of o) k) (printed l (level_of o) ++ op_token o ∷ printed r (level_of o + 1))
printed_bin o l r k = ap (λ (f : ℕ → List Token). f k) (fold_bin (ℕ → List Token) tokens_step o l r)

shown_bin : (o : Op) (l r : Expr) (k : ℕ) → shown (Bin o l r) k ≡ in_parens (nat_lt (level_of o) k) (shown l (level_of o) ++ (op_text o ++ shown r (level_of o + 1)))
shown_bin o l r k = ap (λ (f : ℕ → List ℕ). f k) (fold_bin (ℕ → List ℕ) shown_step o l r)

printed_neg : (e : Expr) (k : ℕ) → printed (Neg e) k ≡ AMark Minus ∷ printed e 2
printed_neg e k = ap (λ (f : ℕ → List Token). f k) (fold_neg (ℕ → List Token) tokens_step e)

shown_neg : (e : Expr) (k : ℕ) → shown (Neg e) k ≡ 45 ∷ shown e 2
shown_neg e k = ap (λ (f : ℕ → List ℕ). f k) (fold_neg (ℕ → List ℕ) shown_step e)

printed_cell : (names : List (List ℕ)) (k : ℕ) → printed (Cell names) k ≡ cell_tokens names
printed_cell names k = ap (λ (f : ℕ → List Token). f k) (fold_cell (ℕ → List Token) tokens_step names)

shown_cell : (names : List (List ℕ)) (k : ℕ) → shown (Cell names) k ≡ cell_text names
shown_cell names k = ap (λ (f : ℕ → List ℕ). f k) (fold_cell (ℕ → List ℕ) shown_step names)

printed_num : (z : ℤ) (k : ℕ) → printed (Num z) k ≡ Number (number_text z) ∷ []
printed_num z k = ap (λ (f : ℕ → List Token). f k) (fold_num (ℕ → List Token) tokens_step z)

shown_num : (z : ℤ) (k : ℕ) → shown (Num z) k ≡ number_text z
shown_num z k = ap (λ (f : ℕ → List ℕ). f k) (fold_num (ℕ → List ℕ) shown_step z)

-- ---- what is written is cut into what is printed

abbrev Written : List ℕ → List Token → Type 0
Written text us = (rest : List ℕ) (vs : List Token) → Free rest → Lexes rest vs → Lexes (text ++ rest) (us ++ vs)

abbrev pub Good : Expr → Type 0
Good e = (k : ℕ) → Written (shown e k) (printed e k)

written_as : (s t : List ℕ) (us vs : List Token) → s ≡ t → us ≡ vs → Written t vs → Written s us
written_as s t us vs e f w = subst (λ (z : List ℕ). Written z us) (sym e) (subst (λ (z : List Token). Written t z) (sym f) w)

lex_op : (o : Op) → (o ≡ op.Skip → ⊥) → (rest : List ℕ) (vs : List Token) → Lexes rest vs → Lexes (op_text o ++ rest) (op_token o ∷ vs)
lex_op op.Plus some rest vs h = lex_space (43 ∷ 32 ∷ rest) (AMark Plus ∷ vs) (lex_plus (32 ∷ rest) vs (lex_space rest vs h))
lex_op op.Minus some rest vs h = lex_space (45 ∷ 32 ∷ rest) (AMark Minus ∷ vs) (lex_minus (32 ∷ rest) vs (lex_space rest vs h))
lex_op op.Times some rest vs h = lex_space (42 ∷ 32 ∷ rest) (AMark Star ∷ vs) (lex_star (32 ∷ rest) vs (lex_space rest vs h))
lex_op op.Over some rest vs h = lex_space (47 ∷ 32 ∷ rest) (AMark Slash ∷ vs) (lex_slash (32 ∷ rest) vs (lex_space rest vs h))
lex_op op.Skip some rest vs h = absurd (some refl)

written_sides : (o : Op) (a b : List ℕ) (us vs : List Token) → (o ≡ op.Skip → ⊥) → Written a us → Written b vs → Written (a ++ (op_text o ++ b)) (us ++ op_token o ∷ vs)
written_sides o a b us vs some wa wb rest ws free h =
    let right : Lexes (op_text o ++ (b ++ rest)) (op_token o ∷ (vs ++ ws)) = lex_op o some (b ++ rest) (vs ++ ws) (wb rest ws free h) in
    let all : Lexes (a ++ (op_text o ++ (b ++ rest))) (us ++ op_token o ∷ (vs ++ ws)) = wa (op_text o ++ (b ++ rest)) (op_token o ∷ (vs ++ ws)) (refl, refl) right in
    subst (λ (z : List ℕ). Lexes z ((us ++ op_token o ∷ vs) ++ ws)) (sym (append_assoc a (op_text o ++ b) rest))
    (subst (λ (z : List Token). Lexes (a ++ (op_text o ++ (b ++ rest))) z) (sym (append_assoc us (op_token o ∷ vs) ws)) all)

written_parens : (b : Bool) (text : List ℕ) (us : List Token) → Written text us → Written (in_parens b text) (wrapped b us)
written_parens false text us w rest vs free h =
    subst (λ (z : List ℕ). Lexes (z ++ rest) (us ++ vs)) (sym (append-nil text)) (w rest vs free h)
written_parens true text us w rest vs free h =
    let inside : Lexes (text ++ 41 ∷ rest) (us ++ AMark Close ∷ vs) = w (41 ∷ rest) (AMark Close ∷ vs) (refl, refl) (lex_close rest vs h) in
    let all : Lexes (40 ∷ (text ++ 41 ∷ rest)) (AMark Open ∷ (us ++ AMark Close ∷ vs)) = lex_open (text ++ 41 ∷ rest) (us ++ AMark Close ∷ vs) inside in
    subst (λ (z : List ℕ). Lexes (40 ∷ z) (AMark Open ∷ ((us ++ AMark Close ∷ []) ++ vs))) (sym (append_assoc text (41 ∷ []) rest))
    (subst (λ (z : List Token). Lexes (40 ∷ (text ++ 41 ∷ rest)) (AMark Open ∷ z)) (sym (append_assoc us (AMark Close ∷ []) vs)) all)

good_bin : (o : Op) (l r : Expr) → (o ≡ op.Skip → ⊥) → Good l → Good r → Good (Bin o l r)
good_bin o l r some gl gr k =
    written_as (shown (Bin o l r) k) _ (printed (Bin o l r) k) _ (shown_bin o l r k) (printed_bin o l r k)
    (written_parens (nat_lt (level_of o) k) _ _ (written_sides o (shown l (level_of o)) (shown r (level_of o + 1)) (printed l (level_of o)) (printed r (level_of o + 1)) some (gl (level_of o)) (gr (level_of o + 1))))

good_neg : (e : Expr) → Good e → Good (Neg e)
good_neg e g k = written_as (shown (Neg e) k) (45 ∷ shown e 2) (printed (Neg e) k) (AMark Minus ∷ printed e 2) (shown_neg e k) (printed_neg e k)
    (λ rest vs free h. lex_minus (shown e 2 ++ rest) (printed e 2 ++ vs) (g 2 rest vs free h))

good_num : (a : ℕ) → a < 10 ^ 18 → Good (Num (pos a))
good_num a less k = written_as (shown (Num (pos a)) k) (units_text a) (printed (Num (pos a)) k) (Number (units_text a) ∷ []) (shown_num (pos a) k) (printed_num (pos a) k)
    (λ rest vs free h. lex_number (units_text a) rest vs (units_numeral a less) free h)

-- names without a closing bracket
abbrev pub AllNames : List (List ℕ) → Type 0
AllNames [] = Unit {0}
AllNames (n ∷ names) = HasNoEnd n × AllNames names

written_name : (n : List ℕ) → HasNoEnd n → Written (bracketed n) (Name n ∷ [])
written_name n e rest vs free h = lex_name n rest vs e h

written_more : (names : List (List ℕ)) → AllNames names → (rest : List ℕ) (vs : List Token) → Lexes rest vs → Lexes (more_names names ++ rest) (separated names ++ vs)
written_more [] all rest vs h = h
written_more (n ∷ names) all rest vs h =
    let on = written_more names all.1 rest vs h in
    let here : Lexes (bracketed n ++ (more_names names ++ rest)) (Name n ∷ (separated names ++ vs)) = lex_name n (more_names names ++ rest) (separated names ++ vs) all.0 on in
    let front : Lexes (44 ∷ 32 ∷ (bracketed n ++ (more_names names ++ rest))) (AMark Comma ∷ Name n ∷ (separated names ++ vs)) =
    lex_comma (32 ∷ (bracketed n ++ (more_names names ++ rest))) (Name n ∷ (separated names ++ vs)) (lex_space (bracketed n ++ (more_names names ++ rest)) (Name n ∷ (separated names ++ vs)) here) in
    subst (λ (z : List ℕ). Lexes (44 ∷ 32 ∷ z) (AMark Comma ∷ Name n ∷ (separated names ++ vs))) (sym (append_assoc (bracketed n) (more_names names) rest)) front

written_cell : (names : List (List ℕ)) → AllNames names → Written (cell_text names) (cell_tokens names)
written_cell [] all rest vs free h = h
written_cell (n ∷ []) all rest vs free h = written_name n all.0 rest vs free h
written_cell (n ∷ m ∷ names) all rest vs free h =
    let close = lex_close rest vs h in
    let more : Lexes (more_names (m ∷ names) ++ 41 ∷ rest) (separated (m ∷ names) ++ AMark Close ∷ vs) = written_more (m ∷ names) all.1 (41 ∷ rest) (AMark Close ∷ vs) close in
    let first : Lexes (bracketed n ++ (more_names (m ∷ names) ++ 41 ∷ rest)) (Name n ∷ (separated (m ∷ names) ++ AMark Close ∷ vs)) = lex_name n (more_names (m ∷ names) ++ 41 ∷ rest) (separated (m ∷ names) ++ AMark Close ∷ vs) all.0 more in
    let front = lex_open (bracketed n ++ (more_names (m ∷ names) ++ 41 ∷ rest)) (Name n ∷ (separated (m ∷ names) ++ AMark Close ∷ vs)) first in
    subst (λ (z : List ℕ). Lexes (40 ∷ z) (cell_tokens (n ∷ m ∷ names) ++ vs)) (sym (append_assoc (bracketed n ++ more_names (m ∷ names)) (41 ∷ []) rest ∙ append_assoc (bracketed n) (more_names (m ∷ names)) (41 ∷ rest)))
    (subst (λ (z : List Token). Lexes (40 ∷ (bracketed n ++ (more_names (m ∷ names) ++ 41 ∷ rest))) (AMark Open ∷ Name n ∷ z)) (sym (append_assoc (separated (m ∷ names)) (AMark Close ∷ []) vs)) front)

good_cell : (names : List (List ℕ)) → AllNames names → Good (Cell names)
good_cell names all k = written_as (shown (Cell names) k) (cell_text names) (printed (Cell names) k) (cell_tokens names) (shown_cell names k) (printed_cell names k) (written_cell names all)

-- ---- tokens as a text is cut into them

abbrev pub IsCleanToken : Token → Type 0
IsCleanToken (Number text) = is_negative text ≡ false
IsCleanToken (Name text) = HasNoEnd text
IsCleanToken t = Unit {0}

abbrev pub Clean : List Token → Type 0
Clean [] = Unit {0}
Clean (t ∷ ts) = IsCleanToken t × Clean ts

clean_left : (xs ys : List Token) → Clean (xs ++ ys) → Clean xs
clean_left [] ys c = tt
clean_left (x ∷ xs) ys c = (c.0, clean_left xs ys c.1)

clean_right : (xs ys : List Token) → Clean (xs ++ ys) → Clean ys
clean_right [] ys c = c
clean_right (x ∷ xs) ys c = clean_right xs ys c.1

-- ---- how a printed formula fits where it has to stand

record AsSum (n : ℕ) (ts : List Token) (e : Expr) : Type 0 where
  spelled : Sum (Factor n) (printed e 0) e
  fewer : opens (printed e 0) ≤ opens ts

record AsTerm (n : ℕ) (ts : List Token) (e : Expr) : Type 0 where
  spelled : Term (Factor n) (printed e 1) e
  fewer : opens (printed e 1) ≤ opens ts

record AsFactor (n : ℕ) (ts : List Token) (e : Expr) : Type 0 where
  spelled : Factor n (printed e 2) e
  fewer : opens (printed e 2) ≤ opens ts

-- a factor, a product or a sum: where it needs parentheses
abbrev Level : ℕ → Expr → Type 0
Level n e =
    (Factor n (printed e 0) e × (printed e 1 ≡ printed e 0) × (printed e 2 ≡ printed e 0))
    ⊎ ((Term (Factor n) (printed e 0) e × (printed e 1 ≡ printed e 0) × (printed e 2 ≡ wrap (printed e 0)))
    ⊎ ((printed e 1 ≡ wrap (printed e 0)) × (printed e 2 ≡ wrap (printed e 0))))

record Fit (n : ℕ) (ts : List Token) (e : Expr) : Type 0 where
  sum : AsSum n ts e
  level : Level n e
  good : Good e

record FitTerm (n : ℕ) (ts : List Token) (e : Expr) : Type 0 where
  term : AsTerm n ts e
  fit : Fit n ts e

record Best (n : ℕ) (ts : List Token) (e : Expr) : Type 0 where
  factor : AsFactor n ts e
  term : FitTerm n ts e

-- a formula that never needs parentheses
plain : (n : ℕ) (ts : List Token) (e : Expr) (X : List Token) → printed e 0 ≡ X → printed e 1 ≡ X → printed e 2 ≡ X → Factor n X e → opens X ≤ opens ts → Good e → Best n ts e
plain n ts e X p q r f few g =
    let term : Term (Factor n) X e = chain_one (Factor n) product_mark X e f in
    let sum : Sum (Factor n) X e = chain_one (Term (Factor n)) sum_mark X e term in
    record {
      factor = record { spelled = subst (λ (z : List Token). Factor n z e) (sym r) f; fewer = omega (arith, ap opens r, few) };
      term = record {
        term = record { spelled = subst (λ (z : List Token). Term (Factor n) z e) (sym q) term; fewer = omega (arith, ap opens q, few) };
        fit = record {
          sum = record { spelled = subst (λ (z : List Token). Sum (Factor n) z e) (sym p) sum; fewer = omega (arith, ap opens p, few) };
          level = inl (subst (λ (z : List Token). Factor n z e) (sym p) f, q ∙ sym p, r ∙ sym p);
          good = g;
        };
      };
    }

-- within parentheses that may be needless
nest : (n : ℕ) (us ts : List Token) (e : Expr) → Fit n us e → 1 + opens us ≤ opens ts → Best (suc n) ts e
nest n us ts e fit more =
    let few = fit.sum.fewer in
    let around : Factor (suc n) (wrap (printed e 0)) e = wrap_factor n (printed e 0) e fit.sum.spelled in
    let sum : Sum (Factor (suc n)) (printed e 0) e = sum_more (Factor n) (Factor (suc n)) (factor_more n) (printed e 0) e fit.sum.spelled in
    ⊎_elim
    (λ (k : Factor n (printed e 0) e × (printed e 1 ≡ printed e 0) × (printed e 2 ≡ printed e 0)).
    plain (suc n) ts e (printed e 0) refl k.1 k.2 (factor_more n (printed e 0) e k.0) (omega (arith, few, more)) fit.good)
    (λ (k : (Term (Factor n) (printed e 0) e × (printed e 1 ≡ printed e 0) × (printed e 2 ≡ wrap (printed e 0))) ⊎ ((printed e 1 ≡ wrap (printed e 0)) × (printed e 2 ≡ wrap (printed e 0)))). ⊎_elim
    (λ (j : Term (Factor n) (printed e 0) e × (printed e 1 ≡ printed e 0) × (printed e 2 ≡ wrap (printed e 0))).
    let term : Term (Factor (suc n)) (printed e 0) e = chain_more (Factor n) (Factor (suc n)) product_mark (factor_more n) (printed e 0) e j.0 in
    record {
      factor = record { spelled = subst (λ (z : List Token). Factor (suc n) z e) (sym j.2) around; fewer = omega (arith, ap opens j.2, opens_wrap (printed e 0), few, more) };
      term = record {
        term = record { spelled = subst (λ (z : List Token). Term (Factor (suc n)) z e) (sym j.1) term; fewer = omega (arith, ap opens j.1, few, more) };
        fit = record { sum = record { spelled = sum; fewer = omega (arith, few, more) }; level = inr (inl (term, j.1, j.2)); good = fit.good };
      };
    })
    (λ (j : (printed e 1 ≡ wrap (printed e 0)) × (printed e 2 ≡ wrap (printed e 0))).
    let term : Term (Factor (suc n)) (wrap (printed e 0)) e = chain_one (Factor (suc n)) product_mark (wrap (printed e 0)) e around in
    record {
      factor = record { spelled = subst (λ (z : List Token). Factor (suc n) z e) (sym j.1) around; fewer = omega (arith, ap opens j.1, opens_wrap (printed e 0), few, more) };
      term = record {
        term = record { spelled = subst (λ (z : List Token). Term (Factor (suc n)) z e) (sym j.0) term; fewer = omega (arith, ap opens j.0, opens_wrap (printed e 0), few, more) };
        fit = record { sum = record { spelled = sum; fewer = omega (arith, few, more) }; level = inr (inr (j.0, j.1)); good = fit.good };
      };
    })
    k)
    fit.level

-- ---- operators

product_at : (n : ℕ) (xs ys : List Token) (l r : Expr) (o : Op) → product_mark (op_token o) ≡ Some o → (o ≡ op.Skip → ⊥) → (X : List Token) → X ≡ printed l 1 ++ op_token o ∷ printed r 2 → printed (Bin o l r) 0 ≡ X → printed (Bin o l r) 1 ≡ X → printed (Bin o l r) 2 ≡ wrap X → FitTerm n xs l → Best n ys r → FitTerm n (xs ++ op_token o ∷ ys) (Bin o l r)
product_at n xs ys l r o mark some X is p q w fl br =
    let e = Bin o l r in
    let made : Term (Factor n) (printed l 1 ++ op_token o ∷ printed r 2) e = chain_snoc (Factor n) product_mark (printed l 1) (printed r 2) (op_token o) l r o fl.term.spelled mark br.factor.spelled in
    let term : Term (Factor n) X e = subst (λ (z : List Token). Term (Factor n) z e) (sym is) made in
    let few : opens X ≤ opens (xs ++ op_token o ∷ ys) = omega (arith, ap opens is, opens_append (printed l 1) (op_token o ∷ printed r 2), opens_append xs (op_token o ∷ ys), fl.term.fewer, br.factor.fewer) in
    let sum : Sum (Factor n) X e = chain_one (Term (Factor n)) sum_mark X e term in
    record {
      term = record { spelled = subst (λ (z : List Token). Term (Factor n) z e) (sym q) term; fewer = omega (arith, ap opens q, few) };
      fit = record {
        sum = record { spelled = subst (λ (z : List Token). Sum (Factor n) z e) (sym p) sum; fewer = omega (arith, ap opens p, few) };
        level = inr (inl (subst (λ (z : List Token). Term (Factor n) z e) (sym p) term, q ∙ sym p, w ∙ ap wrap (sym p)));
        good = good_bin o l r some fl.fit.good br.term.fit.good;
      };
    }

sum_at : (n : ℕ) (xs ys : List Token) (l r : Expr) (o : Op) → sum_mark (op_token o) ≡ Some o → (o ≡ op.Skip → ⊥) → (X : List Token) → X ≡ printed l 0 ++ op_token o ∷ printed r 1 → printed (Bin o l r) 0 ≡ X → printed (Bin o l r) 1 ≡ wrap X → printed (Bin o l r) 2 ≡ wrap X → Fit n xs l → FitTerm n ys r → Fit n (xs ++ op_token o ∷ ys) (Bin o l r)
sum_at n xs ys l r o mark some X is p q w fl tr =
    let e = Bin o l r in
    let made : Sum (Factor n) (printed l 0 ++ op_token o ∷ printed r 1) e = chain_snoc (Term (Factor n)) sum_mark (printed l 0) (printed r 1) (op_token o) l r o fl.sum.spelled mark tr.term.spelled in
    let sum : Sum (Factor n) X e = subst (λ (z : List Token). Sum (Factor n) z e) (sym is) made in
    let few : opens X ≤ opens (xs ++ op_token o ∷ ys) = omega (arith, ap opens is, opens_append (printed l 0) (op_token o ∷ printed r 1), opens_append xs (op_token o ∷ ys), fl.sum.fewer, tr.term.fewer) in
    record {
      sum = record { spelled = subst (λ (z : List Token). Sum (Factor n) z e) (sym p) sum; fewer = omega (arith, ap opens p, few) };
      level = inr (inr (q ∙ ap wrap (sym p), w ∙ ap wrap (sym p)));
      good = good_bin o l r some fl.good tr.fit.good;
    }

no_skip : (o : Op) → (o ≡ op.Times) ⊎ (o ≡ op.Over) → (o ≡ op.Skip → ⊥)
no_skip o (inl e) s = let h : op.Times ≡ op.Skip = sym e ∙ s in let n : ⊥ = cc in n
no_skip o (inr e) s = let h : op.Over ≡ op.Skip = sym e ∙ s in let n : ⊥ = cc in n

product_step : (n : ℕ) (xs ys : List Token) (t : Token) (l r : Expr) (o : Op) → product_mark t ≡ Some o → FitTerm n xs l → Best n ys r → FitTerm n (xs ++ t ∷ ys) (Bin o l r)
product_step n xs ys (AMark Star) l r o e fl br =
    let is : op.Times ≡ o = cc in
    subst (λ (z : Op). FitTerm n (xs ++ AMark Star ∷ ys) (Bin z l r)) is
    (product_at n xs ys l r op.Times refl (λ s. let h : ⊥ = cc in h) (printed l 1 ++ AMark Star ∷ printed r 2) refl (printed_bin op.Times l r 0) (printed_bin op.Times l r 1) (printed_bin op.Times l r 2) fl br)
product_step n xs ys (AMark Slash) l r o e fl br =
    let is : op.Over ≡ o = cc in
    subst (λ (z : Op). FitTerm n (xs ++ AMark Slash ∷ ys) (Bin z l r)) is
    (product_at n xs ys l r op.Over refl (λ s. let h : ⊥ = cc in h) (printed l 1 ++ AMark Slash ∷ printed r 2) refl (printed_bin op.Over l r 0) (printed_bin op.Over l r 1) (printed_bin op.Over l r 2) fl br)
product_step n xs ys t l r o e fl br = absurd (let h : ⊥ = cc in h)

sum_step : (n : ℕ) (xs ys : List Token) (t : Token) (l r : Expr) (o : Op) → sum_mark t ≡ Some o → Fit n xs l → FitTerm n ys r → Fit n (xs ++ t ∷ ys) (Bin o l r)
sum_step n xs ys (AMark Plus) l r o e fl tr =
    let is : op.Plus ≡ o = cc in
    subst (λ (z : Op). Fit n (xs ++ AMark Plus ∷ ys) (Bin z l r)) is
    (sum_at n xs ys l r op.Plus refl (λ s. let h : ⊥ = cc in h) (printed l 0 ++ AMark Plus ∷ printed r 1) refl (printed_bin op.Plus l r 0) (printed_bin op.Plus l r 1) (printed_bin op.Plus l r 2) fl tr)
sum_step n xs ys (AMark Minus) l r o e fl tr =
    let is : op.Minus ≡ o = cc in
    subst (λ (z : Op). Fit n (xs ++ AMark Minus ∷ ys) (Bin z l r)) is
    (sum_at n xs ys l r op.Minus refl (λ s. let h : ⊥ = cc in h) (printed l 0 ++ AMark Minus ∷ printed r 1) refl (printed_bin op.Minus l r 0) (printed_bin op.Minus l r 1) (printed_bin op.Minus l r 2) fl tr)
sum_step n xs ys t l r o e fl tr = absurd (let h : ⊥ = cc in h)

-- ---- sums of terms of factors

module _ (n : ℕ) (best : (ts : List Token) (e : Expr) → Factor n ts e → Clean ts → Best n ts e) where
  term_fit : (ts : List Token) (e : Expr) → Term (Factor n) ts e → Clean ts → FitTerm n ts e
  term_fit = chain_fold (Factor n) product_mark (λ ts e. Clean ts → FitTerm n ts e)
      (λ xs ys t l r o fl is f clean. product_step n xs ys t l r o is (fl (clean_left xs (t ∷ ys) clean)) (best ys r f (clean_right xs (t ∷ ys) clean).1))
      (λ ts e f clean. (best ts e f clean).term)

  sum_fit : (ts : List Token) (e : Expr) → Sum (Factor n) ts e → Clean ts → Fit n ts e
  sum_fit = chain_fold (Term (Factor n)) sum_mark (λ ts e. Clean ts → Fit n ts e)
      (λ xs ys t l r o fl is f clean. sum_step n xs ys t l r o is (fl (clean_left xs (t ∷ ys) clean)) (term_fit ys r f (clean_right xs (t ∷ ys) clean).1))
      (λ ts e f clean. (term_fit ts e f clean).fit)

-- ---- numbers and members

atom_factor : (n : ℕ) (ts : List Token) (e : Expr) → One atom ts e → Factor n ts e
atom_factor zero ts e h = h
atom_factor (suc n) ts e h = inr (inr h)

abbrev fine : ℤ → Result ℤ NumberFault
fine z = Ok z

else_ok : (b : Bool) (f : NumberFault) (y : Result ℤ NumberFault) (z : ℤ) → (if b then Err f else y) ≡ fine z → (b ≡ false) × (y ≡ fine z)
else_ok true f y z e = absurd (let h : ⊥ = cc in h)
else_ok false f y z e = (refl, e)

judged_ok : (n : ℕ) (p : Parts) (z : ℤ) → p.negative ≡ false → judged n p ≡ fine z → (a : ℕ) × (a < 10 ^ 18) × (z ≡ pos a)
judged_ok n p z sign e =
    let last : Result ℤ NumberFault = fine (signed p.negative (units_of p)) in
    let third : Result ℤ NumberFault = if nat_le (10 ^ 18) (units_of p) then Err Range else last in
    let second : Result ℤ NumberFault = if not (list_all (λ b. b == 48) (drop 4 p.decimals)) then Err Decimals else third in
    let first : Result ℤ NumberFault = if length (p.whole ++ p.decimals) == 0 then Err (NotNumber n) else second in
    let a = else_ok (nat_lt 0 (length p.rest)) (NotNumber (n - length p.rest)) first z e in
    let b = else_ok (length (p.whole ++ p.decimals) == 0) (NotNumber n) second z a.1 in
    let c = else_ok (not (list_all (λ b. b == 48) (drop 4 p.decimals))) Decimals third z b.1 in
    let d = else_ok (nat_le (10 ^ 18) (units_of p)) Range last z c.1 in
    let is : fine (pos (units_of p)) ≡ fine z = ap (λ (q : Bool). fine (signed q (units_of p))) (sym sign) ∙ d.1 in
    (units_of p, leb-false (10 ^ 18) (units_of p) d.0, sym (let same : pos (units_of p) ≡ z = cc in same))

some_ok : (r : Result ℤ NumberFault) (z : ℤ) → result_ok r ≡ Some z → r ≡ fine z
some_ok (Ok x) z e = let same : x ≡ z = cc in ap fine same
some_ok (Err f) z e = absurd (let h : ⊥ = cc in h)

then_some : (b : Bool) (o : Option ℤ) (z : ℤ) → (if b then o else None) ≡ Some z → o ≡ Some z
then_some true o z e = e
then_some false o z e = absurd (let h : ⊥ = cc in h)

number_range : (text : List ℕ) (z : ℤ) → is_negative text ≡ false → number_of text ≡ Some z → (a : ℕ) × (a < 10 ^ 18) × (z ≡ pos a)
number_range text z sign e =
    judged_ok (length text) (parts_of text) z sign (some_ok (amount_of text) z (then_some (nat_le (length text) (digits_len text + 5)) (result_ok (amount_of text)) z e))

num_is : (o : Option ℤ) (e : Expr) → option_map Num o ≡ Some e → (z : ℤ) × (o ≡ Some z) × (Num z ≡ e)
num_is (Some z) e is = (z, refl, let same : Num z ≡ e = cc in same)
num_is None e is = absurd (let h : ⊥ = cc in h)

num_best : (n : ℕ) (ts : List Token) (a : ℕ) → a < 10 ^ 18 → Best n ts (Num (pos a))
num_best n ts a less =
    plain n ts (Num (pos a)) (Number (units_text a) ∷ []) (printed_num (pos a) 0) (printed_num (pos a) 1) (printed_num (pos a) 2)
    (atom_factor n (Number (units_text a) ∷ []) (Num (pos a)) (Number (units_text a), refl, ap (option_map Num) (units_number a less))) (omega arith) (good_num a less)

name_best : (n : ℕ) (ts : List Token) (text : List ℕ) → HasNoEnd text → Best n ts (Cell (text ∷ []))
name_best n ts text no_end =
    plain n ts (Cell (text ∷ [])) (Name text ∷ []) (printed_cell (text ∷ []) 0) (printed_cell (text ∷ []) 1) (printed_cell (text ∷ []) 2)
    (atom_factor n (Name text ∷ []) (Cell (text ∷ [])) (Name text, refl, refl)) (omega arith) (good_cell (text ∷ []) (no_end, tt))

atom_best : (n : ℕ) (ts : List Token) (e : Expr) (t : Token) → atom t ≡ Some e → IsCleanToken t → Best n ts e
atom_best n ts e (Number text) is clean =
    let k = num_is (number_of text) e is in
    let r = number_range text k.0 clean k.1 in
    subst (λ (z : Expr). Best n ts z) (ap Num (sym r.2) ∙ k.2) (num_best n ts r.0 r.1)
atom_best n ts e (Name text) is clean =
    let same : Cell (text ∷ []) ≡ e = cc in
    subst (λ (z : Expr). Best n ts z) same (name_best n ts text clean)
atom_best n ts e t is clean = absurd (let h : ⊥ = cc in h)

-- ---- crossings of members

abbrev each_comma : List (List ℕ) → List (Unit {0} × List ℕ)
each_comma names = map (λ m. (tt, m)) names

names_back : (names : List (List ℕ)) → map (λ x. x.1) (each_comma names) ≡ names
names_back [] = refl
names_back (m ∷ names) = ap (λ (z : List (List ℕ)). m ∷ z) (names_back names)

upto_names : (names : List (List ℕ)) → UpTo (length names) (Then (One comma) (One name)) (separated names) (each_comma names)
upto_names [] = (refl, refl)
upto_names (m ∷ names) = inl (((tt, m), each_comma names), (AMark Comma ∷ Name m ∷ [], separated names, refl, (AMark Comma ∷ [], Name m ∷ [], refl, (AMark Comma, refl, refl), (Name m, refl, refl)), upto_names names), refl)

names_spelled : (m : List ℕ) (names : List (List ℕ)) → Names (Name m ∷ separated names) (m ∷ names)
names_spelled m names = ((m, each_comma names), (Name m ∷ [], separated names, refl, (Name m, refl, refl), (length names, upto_names names)), ap (λ (z : List (List ℕ)). m ∷ z) (names_back names))

opens_separated : (names : List (List ℕ)) → opens (separated names) ≡ 0
opens_separated [] = refl
opens_separated (m ∷ names) = omega (arith, opens_separated names)

cell_best : (n : ℕ) (ts : List Token) (a b : List ℕ) (names : List (List ℕ)) → AllNames (a ∷ b ∷ names) → 1 ≤ opens ts → Best (suc n) ts (Cell (a ∷ b ∷ names))
cell_best n ts a b names all some =
    let all_names = a ∷ b ∷ names in
    let inside : Inside (Factor n) (Name a ∷ separated (b ∷ names)) (Cell all_names) =
    inl (((a, tt), b ∷ names), (Name a ∷ AMark Comma ∷ [], Name b ∷ separated names, refl, (Name a ∷ [], AMark Comma ∷ [], refl, (Name a, refl, refl), (AMark Comma, refl, refl)), names_spelled b names), refl) in
    let nested : Factor (suc n) (cell_tokens all_names) (Cell all_names) =
    inr (inl (((tt, Cell all_names), tt), (AMark Open ∷ Name a ∷ separated (b ∷ names), AMark Close ∷ [], refl, (AMark Open ∷ [], Name a ∷ separated (b ∷ names), refl, (AMark Open, refl, refl), inside), (AMark Close, refl, refl)), refl)) in
    let few : opens (cell_tokens all_names) ≤ opens ts = omega (arith, opens_wrap (Name a ∷ separated (b ∷ names)), opens_separated (b ∷ names), some) in
    plain (suc n) ts (Cell all_names) (cell_tokens all_names) (printed_cell all_names 0) (printed_cell all_names 1) (printed_cell all_names 2) nested few (good_cell all_names all)

name_clean : (t : Token) (m : List ℕ) → name t ≡ Some m → IsCleanToken t → HasNoEnd m
name_clean (Name text) m e clean = let same : text ≡ m = cc in subst HasNoEnd same clean
name_clean t m e clean = absurd (let h : ⊥ = cc in h)

one_clean : (ts : List Token) (m : List ℕ) → One name ts m → Clean ts → HasNoEnd m
one_clean ts m h clean = name_clean h.0 m h.2 (subst Clean h.1 clean).0

upto_clean : (n : ℕ) (ts : List Token) (all : List (Unit {0} × List ℕ)) → UpTo n (Then (One comma) (One name)) ts all → Clean ts → AllNames (map (λ x. x.1) all)
upto_clean zero ts all h clean = subst (λ (z : List (Unit {0} × List ℕ)). AllNames (map (λ x. x.1) z)) h.1 tt
upto_clean (suc n) ts all (inl k) clean =
    let c = subst Clean k.1.2 clean in
    let one = k.1.3 in
    let first = one_clean one.1 k.0.0.1 one.4 (clean_right one.0 one.1 (subst Clean one.2 (clean_left k.1.0 k.1.1 c))) in
    subst (λ (z : List (Unit {0} × List ℕ)). AllNames (map (λ x. x.1) z)) k.2 (first, upto_clean n k.1.1 k.0.1 k.1.4 (clean_right k.1.0 k.1.1 c))
upto_clean (suc n) ts all (inr h) clean = subst (λ (z : List (Unit {0} × List ℕ)). AllNames (map (λ x. x.1) z)) h.1 tt

names_best : (n : ℕ) (ts us : List Token) (e : Expr) → Makes (Then (Then (One name) (One comma)) Names) cross us e → Clean us → 1 ≤ opens ts → Best (suc n) ts e
names_best n ts us e h clean some =
    let k = h.1 in
    let c = subst Clean k.2 clean in
    let pair = k.3 in
    let a = h.0.0.0 in
    let a_clean = one_clean pair.0 a pair.3 (clean_left pair.0 pair.1 (subst Clean pair.2 (clean_left k.0 k.1 c))) in
    let m = k.4 in
    let w = m.0 in
    let j = m.1 in
    let d = subst Clean j.2 (clean_right k.0 k.1 c) in
    let b_clean = one_clean j.0 w.0 j.3 (clean_left j.0 j.1 d) in
    let rest_clean = upto_clean j.4.0 j.1 w.1 j.4.1 (clean_right j.0 j.1 d) in
    let names = map (λ x. x.1) w.1 in
    subst (λ (z : Expr). Best (suc n) ts z) (ap (λ (z : List (List ℕ)). Cell (a ∷ z)) m.2 ∙ h.2)
    (cell_best n ts a w.0 names (a_clean, (b_clean, rest_clean)) some)

-- ---- factors of every depth

opens_open : (t : Token) (ts : List Token) → open_mark t ≡ Some tt → opens (t ∷ ts) ≡ 1 + opens ts
opens_open (AMark Open) ts e = refl
opens_open t ts e = absurd (let h : ⊥ = cc in h)

best : (n : ℕ) (ts : List Token) (e : Expr) → Factor n ts e → Clean ts → Best n ts e
best zero ts e h clean = atom_best zero ts e h.0 h.2 (subst Clean h.1 clean).0
best (suc n) ts e (inl k) clean =
    let x = k.0.1 in
    let us = k.1.0 in
    let vs = k.1.1 in
    let b = best n vs x k.1.4 (clean_right us vs (subst Clean k.1.2 clean)) in
    let X = AMark Minus ∷ printed x 2 in
    let made : Factor (suc n) X (Neg x) = inl ((tt, x), (AMark Minus ∷ [], printed x 2, refl, (AMark Minus, refl, refl), b.factor.spelled), refl) in
    let few : opens X ≤ opens ts = omega (arith, ap opens k.1.2, opens_append us vs, b.factor.fewer) in
    subst (λ (z : Expr). Best (suc n) ts z) k.2
    (plain (suc n) ts (Neg x) X (printed_neg x 0) (printed_neg x 1) (printed_neg x 2) made few (good_neg x b.term.fit.good))
best (suc n) ts e (inr (inl k)) clean =
    let j = k.1 in
    let i = j.3 in
    let x = k.0.0.1 in
    let front = i.3 in
    let start : j.0 ≡ front.0 ∷ i.1 = i.2 ∙ ap (λ (z : List Token). z ++ i.1) front.1 in
    let more : 1 + opens i.1 ≤ opens ts = omega (arith, ap opens j.2, opens_append j.0 j.1, ap opens start, opens_open front.0 i.1 front.2) in
    let c = clean_right i.0 i.1 (subst Clean i.2 (clean_left j.0 j.1 (subst Clean j.2 clean))) in
    subst (λ (z : Expr). Best (suc n) ts z) k.2 (⊎_elim
    (λ (h : Makes (Then (Then (One name) (One comma)) Names) cross i.1 x). names_best n ts i.1 x h c (omega (arith, more)))
    (λ (h : Sum (Factor n) i.1 x). nest n i.1 ts x (sum_fit n (best n) i.1 x h c) more)
    i.4)
best (suc n) ts e (inr (inr h)) clean = atom_best (suc n) ts e h.0 h.2 (subst Clean h.1 clean).0

formula_fit : (n : ℕ) (ts : List Token) (e : Expr) → Sum (Factor n) ts e → Clean ts → Fit n ts e
formula_fit n = sum_fit n (best n)

-- ---- what a text is cut into is clean

if_both : (b : Bool) (P : Option Front → Type 0) (x y : Option Front) → (b ≡ true → P x) → (b ≡ false → P y) → P (if b then x else y)
if_both true P x y f g = f refl
if_both false P x y f g = g refl

abbrev CleanMaybe : Option Token → Type 0
CleanMaybe None = Unit {0}
CleanMaybe (Some t) = IsCleanToken t

abbrev CleanFront : Option Front → Type 0
CleanFront None = Unit {0}
CleanFront (Some f) = CleanMaybe f.token

take_step : (p : ℕ → Bool) (x : ℕ) (xs : List ℕ) (q : Bool) → p x ≡ q → prefix_len p (take (prefix_len p xs) xs) ≡ length (take (prefix_len p xs) xs) → prefix_len p (take (if q then 1 + prefix_len p xs else 0) (x ∷ xs)) ≡ length (take (if q then 1 + prefix_len p xs else 0) (x ∷ xs))
take_step p x xs false e h = refl
take_step p x xs true e h =
    let more : 1 + prefix_len p xs ≡ suc (prefix_len p xs) = omega arith in
    let inside : 1 + prefix_len p (take (prefix_len p xs) xs) ≡ suc (length (take (prefix_len p xs) xs)) = omega (arith, h) in
    subst (λ (k : ℕ). prefix_len p (take k (x ∷ xs)) ≡ length (take k (x ∷ xs))) (sym more)
    (ap (λ (q : Bool). if q then 1 + prefix_len p (take (prefix_len p xs) xs) else 0) e ∙ inside)

prefix_take : (p : ℕ → Bool) (xs : List ℕ) → prefix_len p (take (prefix_len p xs) xs) ≡ length (take (prefix_len p xs) xs)
prefix_take p [] = refl
prefix_take p (x ∷ xs) = take_step p x xs (p x) refl (prefix_take p xs)

name_content : (text : List ℕ) → content (name_span text) text ≡ take (until 93 text) text
name_content text = by_end (nat_lt (until 93 text) (length text))
  where
    by_end : (q : Bool) → content (if q then closed (until 93 text + 1) else open_at_end (until 93 text)) text ≡ take (until 93 text) text
    by_end true = let n : until 93 text + 1 - 1 ≡ until 93 text = omega arith in ap (λ (k : ℕ). take k text) n
    by_end false = refl

name_front_clean : (b : ℕ) (bs : List ℕ) → CleanFront (Some (name_front (b ∷ bs)))
name_front_clean b bs = subst HasNoEnd (sym (name_content bs)) (prefix_take (λ c. not (c == 93)) bs)

number_front_clean : (b : ℕ) (bs : List ℕ) → is_digit b ≡ true → CleanFront (Some (number_front (b ∷ bs)))
number_front_clean b bs e =
    let more : 1 + number_len bs ≡ suc (number_len bs) = omega arith in
    let plus : (b == 45) ≡ false = grind (arith, e) in
    subst (λ (k : ℕ). is_negative (take k (b ∷ bs)) ≡ false) (sym more) plus

mark_front_clean : (o : Option Mark) → CleanFront (option_map (λ m. single (Some (AMark m))) o)
mark_front_clean None = tt
mark_front_clean (Some m) = tt

front_clean : (comments : Bool) (text : List ℕ) → CleanFront (front_of comments text)
front_clean comments [] = tt
front_clean comments (b ∷ bs) =
    if_both (nat_le 128 b) CleanFront _ _ (λ _. tt) (λ _.
    if_both (is_blank b) CleanFront _ _ (λ _. tt) (λ _.
    if_both (comments && opens_comment (b ∷ bs)) CleanFront _ _ (λ _. tt) (λ _.
    if_both (is_letter b) CleanFront _ _ (λ _. tt) (λ _.
    if_both (is_digit b) CleanFront _ _ (λ e. number_front_clean b bs e) (λ _.
    if_both (b == 91) CleanFront _ _ (λ _. name_front_clean b bs) (λ _.
    if_both (b == 39) CleanFront _ _ (λ _. tt) (λ _. mark_front_clean (mark_of b))))))))

placed_clean : (t : Option Token) (at : ℕ) (ps : List Placed) → CleanMaybe t → Clean (tokens_of ps) → Clean (tokens_of (placed_of t at ++ ps))
placed_clean None at ps c d = d
placed_clean (Some t) at ps c d = (c, d)

after_clean : (comments : Bool) (n at : ℕ) (text : List ℕ) → ((k : ℕ) (rest : List ℕ) → Clean (tokens_of (cut_from comments n k rest).placed)) → (o : Option Front) → CleanFront o → Clean (tokens_of (after_front comments n at text o).placed)
after_clean comments n at text clean None c = tt
after_clean comments n at text clean (Some f) c = placed_clean f.token at (cut_from comments n (at + f.span.size) (drop f.span.size text)).placed c (clean (at + f.span.size) (drop f.span.size text))

cut_clean : (comments : Bool) (n at : ℕ) (text : List ℕ) → Clean (tokens_of (cut_from comments n at text).placed)
unfolding cut_from
cut_clean comments zero at text = tt
cut_clean comments (suc n) at [] = tt
cut_clean comments (suc n) at (b ∷ bs) = after_clean comments n at (b ∷ bs) (λ k text. cut_clean comments n k text) (front_of comments (b ∷ bs)) (front_clean comments (b ∷ bs))

-- ---- the printed text

printed_text : (e : Expr) → Good e → (tokens_of (cut false (formula_text e)).placed ≡ printed e 0) × ((cut false (formula_text e)).whole ≡ true)
printed_text e good =
    let all : Lexes (shown e 0 ++ []) (printed e 0 ++ []) = good 0 [] [] tt lexes_none in
    let here : Lexes (shown e 0) (printed e 0) = subst (λ (z : List ℕ). Lexes z (printed e 0)) (append-nil (shown e 0)) (subst (λ (z : List Token). Lexes (shown e 0 ++ []) z) (append-nil (printed e 0)) all) in
    here (length (shown e 0)) 0 (omega arith)

record Again (text : List ℕ) (e : Expr) : Type 0 where
  spelled : SpellsFormula (formula_text e) e
  fewest : parens_of (formula_text e) ≤ parens_of text

again : (text : List ℕ) (e : Expr) → SpellsFormula text e → Again text e
unfolding Formula
again text e s =
    let ts = tokens_of (cut false text).placed in
    let fit = formula_fit 64 ts e s.1 (cut_clean false (length text) 0 text) in
    let p = printed_text e fit.good in
    record {
      spelled = (p.1, subst (λ (z : List Token). Sum (Factor 64) z e) (sym p.0) fit.sum.spelled);
      fewest = omega (arith, ap opens p.0, fit.sum.fewer);
    }

pub spelled_again : (bytes : List ℕ) (e : Expr) → bytes ≡ formula_text e → (text : List ℕ) → SpellsFormula text e → SpellsFormula bytes e
spelled_again bytes e is text s = subst (λ (z : List ℕ). SpellsFormula z e) (sym is) (again text e s).spelled

pub fewest_parens : (bytes : List ℕ) (e : Expr) → bytes ≡ formula_text e → (text : List ℕ) → SpellsFormula text e → parens_of bytes ≤ parens_of text
fewest_parens bytes e is text s = subst (λ (z : List ℕ). parens_of z ≤ parens_of text) (sym is) (again text e s).fewest
