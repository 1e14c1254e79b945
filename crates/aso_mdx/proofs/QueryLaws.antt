-- What is read is in the grammar of queries, what is in it is read, and a fault is where nothing can come.
use Rattle.std.proofs.Common.{◌≡◌, ℕ, zero, suc, Bool, true, false, List, [], ◌∷◌, ◌++◌, Option, Some, None, Ok, inl, inr, ⊎_elim, refl, sym, ◌∙◌, ap, append_assoc, append-nil, ◌||◌, is_some, codes, if◌then◌else◌, length}
use Rattle.std.specs.Prelude.{◌==◌}
use Rattle.std.specs.Str.{str_eq_ignore_ascii_case}
use Rattle.aso_token.specs.declared.token.Token.{Token}
use Rattle.aso_token.specs.declared.token.Token.TheVariants.{Word, Number, Quoted, Name, Mark}
use Rattle.aso_token.specs.declared.token.Mark.TheVariants.{Dot, OpenSet, Equals}
use Rattle.aso_token.specs.Lang.{Lang, One, Then, Or, Makes, Empty, UpTo, Maybe, ◌▷◌, ◌◁◌}
use Rattle.aso_token.specs.Reads.{Read, ◌>>=◌, made, begins, begin, read_one, read_then, read_as, read_if, read_if_two, read_upto, read_empty, read_maybe, passes, ◌▸◌, ◌◂◌}
use Rattle.aso_token.proofs.Laws.{Law, Halts, either, one_law, loosen, halts_first, halts_second, never_halts, fails, if_false}
use Rattle.aso_token.proofs.Sequences.{Never, then_law, then_never, right_never, left_never, as_law}
use Rattle.aso_token.proofs.Choices.{or_law, or_two_law, empty_law}
use Rattle.aso_token.proofs.Lists.{upto_law, one_heads, many_follow}
use Rattle.aso_token.specs.Marks.{comma, open_mark, name}
use Rattle.aso_token.specs.Words.{is_word, key, known, part, whole, dot, open_set, equals}
use Rattle.aso_mdx.specs.declared.query.SetText.{SetText}
use Rattle.aso_mdx.specs.declared.query.Own.{Own}
use Rattle.aso_mdx.specs.declared.query.Axis.{Axis}
use Rattle.aso_mdx.specs.Grammar.{Name as AName, Key, in_front, later_part, Path, Paths, function, Leaf, InBraces, Crossing, Set, SetTokens, filtered, unfiltered, axis, AxisText, own, OwnText, quoted, plain_name, point_at, cut_name, pointless, Base, alone, Slicer, Owns, query, QueryTokens}
use Rattle.aso_mdx.specs.Reading.{read_key, read_path, read_paths, read_leaf, read_braces, read_crossing, read_nested, read_axis_set, read_axis, read_solve, read_own_path, read_formula, read_own, read_owns, read_base, read_slicer, read_columns, read_rows, read_source, read_query}
use Rattle.aso_mdx.proofs.Laws.{some_one, some_closed, some_behind, behind_heads, comma_token, dot_token, part_token, later_token, path_law, path_goes, paths_law, some_path, words_apart, key_part, key_function, function_key, known_is, part_open, part_open_set, part_dot, open_key, NotTwo, no_first, two_begin, two_goes, leaf_apart, leaf_full, word_alone, set_goes, braces_heads, crossing_heads, some_set, set_law, nested_law}

-- ---- texts or nothing

some_maybe : {A : Type 0} (P : Lang A) → (ts : List Token) × (a : Option A) × Maybe P ts a
some_maybe P = ([], None, inr (refl, refl))

maybe_law : {A : Type 0} (P : Lang A) (gp test : Token → Bool) (r : List Token → Read A) → Law P gp r → ((ts : List Token) (a : A) (rest : List Token) → P ts a → begins test (ts ++ rest) ≡ true) → Law (Maybe P) (either test gp) (read_maybe test r)
maybe_law P gp test r p heads = or_law (Makes P Some) (Empty None) (either test gp) test (read_as r Some) (read_empty None)
    (loosen (Makes P Some) gp (either test gp) (read_as r Some) (λ ts h. halts_second test gp ts h) (as_law P gp r Some p))
    (empty_law None (either test gp))
    (λ ts a rest h. heads ts h.0 rest h.1)
    (λ ts a rest h halts. ap (λ z. begins test (z ++ rest)) h.0 ∙ halts_first test gp rest halts)

-- ---- words

key_token : (w : List ℕ) → str_eq_ignore_ascii_case w w ≡ true → (t : Token) × (a : Unit {0}) × (key w t ≡ Some a)
unfolding is_word
key_token w e = (Word w, tt, ap (λ (b : Bool). known b tt) e)

key_apart : (w v : List ℕ) → str_eq_ignore_ascii_case w v ≡ false → (t : Token) → passes (key w) t ≡ true → passes (key v) t ≡ false
key_apart w v e t h = ap (λ (b : Bool). is_some (known b tt)) (words_apart w v t e (known_is (is_word w t) tt h))

part_comma : (t : Token) → passes part t ≡ true → passes comma t ≡ false
part_comma (Word text) e = refl
part_comma (Name text) e = refl
part_comma t e = absurd (let n : ⊥ = cc in n)

key_comma : (w : List ℕ) (t : Token) → passes (key w) t ≡ true → passes comma t ≡ false
key_comma w t h = part_comma t (key_part w t h)

dot_key : (w : List ℕ) (t : Token) → passes dot t ≡ true → passes (key w) t ≡ false
unfolding is_word
dot_key w (Mark Dot) e = refl
dot_key w t e = absurd (let n : ⊥ = cc in n)

open_set_key : (w : List ℕ) (t : Token) → passes open_set t ≡ true → passes (key w) t ≡ false
unfolding is_word
open_set_key w (Mark OpenSet) e = refl
open_set_key w t e = absurd (let n : ⊥ = cc in n)

either_false : (a b : Bool) → a ≡ false → b ≡ false → (a || b) ≡ false
either_false a b e f = ap (λ (x : Bool). x || b) e ∙ f

key_set : (w : List ℕ) (t : Token) → passes (key w) t ≡ true → set_goes t ≡ false
key_set w t h = let p = key_part w t h in either_false (passes open_mark t) (passes dot t) (part_open t p) (part_dot t p)

-- ---- axes

abbrev axis_goes : Token → Bool
axis_goes = either (passes (key (codes "empty"))) set_goes

non_function : (t : Token) → passes (key (codes "non")) t ≡ true → passes function t ≡ false
non_function = key_function (codes "non") refl refl refl refl

leaf_non : (ts : List Token) (a : SetText) (rest : List Token) → Leaf ts a → Halts (passes (key (codes "empty"))) rest → NotTwo (passes (key (codes "non"))) (passes (key (codes "empty"))) (ts ++ rest)
leaf_non = leaf_apart (passes (key (codes "non"))) (passes (key (codes "empty"))) (open_key (codes "non")) (function_key (codes "non") non_function) (dot_key (codes "empty"))

set_non : (n : ℕ) (ts : List Token) (a : SetText) (rest : List Token) → Set n ts a → Halts (passes (key (codes "empty"))) rest → NotTwo (passes (key (codes "non"))) (passes (key (codes "empty"))) (ts ++ rest)
set_non zero ts a rest h halts = leaf_non ts a rest h halts
set_non (suc n) ts a rest h halts =
    let f = passes (key (codes "non")) in
    let g = passes (key (codes "empty")) in
    ⊎_elim
    (λ (k : InBraces (Set n) ts a). no_first f g (ts ++ rest) (fails (passes open_set) f (open_set_key (codes "non")) (ts ++ rest) (braces_heads (Set n) (read_nested n) (nested_law n) (some_set n) ts a rest k)))
    (λ (k : Or (Crossing (Set n)) Leaf ts a). ⊎_elim
    (λ (j : Crossing (Set n) ts a). no_first f g (ts ++ rest) (fails (passes (key (codes "crossjoin"))) f (key_apart (codes "crossjoin") (codes "non") refl) (ts ++ rest) (crossing_heads (Set n) (read_nested n) (nested_law n) (some_set n) ts a rest j)))
    (λ (j : Leaf ts a). leaf_non ts a rest j halts)
    k)
    h

set_full : (n : ℕ) (a : SetText) → Set n [] a → ⊥
set_full zero a h = leaf_full a h
set_full (suc n) a h = ⊎_elim
    (λ (k : InBraces (Set n) [] a). let e : false ≡ true = braces_heads (Set n) (read_nested n) (nested_law n) (some_set n) [] a [] k in let n : ⊥ = cc in n)
    (λ (k : Or (Crossing (Set n)) Leaf [] a). ⊎_elim
    (λ (j : Crossing (Set n) [] a). let e : false ≡ true = crossing_heads (Set n) (read_nested n) (nested_law n) (some_set n) [] a [] j in let n : ⊥ = cc in n)
    (λ (j : Leaf [] a). leaf_full a j)
    k)
    h

nested_alone : (d : ℕ) (n m : Token) (rest : List Token) → passes (key (codes "non")) n ≡ true → passes (key (codes "empty")) m ≡ true → (b : SetText) × (read_nested (suc d) (n ∷ m ∷ rest) ≡ Ok (b, m ∷ rest))
unfolding read_nested
nested_alone d n m rest e g =
    let ts = n ∷ m ∷ rest in
    let p = key_part (codes "non") n e in
    let x = word_alone n m rest p (non_function n e) (part_dot m (key_part (codes "empty") m g)) in
    let cross = passes (key (codes "crossjoin")) in (
      x.0,
      if_false (passes open_set n) (read_braces (read_nested d) ts) (read_if_two cross (passes open_mark) (read_crossing (read_nested d)) read_leaf ts) (part_open_set n p)
          ∙ if_false (begin cross (passes open_mark) ts) (read_crossing (read_nested d) ts) (read_leaf ts) (no_first cross (passes open_mark) ts (key_apart (codes "non") (codes "crossjoin") refl n e))
          ∙ x.1,
    )

set_alone : (n m : Token) (rest : List Token) → passes (key (codes "non")) n ≡ true → passes (key (codes "empty")) m ≡ true → (b : SetText) × (read_nested 32 (n ∷ m ∷ rest) ≡ Ok (b, m ∷ rest))
set_alone = nested_alone 31

abbrev Filtered : Lang (Bool × SetText)
Filtered = Makes (Then (Key (codes "non") ◁ Key (codes "empty")) SetTokens) filtered

abbrev Unfiltered : Lang (Bool × SetText)
Unfiltered = Makes SetTokens unfiltered

some_tokens : (ts : List Token) × (a : SetText) × SetTokens ts a
unfolding SetTokens
some_tokens = some_set 32

filtered_law : Law Filtered set_goes (read_as (read_then (read_key (codes "non") ◂ read_key (codes "empty")) (read_nested 32)) filtered)
filtered_law = as_law (Then (Key (codes "non") ◁ Key (codes "empty")) SetTokens) set_goes (read_then (read_key (codes "non") ◂ read_key (codes "empty")) (read_nested 32)) filtered
    (then_never (Key (codes "non") ◁ Key (codes "empty")) SetTokens set_goes (read_key (codes "non") ◂ read_key (codes "empty")) (read_nested 32)
    (left_never (Key (codes "non")) (Key (codes "empty")) Never (read_key (codes "non")) (read_key (codes "empty")) (one_law (key (codes "non")) (key_token (codes "non") refl)) (one_law (key (codes "empty")) (key_token (codes "empty") refl)) (some_one (key (codes "empty")) (key_token (codes "empty") refl)))
    set_law some_tokens)

axis_set_law : Law (Or Filtered Unfiltered) axis_goes read_axis_set
unfolding SetTokens
axis_set_law = or_two_law Filtered Unfiltered axis_goes (passes (key (codes "non"))) (passes (key (codes "empty"))) (read_as (read_then (read_key (codes "non") ◂ read_key (codes "empty")) (read_nested 32)) filtered) (read_as (read_nested 32) unfiltered)
    (loosen Filtered set_goes axis_goes (read_as (read_then (read_key (codes "non") ◂ read_key (codes "empty")) (read_nested 32)) filtered) (λ ts h. halts_second (passes (key (codes "empty"))) set_goes ts h) filtered_law)
    (loosen Unfiltered set_goes axis_goes (read_as (read_nested 32) unfiltered) (λ ts h. halts_second (passes (key (codes "empty"))) set_goes ts h) (as_law SetTokens set_goes (read_nested 32) unfiltered set_law))
    (two_begin (key (codes "non")) (key (codes "empty")) SetTokens filtered)
    (λ ts a rest h halts. set_non 32 ts h.0 rest h.1 (halts_first (passes (key (codes "empty"))) set_goes rest halts))
    (λ a h. set_full 32 h.0 h.1)
    (λ n m rest e g. let x = set_alone n m rest e g in (unfiltered x.0, ap (λ (z : Read SetText). z >>= made unfiltered) x.1))
    (two_goes (key (codes "non")) (key (codes "empty")) SetTokens filtered set_goes (read_nested 32) set_law)

on_apart : (t : Token) → passes (key (codes "on")) t ≡ true → axis_goes t ≡ false
on_apart t h = either_false (passes (key (codes "empty")) t) (set_goes t) (key_apart (codes "on") (codes "empty") refl t h) (key_set (codes "on") t h)

axis_law : (w : List ℕ) → str_eq_ignore_ascii_case w w ≡ true → Law (AxisText w) Never (read_axis w)
unfolding read_axis
axis_law w is = as_law (Or Filtered Unfiltered ◁ (Key (codes "on") ◁ Key w)) Never (read_axis_set ◂ (read_key (codes "on") ◂ read_key w)) axis
    (as_law (Then (Or Filtered Unfiltered) (Key (codes "on") ◁ Key w)) Never (read_then read_axis_set (read_key (codes "on") ◂ read_key w)) (λ v. v.0)
    (then_law (Or Filtered Unfiltered) (Key (codes "on") ◁ Key w) axis_goes Never read_axis_set (read_key (codes "on") ◂ read_key w) axis_set_law
    (left_never (Key (codes "on")) (Key w) Never (read_key (codes "on")) (read_key w) (one_law (key (codes "on")) (key_token (codes "on") refl)) (one_law (key w) (key_token w is)) (some_one (key w) (key_token w is)))
    (some_closed (Key (codes "on")) (key w) (some_one (key (codes "on")) (key_token (codes "on") refl)) (key_token w is))
    (λ ys b rest h halts. fails (passes (key (codes "on"))) axis_goes on_apart (ys ++ rest) (one_heads (key (codes "on")) (Key w) ys h.0 rest h.1))))

some_axis : (w : List ℕ) → str_eq_ignore_ascii_case w w ≡ true → (ts : List Token) × (a : Axis) × AxisText w ts a
some_axis w is =
    let set = some_tokens in
    let on = some_closed (Key (codes "on")) (key w) (some_one (key (codes "on")) (key_token (codes "on") refl)) (key_token w is) in
    (set.0 ++ on.0, axis (unfiltered set.1), (unfiltered set.1, ((unfiltered set.1, on.1), (set.0, on.0, refl, inr (set.1, set.2, refl), on.2), refl), refl))

-- ---- members of the query's own

equals_token : (t : Token) × (a : Unit {0}) × (equals t ≡ Some a)
equals_token = (Mark Equals, tt, refl)

number_token : (t : Token) × (a : ℕ) × (whole 0 127 t ≡ Some a)
number_token = (Number (codes "1"), 1, refl)

quoted_token : (t : Token) × (a : List ℕ) × (quoted t ≡ Some a)
quoted_token = (Quoted [], [], refl)

abbrev Solve : Lang ℕ
Solve = (One comma ◁ Key (codes "solve_order")) ▷ (One equals ▷ One (whole 0 127))

solve_law : Law Solve Never read_solve
solve_law = right_never (One comma ◁ Key (codes "solve_order")) (One equals ▷ One (whole 0 127)) Never (read_one comma ◂ read_key (codes "solve_order")) (read_one equals ▸ read_one (whole 0 127))
    (left_never (One comma) (Key (codes "solve_order")) Never (read_one comma) (read_key (codes "solve_order")) (one_law comma comma_token) (one_law (key (codes "solve_order")) (key_token (codes "solve_order") refl)) (some_one (key (codes "solve_order")) (key_token (codes "solve_order") refl)))
    (right_never (One equals) (One (whole 0 127)) Never (read_one equals) (read_one (whole 0 127)) (one_law equals equals_token) (one_law (whole 0 127) number_token) (some_one (whole 0 127) number_token))
    (some_behind equals (One (whole 0 127)) equals_token (some_one (whole 0 127) number_token))

solve_heads : (ts : List Token) (a : ℕ) (rest : List Token) → Solve ts a → begins (passes comma) (ts ++ rest) ≡ true
solve_heads ts a rest h =
    let k = h.1 in
    ap (λ z. begins (passes comma) (z ++ rest)) k.2 ∙ ap (begins (passes comma)) (append_assoc k.0 k.1 rest) ∙ one_heads comma (Key (codes "solve_order")) k.0 k.3.0 (k.1 ++ rest) k.3.1

abbrev OwnPath : Lang (AName × AName)
OwnPath = Key (codes "member") ▷ Then (One part ◁ One dot) (One later_part)

abbrev Formula : Lang (List ℕ)
Formula = Key (codes "as") ▷ One quoted

some_parts : (ts : List Token) × (a : AName × AName) × Then (One part ◁ One dot) (One later_part) ts a
some_parts =
    let first = some_closed (One part) dot (some_one part part_token) dot_token in
    let second = some_one later_part later_token in
    (first.0 ++ second.0, (first.1, second.1), (first.0, second.0, refl, first.2, second.2))

own_path_law : Law OwnPath Never read_own_path
own_path_law = right_never (Key (codes "member")) (Then (One part ◁ One dot) (One later_part)) Never (read_key (codes "member")) (read_then (read_one part ◂ read_one dot) (read_one later_part)) (one_law (key (codes "member")) (key_token (codes "member") refl))
    (then_never (One part ◁ One dot) (One later_part) Never (read_one part ◂ read_one dot) (read_one later_part)
    (left_never (One part) (One dot) Never (read_one part) (read_one dot) (one_law part part_token) (one_law dot dot_token) (some_one dot dot_token))
    (one_law later_part later_token) (some_one later_part later_token))
    some_parts

formula_law : Law Formula Never read_formula
formula_law = right_never (Key (codes "as")) (One quoted) Never (read_key (codes "as")) (read_one quoted) (one_law (key (codes "as")) (key_token (codes "as") refl)) (one_law quoted quoted_token) (some_one quoted quoted_token)

abbrev own_goes : Token → Bool
own_goes = either (passes comma) Never

some_formula : (ts : List Token) × (a : List ℕ × Option ℕ) × Then Formula (Maybe Solve) ts a
some_formula = let f = some_behind (key (codes "as")) (One quoted) (key_token (codes "as") refl) (some_one quoted quoted_token) in
    (f.0, (f.1, None), (f.0, [], sym (append-nil f.0), f.2, inr (refl, refl)))

own_law : Law OwnText own_goes read_own
unfolding read_own
own_law = as_law (Then OwnPath (Then Formula (Maybe Solve))) own_goes (read_then read_own_path (read_then read_formula (read_maybe (passes comma) read_solve))) own
    (then_never OwnPath (Then Formula (Maybe Solve)) own_goes read_own_path (read_then read_formula (read_maybe (passes comma) read_solve)) own_path_law
    (then_never Formula (Maybe Solve) own_goes read_formula (read_maybe (passes comma) read_solve) formula_law (maybe_law Solve Never (passes comma) read_solve solve_law solve_heads) (some_maybe Solve))
    some_formula)

own_heads : (ts : List Token) (a : Own) (rest : List Token) → OwnText ts a → begins (passes (key (codes "member"))) (ts ++ rest) ≡ true
own_heads ts a rest h =
    let k = h.1 in
    ap (λ z. begins (passes (key (codes "member"))) (z ++ rest)) k.2 ∙ ap (begins (passes (key (codes "member")))) (append_assoc k.0 k.1 rest)
    ∙ behind_heads (key (codes "member")) (Then (One part ◁ One dot) (One later_part)) k.0 h.0.0 (k.1 ++ rest) k.3

some_own : (ts : List Token) × (a : Own) × OwnText ts a
some_own =
    let first = some_behind (key (codes "member")) (Then (One part ◁ One dot) (One later_part)) (key_token (codes "member") refl) some_parts in
    let second = some_formula in
    (first.0 ++ second.0, own (first.1, second.1), ((first.1, second.1), (first.0, second.0, refl, first.2, second.2), refl))

member_own : (t : Token) → passes (key (codes "member")) t ≡ true → own_goes t ≡ false
member_own t h = either_false (passes comma t) false (key_comma (codes "member") t h) refl

abbrev owns_goes : Token → Bool
owns_goes = either (passes (key (codes "member"))) own_goes

abbrev OwnList : Lang (List Own)
OwnList = Makes (Then OwnText (UpTo 15 OwnText)) in_front

own_list_law : Law OwnList owns_goes (read_as (read_then read_own (read_upto (passes (key (codes "member"))) read_own 15)) in_front)
own_list_law = as_law (Then OwnText (UpTo 15 OwnText)) owns_goes (read_then read_own (read_upto (passes (key (codes "member"))) read_own 15)) in_front
    (then_law OwnText (UpTo 15 OwnText) own_goes owns_goes read_own (read_upto (passes (key (codes "member"))) read_own 15) own_law
    (upto_law OwnText own_goes (passes (key (codes "member"))) read_own own_law own_heads member_own some_own 15)
    ([], [], inr (refl, refl))
    (λ ys b rest h halts. many_follow OwnText (passes (key (codes "member"))) own_goes own_heads member_own 15 ys b rest h (halts_second (passes (key (codes "member"))) own_goes rest halts)))

some_own_list : (ts : List Token) × (a : List Own) × OwnList ts a
some_own_list = let o = some_own in (o.0, o.1 ∷ [], ((o.1, []), (o.0, [], sym (append-nil o.0), o.2, inr (refl, refl)), refl))

owns_law : Law Owns owns_goes read_owns
unfolding read_owns
owns_law = right_never (Key (codes "with")) OwnList owns_goes (read_key (codes "with")) (read_as (read_then read_own (read_upto (passes (key (codes "member"))) read_own 15)) in_front) (one_law (key (codes "with")) (key_token (codes "with") refl)) own_list_law some_own_list

-- ---- the database

cut_token : (t : Token) × (a : AName × AName) × (cut_name t ≡ Some a)
cut_token = (Name (codes "."), ([], []), refl)

pointless_token : (t : Token) × (a : AName) × (pointless t ≡ Some a)
pointless_token = (Name [], [], refl)

name_token : (t : Token) × (a : AName) × (name t ≡ Some a)
name_token = (Name [], [], refl)

plain_token : (t : Token) × (a : AName) × (plain_name t ≡ Some a)
plain_token = (Word [], [], refl)

one_begins : {A : Type 0} (f : Token → Option A) (ts : List Token) (a : A) (rest : List Token) → One f ts a → begins (passes f) (ts ++ rest) ≡ true
one_begins f ts a rest h = ap (λ z. begins (passes f) (z ++ rest)) h.1 ∙ ap is_some h.2

cut_or_not : (b : Bool) (a : AName × AName) (text : AName) → is_some (known b text) ≡ true → is_some (let o : Option (AName × AName) = if b then None else Some a in o) ≡ false
cut_or_not true a text e = refl
cut_or_not false a text e = absurd (let n : ⊥ = cc in n)

pointless_cut : (t : Token) → passes pointless t ≡ true → passes cut_name t ≡ false
pointless_cut (Name text) e = cut_or_not (point_at text == length text) _ text e
pointless_cut t e = absurd (let n : ⊥ = cc in n)

plain_cut : (t : Token) → passes plain_name t ≡ true → passes cut_name t ≡ false
plain_cut (Word text) e = refl
plain_cut (Quoted text) e = refl
plain_cut t e = absurd (let n : ⊥ = cc in n)

plain_pointless : (t : Token) → passes plain_name t ≡ true → passes pointless t ≡ false
plain_pointless (Word text) e = refl
plain_pointless (Quoted text) e = refl
plain_pointless t e = absurd (let n : ⊥ = cc in n)

abbrev Bracketed : Lang (AName × AName)
Bracketed = Then (One pointless ◁ One dot) (One name)

abbrev Plain : Lang (AName × AName)
Plain = Then (One plain_name ◁ One dot) (One plain_name)

dotted_heads : {A B : Type 0} (f : Token → Option A) (Q : Lang B) (ts : List Token) (v : A × B) (rest : List Token) → Then (One f ◁ One dot) Q ts v → begins (passes f) (ts ++ rest) ≡ true
dotted_heads f Q ts v rest h =
    ap (λ z. begins (passes f) (z ++ rest)) h.2 ∙ ap (begins (passes f)) (append_assoc h.0 h.1 rest) ∙ one_heads f (One dot) h.0 h.3.0 (h.1 ++ rest) h.3.1

pair_law : {A B : Type 0} (f : Token → Option A) (g : Token → Option B) → (t : Token) × (a : A) × (f t ≡ Some a) → (t : Token) × (b : B) × (g t ≡ Some b) → Law (Then (One f ◁ One dot) (One g)) Never (read_then (read_one f ◂ read_one dot) (read_one g))
pair_law f g tok last = then_never (One f ◁ One dot) (One g) Never (read_one f ◂ read_one dot) (read_one g)
    (left_never (One f) (One dot) Never (read_one f) (read_one dot) (one_law f tok) (one_law dot dot_token) (some_one dot dot_token))
    (one_law g last) (some_one g last)

base_law : Law Base Never read_base
unfolding read_base
base_law = or_law (One cut_name) (Or Bracketed Plain) Never (passes cut_name) (read_one cut_name) (read_if (passes pointless) (read_then (read_one pointless ◂ read_one dot) (read_one name)) (read_then (read_one plain_name ◂ read_one dot) (read_one plain_name)))
    (one_law cut_name cut_token)
    (or_law Bracketed Plain Never (passes pointless) (read_then (read_one pointless ◂ read_one dot) (read_one name)) (read_then (read_one plain_name ◂ read_one dot) (read_one plain_name))
    (pair_law pointless name pointless_token name_token) (pair_law plain_name plain_name plain_token plain_token)
    (dotted_heads pointless (One name))
    (λ ts a rest h halts. fails (passes plain_name) (passes pointless) plain_pointless (ts ++ rest) (dotted_heads plain_name (One plain_name) ts a rest h)))
    (one_begins cut_name)
    (λ ts a rest h halts. ⊎_elim
    (λ (k : Bracketed ts a). fails (passes pointless) (passes cut_name) pointless_cut (ts ++ rest) (dotted_heads pointless (One name) ts a rest k))
    (λ (k : Plain ts a). fails (passes plain_name) (passes cut_name) plain_cut (ts ++ rest) (dotted_heads plain_name (One plain_name) ts a rest k))
    h)

some_base : (ts : List Token) × (a : AName × AName) × Base ts a
some_base = let c = some_one cut_name cut_token in (c.0, c.1, inl c.2)

-- ---- the slicer

abbrev Where : Lang (List (List AName))
Where = Or Paths (Makes Path alone)

path_heads : (ts : List Token) (a : List AName) (rest : List Token) → Path ts a → begins (passes part) (ts ++ rest) ≡ true
path_heads ts a rest h =
    let k = h.1 in
    ap (λ z. begins (passes part) (z ++ rest)) k.2 ∙ ap (begins (passes part)) (append_assoc k.0 k.1 rest) ∙ one_begins part k.0 h.0.0 (k.1 ++ rest) k.3

where_law : Law Where path_goes (read_if (passes open_mark) read_paths (read_as read_path alone))
where_law = or_law Paths (Makes Path alone) path_goes (passes open_mark) read_paths (read_as read_path alone)
    (loosen Paths Never path_goes read_paths (λ ts h. never_halts ts) paths_law)
    (as_law Path path_goes read_path alone path_law)
    (λ ts a rest h. behind_heads open_mark _ ts a rest h)
    (λ ts a rest h halts. fails (passes part) (passes open_mark) part_open (ts ++ rest) (path_heads ts h.0 rest h.1))

slicer_law : Law Slicer path_goes read_slicer
unfolding read_slicer
slicer_law = right_never (Key (codes "where")) Where path_goes (read_key (codes "where")) (read_if (passes open_mark) read_paths (read_as read_path alone)) (one_law (key (codes "where")) (key_token (codes "where") refl)) where_law
    (some_path.0, alone some_path.1, inr (some_path.1, some_path.2, refl))

-- ---- queries

abbrev Columns : Lang Axis
Columns = Key (codes "select") ▷ AxisText (codes "columns")

abbrev Rows : Lang Axis
Rows = One comma ▷ AxisText (codes "rows")

abbrev Source : Lang (AName × AName)
Source = Key (codes "from") ▷ Base

columns_law : Law Columns Never read_columns
columns_law = right_never (Key (codes "select")) (AxisText (codes "columns")) Never (read_key (codes "select")) (read_axis (codes "columns")) (one_law (key (codes "select")) (key_token (codes "select") refl)) (axis_law (codes "columns") refl) (some_axis (codes "columns") refl)

rows_law : Law Rows Never read_rows
rows_law = right_never (One comma) (AxisText (codes "rows")) Never (read_one comma) (read_axis (codes "rows")) (one_law comma comma_token) (axis_law (codes "rows") refl) (some_axis (codes "rows") refl)

source_law : Law Source Never read_source
source_law = right_never (Key (codes "from")) Base Never (read_key (codes "from")) read_base (one_law (key (codes "from")) (key_token (codes "from") refl)) base_law some_base

abbrev pub query_goes : Token → Bool
query_goes = either (passes (key (codes "where"))) path_goes

abbrev Database : Lang ((AName × AName) × Option (List (List AName)))
Database = Then Source (Maybe Slicer)

abbrev read_database : List Token → Read ((AName × AName) × Option (List (List AName)))
read_database = read_then read_source (read_maybe (passes (key (codes "where"))) read_slicer)

database_law : Law Database query_goes read_database
database_law = then_never Source (Maybe Slicer) query_goes read_source (read_maybe (passes (key (codes "where"))) read_slicer) source_law
    (maybe_law Slicer path_goes (passes (key (codes "where"))) read_slicer slicer_law (behind_heads (key (codes "where")) Where)) (some_maybe Slicer)

some_database : (ts : List Token) × (v : (AName × AName) × Option (List (List AName))) × Database ts v
some_database = let s = some_behind (key (codes "from")) Base (key_token (codes "from") refl) some_base in
    (s.0, (s.1, None), (s.0, [], sym (append-nil s.0), s.2, inr (refl, refl)))

-- what begins with the first part begins with its word
then_begins : {A B : Type 0} (P : Lang A) (Q : Lang B) (test : Token → Bool) → ((ts : List Token) (a : A) (rest : List Token) → P ts a → begins test (ts ++ rest) ≡ true) → (ts : List Token) (v : A × B) (rest : List Token) → Then P Q ts v → begins test (ts ++ rest) ≡ true
then_begins P Q test heads ts v rest h = ap (λ z. begins test (z ++ rest)) h.2 ∙ ap (begins test) (append_assoc h.0 h.1 rest) ∙ heads h.0 v.0 (h.1 ++ rest) h.3

from_comma : (t : Token) → passes (key (codes "from")) t ≡ true → own_goes t ≡ false
from_comma t h = either_false (passes comma t) false (key_comma (codes "from") t h) refl

abbrev Second : Lang (Option Axis × ((AName × AName) × Option (List (List AName))))
Second = Then (Maybe Rows) Database

abbrev read_second : List Token → Read (Option Axis × ((AName × AName) × Option (List (List AName))))
read_second = read_then (read_maybe (passes comma) read_rows) read_database

second_law : Law Second query_goes read_second
second_law = then_law (Maybe Rows) Database own_goes query_goes (read_maybe (passes comma) read_rows) read_database
    (maybe_law Rows Never (passes comma) read_rows rows_law (behind_heads comma (AxisText (codes "rows")))) database_law some_database
    (λ ys b rest h halts. fails (passes (key (codes "from"))) own_goes from_comma (ys ++ rest) (then_begins Source (Maybe Slicer) (passes (key (codes "from"))) (behind_heads (key (codes "from")) Base) ys b rest h))

some_second : (ts : List Token) × (v : Option Axis × ((AName × AName) × Option (List (List AName)))) × Second ts v
some_second = let d = some_database in (d.0, (None, d.1), ([], d.0, refl, inr (refl, refl), d.2))

abbrev Selected : Lang (Axis × (Option Axis × ((AName × AName) × Option (List (List AName)))))
Selected = Then Columns Second

selected_law : Law Selected query_goes (read_then read_columns read_second)
selected_law = then_never Columns Second query_goes read_columns read_second columns_law second_law some_second

some_selected : (ts : List Token) × (v : Axis × (Option Axis × ((AName × AName) × Option (List (List AName))))) × Selected ts v
some_selected =
    let c = some_behind (key (codes "select")) (AxisText (codes "columns")) (key_token (codes "select") refl) (some_axis (codes "columns") refl) in
    let s = some_second in
    (c.0 ++ s.0, (c.1, s.1), (c.0, s.0, refl, c.2, s.2))

abbrev with_goes : Token → Bool
with_goes = either (passes (key (codes "with"))) owns_goes

select_apart : (t : Token) → passes (key (codes "select")) t ≡ true → with_goes t ≡ false
select_apart t h = either_false (passes (key (codes "with")) t) (owns_goes t) (key_apart (codes "select") (codes "with") refl t h)
    (either_false (passes (key (codes "member")) t) (own_goes t) (key_apart (codes "select") (codes "member") refl t h)
    (either_false (passes comma t) false (key_comma (codes "select") t h) refl))

pub query_law : Law QueryTokens query_goes read_query
unfolding QueryTokens read_query
query_law = as_law (Then (Maybe Owns) Selected) query_goes (read_then (read_maybe (passes (key (codes "with"))) read_owns) (read_then read_columns read_second)) query
    (then_law (Maybe Owns) Selected with_goes query_goes (read_maybe (passes (key (codes "with"))) read_owns) (read_then read_columns read_second)
    (maybe_law Owns owns_goes (passes (key (codes "with"))) read_owns owns_law (behind_heads (key (codes "with")) OwnList)) selected_law some_selected
    (λ ys b rest h halts. fails (passes (key (codes "select"))) with_goes select_apart (ys ++ rest) (then_begins Columns Second (passes (key (codes "select"))) (behind_heads (key (codes "select")) (AxisText (codes "columns"))) ys b rest h)))
