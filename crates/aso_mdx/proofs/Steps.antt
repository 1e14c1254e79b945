-- The reading of sets, by the tokens at the front.
use Rattle.std.proofs.Common.{◌≡◌, ◌≢◌, ℕ, zero, suc, ◌-◌, ◌<◌, length, Bool, true, false, List, [], ◌∷◌, ◌++◌, Option, Some, None, Ok, Err, refl, sym, ◌∙◌, ap, append_assoc, append-nil, ◌&&◌, map, fold, arith, option_map, is_some, codes}
use Rattle.aso_token.specs.declared.token.Token.{Token}
use Rattle.aso_token.specs.declared.token.Token.TheVariants.{Mark}
use Rattle.aso_token.specs.declared.token.Mark.TheVariants.{Open}
use Rattle.aso_token.specs.Reads.{Read, ◌>>=◌, taken, paired, second, made, begins, begin, read_one, read_then, read_as, read_many, with_rest, onward, gathered, front_of, passes, ◌▸◌, ◌◂◌}
use Rattle.aso_token.proofs.Laws.{if_true, if_false, not_front, good}
use Rattle.aso_token.specs.Marks.{comma, open_mark, close_mark}
use Rattle.aso_token.specs.Words.{key, part, dot, open_set, close_set}
use Rattle.aso_mdx.specs.declared.query.SetText.{SetText}
use Rattle.aso_mdx.specs.declared.query.SetText.TheVariants.{Braced, Tuple}
use Rattle.aso_mdx.specs.Grammar.{Name, Rest, all_of, later_part, function, method, applied, plain, last, longer, ended, crossed}
use Rattle.aso_mdx.specs.Reading.{read_listed, read_path, read_paths, read_call, read_step, read_tail, read_tails, read_dotted, read_leaf, read_crossing, read_nested, read_tuple_rest, read_applied, read_braces_rest, read_crossing_rest, pair_crossed, opened, grown, finish}
use Rattle.aso_mdx.proofs.Laws.{same_tail, one_less, later_token, and_false}

-- ---- the front token

pub front_is : {A : Type 0} (o : Option A) (us : List Token) (a : A) (rest : List Token) → Some (a, rest) ≡ option_map (with_rest us) o → (o ≡ Some a) × (us ≡ rest)
front_is None us a rest e = absurd (let n : ⊥ = cc in n)
front_is {A} (Some b) us a rest e =
    let same : (b, us) ≡ (a, rest) = cc in
    (ap (λ (z : A × List Token). Some z.0) same, ap (λ (z : A × List Token). z.1) same)

front_begins : {A : Type 0} (f : Token → Option A) (ts : List Token) (a : A) (rest : List Token) → Some (a, rest) ≡ front_of f ts → begins (passes f) ts ≡ true
front_begins f [] a rest e = absurd (let n : ⊥ = cc in n)
front_begins f (t ∷ us) a rest e = ap is_some (front_is (f t) us a rest e).0

behind_same : {A B C : Type 0} (g : B → C) (z : Read B) (a : A) → (((z >>= paired a) >>= made (λ (v : A × B). v.1)) >>= made g) ≡ (z >>= made g)
behind_same g (Ok y) a = refl
behind_same g (Err w) a = refl

right_same : {A B : Type 0} (z : Read B) (a : A) → ((z >>= paired a) >>= made (λ (v : A × B). v.1)) ≡ z
right_same (Ok y) a = refl
right_same (Err w) a = refl

-- what is read behind a token that was taken
front_case : {A B C : Type 0} (f : Token → Option A) (r : List Token → Read B) (g : B → C) (ts rest : List Token) (a : A) → Some (a, rest) ≡ front_of f ts → read_as (read_one f ▸ r) g ts ≡ read_as r g rest
front_case f r g [] rest a e = absurd (let n : ⊥ = cc in n)
front_case {A} {B} f r g (t ∷ us) rest a e =
    let k = front_is (f t) us a rest e in
    ap (λ (o : Option A). (((taken o t us >>= second r) >>= made (λ (v : A × B). v.1)) >>= made g)) k.0
    ∙ behind_same g (r us) a ∙ ap (λ (z : List Token). r z >>= made g) k.1

front_right : {A B : Type 0} (f : Token → Option A) (r : List Token → Read B) (ts rest : List Token) (a : A) → Some (a, rest) ≡ front_of f ts → (read_one f ▸ r) ts ≡ r rest
front_right f r [] rest a e = absurd (let n : ⊥ = cc in n)
front_right {A} {B} f r (t ∷ us) rest a e =
    let k = front_is (f t) us a rest e in
    ap (λ (o : Option A). ((taken o t us >>= second r) >>= made (λ (v : A × B). v.1))) k.0
    ∙ right_same (r us) a ∙ ap r k.1

-- ---- the two front tokens

opened_begin : {A : Type 0} (f : Token → Option A) (ts rest : List Token) (a : A) → Some (a, rest) ≡ opened f ts → begin (passes f) (passes open_mark) ts ≡ true
opened_begin f [] rest a e = absurd (let n : ⊥ = cc in n)
opened_begin f (t ∷ []) rest a e = absurd (let n : ⊥ = cc in n)
opened_begin {A} f (t ∷ Mark Open ∷ us) rest a e = ap (λ (o : Option A). is_some o && true) (front_is (f t) us a rest e).0
opened_begin f (t ∷ m ∷ us) rest a e = absurd (let n : ⊥ = cc in n)

none_is : {A : Type 0} (o : Option A) (us : List Token) → None ≡ option_map (with_rest us) o → is_some o ≡ false
none_is None us e = refl
none_is (Some b) us e = absurd (let n : ⊥ = cc in n)

opened_none : {A : Type 0} (f : Token → Option A) (ts : List Token) → None ≡ opened f ts → begin (passes f) (passes open_mark) ts ≡ false
opened_none f [] e = refl
opened_none f (t ∷ []) e = and_false (passes f t)
opened_none f (t ∷ Mark Open ∷ us) e = ap (λ (b : Bool). b && true) (none_is (f t) us e)
opened_none f (t ∷ m ∷ us) e = and_false (passes f t)

-- ---- leaves

pub leaf_open : (ts rest : List Token) → Some (tt, rest) ≡ front_of open_mark ts → read_tuple_rest rest ≡ read_leaf ts
unfolding read_leaf read_paths
leaf_open ts rest e = sym (if_true (begins (passes open_mark) ts) _ _ (front_begins open_mark ts tt rest e) ∙ front_case open_mark (read_listed read_path ◂ read_one close_mark) Tuple ts rest tt e)

call_same : (m : List Name → SetText) (z : Read (List Name)) → ((z >>= paired m) >>= made applied) ≡ (z >>= made m)
call_same m (Ok y) = refl
call_same m (Err w) = refl

call_case : (ts rest : List Token) (m : List Name → SetText) → Some (m, rest) ≡ opened function ts → read_call ts ≡ read_applied m rest
unfolding read_call
call_case [] rest m e = absurd (let n : ⊥ = cc in n)
call_case (t ∷ []) rest m e = absurd (let n : ⊥ = cc in n)
call_case (t ∷ Mark Open ∷ us) rest m e =
    let k = front_is (function t) us m rest e in
    let body = read_path ◂ read_one close_mark in
    ap (λ (o : Option (List Name → SetText)). ((((taken o t (Mark Open ∷ us) >>= second (read_one open_mark)) >>= made (λ (v : (List Name → SetText) × Unit {0}). v.0)) >>= second body) >>= made applied)) k.0
    ∙ call_same m (body us) ∙ ap (λ (z : List Token). body z >>= made m) k.1
call_case (t ∷ x ∷ us) rest m e = absurd (let n : ⊥ = cc in n)

pub leaf_call : (ts rest : List Token) (m : List Name → SetText) → None ≡ front_of open_mark ts → Some (m, rest) ≡ opened function ts → read_applied m rest ≡ read_leaf ts
unfolding read_leaf
leaf_call ts rest m shut e = sym (if_false (begins (passes open_mark) ts) _ _ (not_front open_mark ts shut) ∙ if_true (begin (passes function) (passes open_mark) ts) _ _ (opened_begin function ts rest m e) ∙ call_case ts rest m e)

pub leaf_dotted : (ts : List Token) → None ≡ front_of open_mark ts → None ≡ opened function ts → read_dotted ts ≡ read_leaf ts
unfolding read_leaf
leaf_dotted ts shut e = sym (if_false (begins (passes open_mark) ts) _ _ (not_front open_mark ts shut) ∙ if_false (begin (passes function) (passes open_mark) ts) _ _ (opened_none function ts e))

-- ---- nested sets

pub set_zero : (n : ℕ) (ts : List Token) → n ≡ 0 → read_leaf ts ≡ read_nested n ts
unfolding read_nested
set_zero zero ts e = refl
set_zero (suc n) ts e = absurd (omega arith)

pub set_brace : (n : ℕ) (ts rest : List Token) → n ≢ 0 → Some (tt, rest) ≡ front_of open_set ts → read_braces_rest (read_nested (n - 1)) rest ≡ read_nested n ts
unfolding read_nested
set_brace zero ts rest some e = absurd (some refl)
set_brace (suc n) ts rest some e =
    let less : suc n - 1 ≡ n = omega arith in
    ap (λ (k : ℕ). read_braces_rest (read_nested k) rest) less
    ∙ sym (if_true (begins (passes open_set) ts) _ _ (front_begins open_set ts tt rest e) ∙ front_case open_set (read_listed (read_nested n) ◂ read_one close_set) Braced ts rest tt e)

crossing_same : (z : Read (SetText × SetText)) (a : Unit {0}) → ((z >>= paired a) >>= made crossed) ≡ (z >>= made pair_crossed)
crossing_same (Ok y) a = refl
crossing_same (Err w) a = refl

crossing_case : (r : List Token → Read SetText) (ts rest : List Token) → Some (tt, rest) ≡ opened (key (codes "crossjoin")) ts → read_crossing r ts ≡ read_crossing_rest r rest
crossing_case r [] rest e = absurd (let n : ⊥ = cc in n)
crossing_case r (t ∷ []) rest e = absurd (let n : ⊥ = cc in n)
crossing_case r (t ∷ Mark Open ∷ us) rest e =
    let k = front_is (key (codes "crossjoin") t) us tt rest e in
    let body = read_then (r ◂ read_one comma) r ◂ read_one close_mark in
    ap (λ (o : Option (Unit {0})). ((((taken o t (Mark Open ∷ us) >>= second (read_one open_mark)) >>= made (λ (v : Unit {0} × Unit {0}). v.0)) >>= second body) >>= made crossed)) k.0
    ∙ crossing_same (body us) tt ∙ ap (λ (z : List Token). body z >>= made pair_crossed) k.1
crossing_case r (t ∷ x ∷ us) rest e = absurd (let n : ⊥ = cc in n)

pub set_cross : (n : ℕ) (ts rest : List Token) → n ≢ 0 → None ≡ front_of open_set ts → Some (tt, rest) ≡ opened (key (codes "crossjoin")) ts → read_crossing_rest (read_nested (n - 1)) rest ≡ read_nested n ts
unfolding read_nested
set_cross zero ts rest some shut e = absurd (some refl)
set_cross (suc n) ts rest some shut e =
    let less : suc n - 1 ≡ n = omega arith in
    ap (λ (k : ℕ). read_crossing_rest (read_nested k) rest) less
    ∙ sym (if_false (begins (passes open_set) ts) _ _ (not_front open_set ts shut) ∙ if_true (begin (passes (key (codes "crossjoin"))) (passes open_mark) ts) _ _ (opened_begin (key (codes "crossjoin")) ts rest tt e) ∙ crossing_case (read_nested n) ts rest e)

pub set_leaf : (n : ℕ) (ts : List Token) → n ≢ 0 → None ≡ front_of open_set ts → None ≡ opened (key (codes "crossjoin")) ts → read_leaf ts ≡ read_nested n ts
unfolding read_nested
set_leaf zero ts some shut e = absurd (some refl)
set_leaf (suc n) ts some shut e = sym (if_false (begins (passes open_set) ts) _ _ (not_front open_set ts shut) ∙ if_false (begin (passes (key (codes "crossjoin"))) (passes open_mark) ts) _ _ (opened_none (key (codes "crossjoin")) ts e))

-- ---- lists as they grow

grown_same : {A : Type 0} (all : List A) (ys : List (Unit {0} × A)) → all ++ map (λ x. x.1) ys ≡ fold grown all ys
grown_same all [] = append-nil all
grown_same all (y ∷ ys) = sym (append_assoc all (y.1 ∷ []) (map (λ x. x.1) ys)) ∙ grown_same (all ++ y.1 ∷ []) ys

pub all_same : {A : Type 0} (a : A) (ys : List (Unit {0} × A)) → all_of (a, ys) ≡ fold grown (a ∷ []) ys
all_same a ys = grown_same (a ∷ []) ys

path_regroup : (a : Name) (z : Read (List (Unit {0} × Name))) → ((z >>= paired a) >>= made all_of) ≡ (z >>= gathered grown (a ∷ []))
path_regroup a (Ok y) = ap (λ (all : List Name). good (all, y.1)) (all_same a y.0)
path_regroup a (Err w) = refl

pub path_start : (ts : List Token) (x : Name × List Token) → read_one part ts ≡ Ok x → read_path ts ≡ onward grown dot (read_one later_part) (x.0 ∷ []) x.1
unfolding read_path
path_start ts x is =
    let many = read_many (passes dot) (read_then (read_one dot) (read_one later_part)) in
    ap (λ (z : Read Name). (z >>= second many) >>= made all_of) is ∙ path_regroup x.0 (many x.1)

pub path_fail : (ts rest : List Token) → read_one part ts ≡ Err rest → read_path ts ≡ Err rest
unfolding read_path
path_fail ts rest is =
    let many = read_many (passes dot) (read_then (read_one dot) (read_one later_part)) in
    ap (λ (z : Read Name). (z >>= second many) >>= made all_of) is

-- ---- a member and a method

dotted_same : (a : Name) (z : Read Rest) → ((z >>= paired a) >>= made ended) ≡ (z >>= finish (a ∷ []))
dotted_same a (Ok y) = refl
dotted_same a (Err w) = refl

pub dotted_start : (ts : List Token) (x : Name × List Token) → read_one part ts ≡ Ok x → read_dotted ts ≡ (read_tails x.1 >>= finish (x.0 ∷ []))
unfolding read_dotted
dotted_start ts x is = ap (λ (z : Read Name). (z >>= second read_tails) >>= made ended) is ∙ dotted_same x.0 (read_tails x.1)

pub dotted_fail : (ts rest : List Token) → read_one part ts ≡ Err rest → read_dotted ts ≡ Err rest
unfolding read_dotted
dotted_fail ts rest is = ap (λ (z : Read Name). (z >>= second read_tails) >>= made ended) is

pub dotted_end : (parts : List Name) (ts : List Token) → None ≡ front_of dot ts → (read_tails ts >>= finish parts) ≡ Ok (plain.1 parts, ts)
unfolding read_tail
dotted_end parts [] e = ap (λ (z : List Name). good (plain.1 z, [])) (append-nil parts)
dotted_end parts (t ∷ us) e =
    ap (λ (z : Read Rest). z >>= finish parts) (if_false (passes dot t) ((read_one dot ▸ read_step (read_tail (length us))) (t ∷ us)) (Ok (plain, t ∷ us)) (none_is (dot t) us e))
    ∙ ap (λ (z : List Name). good (plain.1 z, t ∷ us)) (append-nil parts)

tails_step : (ts rest : List Token) → Some (tt, rest) ≡ front_of dot ts → read_tails ts ≡ read_step (read_tail (length rest)) rest
unfolding read_tail
tails_step [] rest e = absurd (let n : ⊥ = cc in n)
tails_step (t ∷ us) rest e =
    let k = front_is (dot t) us tt rest e in
    if_true (passes dot t) ((read_one dot ▸ read_step (read_tail (length us))) (t ∷ us)) (Ok (plain, t ∷ us)) (ap is_some k.0)
    ∙ front_right dot (read_step (read_tail (length us))) (t ∷ us) us tt (sym (ap (option_map (with_rest us)) k.0))
    ∙ ap (λ (z : List Token). read_step (read_tail (length z)) z) k.1

step_method : (r : List Token → Read Rest) (ts left : List Token) (m : List Name → SetText) → Some (m, left) ≡ front_of method ts → read_step r ts ≡ Ok (last m, left)
step_method r [] left m e = absurd (let n : ⊥ = cc in n)
step_method r (t ∷ us) left m e =
    let k = front_is (method t) us m left e in
    if_true (passes method t) _ _ (ap is_some k.0)
    ∙ ap (λ (o : Option (List Name → SetText)). taken o t us >>= made last) k.0
    ∙ ap (λ (z : List Token). good (last m, z)) k.1

pub dotted_method : (parts : List Name) (ts rest left : List Token) (m : List Name → SetText) → Some (tt, rest) ≡ front_of dot ts → Some (m, left) ≡ front_of method rest → (read_tails ts >>= finish parts) ≡ Ok (m parts, left)
dotted_method parts ts rest left m e g =
    ap (λ (z : Read Rest). z >>= finish parts) (tails_step ts rest e ∙ step_method (read_tail (length rest)) rest left m g)
    ∙ ap (λ (z : List Name). good (m z, left)) (append-nil parts)

step_later : (r : List Token → Read Rest) (ts : List Token) (x : Name × List Token) → None ≡ front_of method ts → read_one later_part ts ≡ Ok x → read_step r ts ≡ ((r x.1 >>= paired x.0) >>= made longer)
step_later r ts x none is = if_false (begins (passes method) ts) _ _ (not_front method ts none) ∙ ap (λ (z : Read Name). (z >>= second r) >>= made longer) is

step_fail : (r : List Token → Read Rest) (ts rest : List Token) → None ≡ front_of method ts → read_one later_part ts ≡ Err rest → read_step r ts ≡ Err rest
step_fail r ts rest none is = if_false (begins (passes method) ts) _ _ (not_front method ts none) ∙ ap (λ (z : Read Name). (z >>= second r) >>= made longer) is

longer_same : (parts : List Name) (a : Name) (z : Read Rest) → (((z >>= paired a) >>= made longer) >>= finish parts) ≡ (z >>= finish (parts ++ a ∷ []))
longer_same parts a (Ok y) = ap (λ (p : List Name). good (y.0.1 p, y.1)) (sym (append_assoc parts (a ∷ []) y.0.0))
longer_same parts a (Err w) = refl

pub dotted_more : (parts : List Name) (ts rest : List Token) (x : Name × List Token) → Some (tt, rest) ≡ front_of dot ts → None ≡ front_of method rest → read_one later_part rest ≡ Ok x → (read_tails ts >>= finish parts) ≡ (read_tails x.1 >>= finish (parts ++ x.0 ∷ []))
dotted_more parts ts rest x e none is =
    let l = one_less later_part later_token rest x is in
    ap (λ (z : Read Rest). z >>= finish parts) (tails_step ts rest e ∙ step_later (read_tail (length rest)) rest x none is)
    ∙ longer_same parts x.0 (read_tail (length rest) x.1)
    ∙ ap (λ (z : Read Rest). z >>= finish (parts ++ x.0 ∷ [])) (same_tail (length rest) (length x.1) x.1 (omega arith) (omega arith))

pub dotted_stop : (parts : List Name) (ts rest fault : List Token) → Some (tt, rest) ≡ front_of dot ts → None ≡ front_of method rest → read_one later_part rest ≡ Err fault → (read_tails ts >>= finish parts) ≡ Err fault
dotted_stop parts ts rest fault e none is = ap (λ (z : Read Rest). z >>= finish parts) (tails_step ts rest e ∙ step_fail (read_tail (length rest)) rest fault none is)

-- a token and a part less
pub dotted_less : (ts rest : List Token) (x : Name × List Token) → Some (tt, rest) ≡ front_of dot ts → read_one later_part rest ≡ Ok x → length x.1 < length ts
dotted_less [] rest x e is = absurd (let n : ⊥ = cc in n)
dotted_less (t ∷ us) rest x e is =
    let k = front_is (dot t) us tt rest e in
    omega (arith, one_less later_part later_token rest x is, ap length k.1)
