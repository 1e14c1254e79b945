-- What is read is in the grammar of sets, what is in it is read, and a fault is where nothing can come.
use Rattle.std.proofs.Common.{◌≡◌, ℕ, zero, suc, ◌+◌, ◌≤◌, length, length-append, arith, Bool, true, false, List, [], ◌∷◌, ◌++◌, Option, Some, None, Ok, Err, ◌⊎◌, inl, inr, ⊎_elim, refl, sym, ◌∙◌, ap, append-nil, ◌||◌, ◌&&◌, is_some, codes, if◌then◌else◌}
use Rattle.std.specs.Str.{str_eq_ignore_ascii_case, str_to_ascii_lowercase, bytes_eq}
use Rattle.std.proofs.lemmas.Slice.Eq.{bytes_eq-Decides}
use Rattle.aso_token.specs.declared.token.Token.{Token}
use Rattle.aso_token.specs.declared.token.Token.TheVariants.{Word, Name, Mark}
use Rattle.aso_token.specs.declared.token.Mark.TheVariants.{Dot, Comma, Open, Close, OpenSet, CloseSet}
use Rattle.aso_token.specs.Lang.{Lang, One, Then, Or, Makes, Empty, Many, Chain, ◌▷◌, ◌◁◌}
use Rattle.aso_token.specs.Reads.{Read, ◌>>=◌, taken, paired, second, made, begins, begin, begins_second, read_one, read_then, read_as, read_if, read_if_two, read_many, read_chain, read_empty, passes, ◌▸◌, ◌◂◌}
use Rattle.aso_token.proofs.Laws.{Law, Halts, either, one_law, loosen, halts_first, halts_second, never_halts, fails, if_false, ok_err}
use Rattle.aso_token.proofs.Sequences.{Never, then_law, then_never, right_never, left_never, as_law}
use Rattle.aso_token.proofs.Choices.{or_law, or_two_law, empty_law}
use Rattle.aso_token.proofs.Lists.{chain_law, pairs_law, one_heads}
use Rattle.aso_token.specs.Marks.{comma, open_mark, close_mark}
use Rattle.aso_token.specs.Words.{is_word, key, known, part, dot, open_set, close_set}
use Rattle.aso_mdx.specs.declared.query.SetText.{SetText}
use Rattle.aso_mdx.specs.declared.query.SetText.TheVariants.{Braced, Member, Tuple, Children, Members, Descendants, Leaves}
use Rattle.aso_mdx.specs.Grammar.{Name as AName, Rest, Key, all_of, Listed, later_part, Path, Paths, function, method, applied, Call, plain, last, longer, Tail, Tails, ended, Dotted, Leaf, InBraces, crossed, Crossing, Set, SetTokens}
use Rattle.aso_mdx.specs.Reading.{read_key, read_listed, read_path, read_paths, read_call, read_step, read_tail, read_tails, read_dotted, read_leaf, read_braces, read_crossing, read_nested}

-- ---- parts that many rules have

pub some_one : {A : Type 0} (f : Token → Option A) → (t : Token) × (a : A) × (f t ≡ Some a) → (ts : List Token) × (a : A) × One f ts a
some_one f tok = (tok.0 ∷ [], tok.1, (tok.0, refl, tok.2))

-- a text with one token behind it
pub closed_law : {A B : Type 0} (P : Lang A) (gp : Token → Bool) (r : List Token → Read A) → Law P gp r → (f : Token → Option B) → (t : Token) × (b : B) × (f t ≡ Some b) → ((t : Token) → passes f t ≡ true → gp t ≡ false) → Law (P ◁ One f) Never (r ◂ read_one f)
closed_law P gp r p f tok apart = as_law (Then P (One f)) Never (read_then r (read_one f)) (λ v. v.0)
    (then_law P (One f) gp Never r (read_one f) p (one_law f tok) (some_one f tok)
    (λ ys b rest h halts. ap (λ z. begins gp (z ++ rest)) h.1 ∙ apart h.0 (ap is_some h.2)))

pub some_closed : {A B : Type 0} (P : Lang A) (f : Token → Option B) → (ts : List Token) × (a : A) × P ts a → (t : Token) × (b : B) × (f t ≡ Some b) → (ts : List Token) × (a : A) × (P ◁ One f) ts a
some_closed P f some tok = (some.0 ++ tok.0 ∷ [], some.1, ((some.1, tok.1), (some.0, tok.0 ∷ [], refl, some.2, (tok.0, refl, tok.2)), refl))

pub behind_heads : {A B : Type 0} (f : Token → Option A) (Q : Lang B) (ts : List Token) (b : B) (rest : List Token) → (One f ▷ Q) ts b → begins (passes f) (ts ++ rest) ≡ true
behind_heads f Q ts b rest h = one_heads f Q ts h.0 rest h.1

pub some_behind : {A B : Type 0} (f : Token → Option A) (Q : Lang B) → (t : Token) × (a : A) × (f t ≡ Some a) → (ts : List Token) × (b : B) × Q ts b → (ts : List Token) × (b : B) × (One f ▷ Q) ts b
some_behind f Q tok some = (tok.0 ∷ some.0, some.1, ((tok.1, some.1), (tok.0 ∷ [], some.0, refl, (tok.0, refl, tok.2), some.2), refl))

pub comma_token : (t : Token) × (a : Unit {0}) × (comma t ≡ Some a)
comma_token = (Mark Comma, tt, refl)

pub open_token : (t : Token) × (a : Unit {0}) × (open_mark t ≡ Some a)
open_token = (Mark Open, tt, refl)

pub close_token : (t : Token) × (a : Unit {0}) × (close_mark t ≡ Some a)
close_token = (Mark Close, tt, refl)

pub dot_token : (t : Token) × (a : Unit {0}) × (dot t ≡ Some a)
dot_token = (Mark Dot, tt, refl)

open_set_token : (t : Token) × (a : Unit {0}) × (open_set t ≡ Some a)
open_set_token = (Mark OpenSet, tt, refl)

close_set_token : (t : Token) × (a : Unit {0}) × (close_set t ≡ Some a)
close_set_token = (Mark CloseSet, tt, refl)

pub part_token : (t : Token) × (a : AName) × (part t ≡ Some a)
part_token = (Word [], [], refl)

pub later_token : (t : Token) × (a : AName) × (later_part t ≡ Some a)
unfolding is_word
later_token = (Name [], [], refl)

function_token : (t : Token) × (a : List AName → SetText) × (function t ≡ Some a)
unfolding is_word
function_token = (Word (codes "children"), Children, refl)

method_token : (t : Token) × (a : List AName → SetText) × (method t ≡ Some a)
unfolding is_word
method_token = (Word (codes "children"), Children, refl)

cross_token : (t : Token) × (a : Unit {0}) × (key (codes "crossjoin") t ≡ Some a)
unfolding is_word
cross_token = (Word (codes "crossjoin"), tt, refl)

module _ {A : Type 0} (P : Lang A) (gp : Token → Bool) (r : List Token → Read A) (p : Law P gp r) (apart : (t : Token) → passes comma t ≡ true → gp t ≡ false) (some : (ts : List Token) × (a : A) × P ts a) where
  pub listed_law : Law (Listed P) (either (passes comma) gp) (read_listed r)
  listed_law = as_law (Chain comma P) (either (passes comma) gp) (read_chain comma r) all_of (chain_law P gp r p comma apart comma_token some)

  some_listed : (ts : List Token) × (a : List A) × Listed P ts a
  some_listed = (some.0, some.1 ∷ [], ((some.1, []), (some.0, [], sym (append-nil some.0), some.2, (zero, (refl, refl))), refl))

-- ---- members

abbrev pub path_goes : Token → Bool
path_goes = either (passes dot) Never

pub path_law : Law Path path_goes read_path
unfolding read_path
path_law = as_law (Then (One part) (Many (Then (One dot) (One later_part)))) path_goes (read_then (read_one part) (read_many (passes dot) (read_then (read_one dot) (read_one later_part)))) all_of
    (then_never (One part) (Many (Then (One dot) (One later_part))) path_goes (read_one part) (read_many (passes dot) (read_then (read_one dot) (read_one later_part))) (one_law part part_token)
    (pairs_law (One later_part) Never (read_one later_part) (one_law later_part later_token) dot (λ t e. refl) dot_token (some_one later_part later_token))
    ([], [], (zero, (refl, refl))))

pub some_path : (ts : List Token) × (a : List AName) × Path ts a
some_path = (Word [] ∷ [], [] ∷ [], (([], []), (Word [] ∷ [], [], refl, (Word [], refl, refl), (zero, (refl, refl))), refl))

pub comma_path : (t : Token) → passes comma t ≡ true → path_goes t ≡ false
comma_path (Mark Comma) e = refl
comma_path t e = absurd (let n : ⊥ = cc in n)

pub close_path : (t : Token) → passes close_mark t ≡ true → path_goes t ≡ false
close_path (Mark Close) e = refl
close_path t e = absurd (let n : ⊥ = cc in n)

close_paths : (t : Token) → passes close_mark t ≡ true → either (passes comma) path_goes t ≡ false
close_paths (Mark Close) e = refl
close_paths t e = absurd (let n : ⊥ = cc in n)

pub paths_law : Law Paths Never read_paths
unfolding read_paths
paths_law = right_never (One open_mark) (Listed Path ◁ One close_mark) Never (read_one open_mark) (read_listed read_path ◂ read_one close_mark) (one_law open_mark open_token)
    (closed_law (Listed Path) (either (passes comma) path_goes) (read_listed read_path) (listed_law Path path_goes read_path path_law comma_path some_path) close_mark close_token close_paths)
    (some_closed (Listed Path) close_mark (some_listed Path path_goes read_path path_law comma_path some_path) close_token)

pub call_law : Law Call Never read_call
unfolding read_call
call_law = as_law (Then (One function ◁ One open_mark) (Path ◁ One close_mark)) Never (read_then (read_one function ◂ read_one open_mark) (read_path ◂ read_one close_mark)) applied
    (then_never (One function ◁ One open_mark) (Path ◁ One close_mark) Never (read_one function ◂ read_one open_mark) (read_path ◂ read_one close_mark)
    (left_never (One function) (One open_mark) Never (read_one function) (read_one open_mark) (one_law function function_token) (one_law open_mark open_token) (some_one open_mark open_token))
    (closed_law Path path_goes read_path path_law close_mark close_token close_path) (some_closed Path close_mark some_path close_token))

-- ---- what follows a member's first part

abbrev pub Step : ℕ → Lang Rest
Step n = Or (Makes (One method) last) (Makes (Then (One later_part) (Tail n)) longer)

some_tail : (n : ℕ) → (ts : List Token) × (v : Rest) × Tail n ts v
some_tail zero = ([], plain, (refl, refl))
some_tail (suc n) = ([], plain, inr (refl, refl))

no_method : (a b : Bool) (o : Option AName) (x : AName) → (if a || b then None else o) ≡ Some x → is_some (let m : Option (List AName → SetText) = if a then Some Children else known b Members in m) ≡ false
no_method true b o x e = absurd (let n : ⊥ = cc in n)
no_method false true o x e = absurd (let n : ⊥ = cc in n)
no_method false false o x e = refl

method_heads : (ts : List Token) (v : Rest) (rest : List Token) → Makes (One method) last ts v → begins (passes method) (ts ++ rest) ≡ true
method_heads ts v rest h = ap (λ z. begins (passes method) (z ++ rest)) h.1.1 ∙ ap is_some h.1.2

later_heads : (n : ℕ) (ts : List Token) (v : Rest) (rest : List Token) → Makes (Then (One later_part) (Tail n)) longer ts v → begins (passes method) (ts ++ rest) ≡ false
later_heads n ts v rest h =
    let k = h.1 in
    ap (λ z. begins (passes method) (z ++ rest)) (k.2 ∙ ap (λ z. z ++ k.1) k.3.1)
    ∙ no_method (is_word (codes "children") k.3.0) (is_word (codes "members") k.3.0) (part k.3.0) h.0.0 k.3.2

step_law : (n : ℕ) → Law (Tail n) (passes dot) (read_tail n) → Law (Step n) (passes dot) (read_step (read_tail n))
step_law n tail = or_law (Makes (One method) last) (Makes (Then (One later_part) (Tail n)) longer) (passes dot) (passes method) (read_as (read_one method) last) (read_as (read_then (read_one later_part) (read_tail n)) longer)
    (loosen (Makes (One method) last) Never (passes dot) (read_as (read_one method) last) (λ ts h. never_halts ts) (as_law (One method) Never (read_one method) last (one_law method method_token)))
    (as_law (Then (One later_part) (Tail n)) (passes dot) (read_then (read_one later_part) (read_tail n)) longer
    (then_never (One later_part) (Tail n) (passes dot) (read_one later_part) (read_tail n) (one_law later_part later_token) tail (some_tail n)))
    method_heads (λ ts v rest h halts. later_heads n ts v rest h)

some_step : (n : ℕ) → (ts : List Token) × (v : Rest) × Step n ts v
some_step n = let m = some_one method method_token in (m.0, last m.1, inl (m.1, m.2, refl))

pub tail_law : (n : ℕ) → Law (Tail n) (passes dot) (read_tail n)
unfolding read_tail
tail_law zero = empty_law plain (passes dot)
tail_law (suc n) = or_law (One dot ▷ Step n) (Empty plain) (passes dot) (passes dot) (read_one dot ▸ read_step (read_tail n)) (read_empty plain)
    (right_never (One dot) (Step n) (passes dot) (read_one dot) (read_step (read_tail n)) (one_law dot dot_token) (step_law n (tail_law n)) (some_step n))
    (empty_law plain (passes dot))
    (behind_heads dot (Step n))
    (λ ts v rest h halts. ap (λ z. begins (passes dot) (z ++ rest)) h.0 ∙ halts)

-- ---- tails of any length

bind_same : {A B : Type 0} (z : Read A) (f g : A × List Token → Read B) → ((x : A × List Token) → z ≡ Ok x → f x ≡ g x) → (z >>= f) ≡ (z >>= g)
bind_same (Ok x) f g h = h x refl
bind_same (Err w) f g h = refl

-- a reader that takes one token leaves less
pub one_less : {A : Type 0} (f : Token → Option A) (tok : (t : Token) × (a : A) × (f t ≡ Some a)) (ts : List Token) (x : A × List Token) → read_one f ts ≡ Ok x → suc (length x.1) ≡ length ts
one_less f tok ts x e =
    let k = (one_law f tok).found ts x e in
    omega (arith, ap length k.1, length-append k.0 x.1, ap length k.2.1)

step_same : (r s : List Token → Read Rest) (ts : List Token) → ((us : List Token) → suc (length us) ≡ length ts → r us ≡ s us) → read_step r ts ≡ read_step s ts
step_same r s ts h =
    ap (λ (z : Read Rest). if begins (passes method) ts then read_as (read_one method) last ts else z)
    (ap (λ (z : Read (AName × Rest)). z >>= made longer)
    (bind_same (read_one later_part ts) (second r) (second s) (λ x e. ap (λ (z : Read Rest). z >>= paired x.0) (h x.1 (one_less later_part later_token ts x e)))))

pub same_tail : (n m : ℕ) (ts : List Token) → length ts ≤ n → length ts ≤ m → read_tail n ts ≡ read_tail m ts
unfolding read_tail
same_tail zero zero ts a b = refl
same_tail zero (suc m) [] a b = refl
same_tail zero (suc m) (t ∷ ts) a b = absurd (omega arith)
same_tail (suc n) zero [] a b = refl
same_tail (suc n) zero (t ∷ ts) a b = absurd (omega arith)
same_tail (suc n) (suc m) ts a b =
    ap (λ (z : Read Rest). if begins (passes dot) ts then z else Ok (plain, ts))
    (ap (λ (z : Read (Unit {0} × Rest)). z >>= made (λ v. v.1))
    (bind_same (read_one dot ts) (second (read_step (read_tail n))) (second (read_step (read_tail m)))
    (λ x e. ap (λ (z : Read Rest). z >>= paired x.0)
    (let k = one_less dot dot_token ts x e in step_same (read_tail n) (read_tail m) x.1 (λ us l. same_tail n m us (omega arith) (omega arith))))))

tail_ge : (n m : ℕ) (ts : List Token) (v : Rest) → n ≤ m → Tail n ts v → Tail m ts v
tail_ge zero zero ts v le h = h
tail_ge zero (suc m) ts v le h = inr h
tail_ge (suc n) zero ts v le h = absurd (omega arith)
tail_ge (suc n) (suc m) ts v le h = ⊎_elim
    (λ (h : (One dot ▷ Step n) ts v). let k = h.1 in
    inl (
      h.0,
      (
        k.0,
        k.1,
        k.2,
        k.3,
        ⊎_elim
            (λ (j : Makes (One method) last k.1 h.0.1). inl j)
            (λ (j : Makes (Then (One later_part) (Tail n)) longer k.1 h.0.1). let i = j.1 in inr (j.0, (i.0, i.1, i.2, i.3, tail_ge n m i.1 j.0.1 (omega arith) i.4), j.2))
            k.4,
      ),
      h.2,
    ))
    (λ (h : Empty plain ts v). inr h)
    h

pub tails_law : Law Tails (passes dot) read_tails
tails_law = record {
  found = λ ts x e. let f = (tail_law (length ts)).found ts x e in (f.0, f.1, (length ts, f.2));
  stops = λ ts rest e. let f = (tail_law (length ts)).stops ts rest e in (f.0, f.1, (f.2.0, f.2.1, (length ts, f.2.2)));
  whole = λ front a rest h halts.
      let n = length (front ++ rest) in
      same_tail n (h.0 + n) (front ++ rest) (omega arith) (omega arith)
      ∙ (tail_law (h.0 + n)).whole front a rest (tail_ge h.0 (h.0 + n) front a (omega arith) h.1) halts;
  near_ok = λ front us t rest other a e.
      let n = length (front ++ t ∷ rest) in
      let m = length (front ++ t ∷ other) in
      same_tail m (n + m) (front ++ t ∷ other) (omega arith) (omega arith)
      ∙ (tail_law (n + m)).near_ok front us t rest other a (same_tail (n + m) n (front ++ t ∷ rest) (omega arith) (omega arith) ∙ e);
  near_err = λ front t rest other e.
      let n = length (front ++ t ∷ rest) in
      let m = length (front ++ t ∷ other) in
      same_tail m (n + m) (front ++ t ∷ other) (omega arith) (omega arith)
      ∙ (tail_law (n + m)).near_err front t rest other (same_tail (n + m) n (front ++ t ∷ rest) (omega arith) (omega arith) ∙ e);
}

some_tails : (ts : List Token) × (v : Rest) × Tails ts v
some_tails = ([], plain, (zero, (refl, refl)))

pub dotted_law : Law Dotted (passes dot) read_dotted
unfolding read_dotted
dotted_law = as_law (Then (One part) Tails) (passes dot) (read_then (read_one part) read_tails) ended
    (then_never (One part) Tails (passes dot) (read_one part) read_tails (one_law part part_token) tails_law some_tails)

-- ---- choices by two tokens

abbrev pub Two : (Token → Bool) → (Token → Bool) → List Token → Type 0
Two f h ts = begin f h ts ≡ true

abbrev pub NotTwo : (Token → Bool) → (Token → Bool) → List Token → Type 0
NotTwo f h ts = begin f h ts ≡ false

pub no_first : (f h : Token → Bool) (ts : List Token) → Halts f ts → NotTwo f h ts
no_first f h ts e = ap (λ (b : Bool). b && begins_second h ts) e

pub and_false : (b : Bool) → (b && false) ≡ false
and_false true = refl
and_false false = refl

no_second : (f h : Token → Bool) (t : Token) (ts : List Token) → Halts h ts → NotTwo f h (t ∷ ts)
no_second f h t ts e = ap (λ (b : Bool). f t && b) e ∙ and_false (f t)

-- two tokens and what follows them
module _ {A B C D : Type 0} (f : Token → Option A) (h : Token → Option B) (Q : Lang C) (made_of : A × C → D) where
  pub two_begin : (ts : List Token) (d : D) (rest : List Token) → Makes (Then (One f ◁ One h) Q) made_of ts d → Two (passes f) (passes h) (ts ++ rest)
  two_begin ts d rest s =
      let k = s.1 in
      let j = k.3.1 in
      let front : k.0 ≡ j.3.0 ∷ j.4.0 ∷ [] = j.2 ∙ ap (λ z. z ++ j.1) j.3.1 ∙ ap (λ z. j.3.0 ∷ z) j.4.1 in
      ap (λ z. begin (passes f) (passes h) (z ++ rest)) (k.2 ∙ ap (λ z. z ++ k.1) front)
      ∙ ap (λ (o : Option A). is_some o && passes h j.4.0) j.3.2
      ∙ ap (λ (o : Option B). is_some o) j.4.2

  module _ (gq : Token → Bool) (s : List Token → Read C) (q : Law Q gq s) where
    too_long : (n m : Token) (rest front : List Token) → rest ≡ front ++ (n ∷ m ∷ rest) → ⊥
    too_long n m rest front e = omega (arith, ap length e, length-append front (n ∷ m ∷ rest))

    pub both_taken : (n m : Token) (rest : List Token) (a : A) (b : B) → f n ≡ Some a → h m ≡ Some b → (read_one f ◂ read_one h) (n ∷ m ∷ rest) ≡ Ok (a, rest)
    both_taken n m rest a b e g =
        ap (λ (o : Option A). (taken o n (m ∷ rest) >>= second (read_one h)) >>= made (λ (v : A × B). v.0)) e
        ∙ ap (λ (o : Option B). (taken o m rest >>= paired a) >>= made (λ (v : A × B). v.0)) g

    behind_fails : (z : Read C) (a : A) (w : List Token) → ((z >>= paired a) >>= made made_of) ≡ Err w → z ≡ Err w
    behind_fails (Ok y) a w e = ok_err (made_of (a, y.0), y.1) w e
    behind_fails (Err v) a w e = ap (λ (x : List Token). let r : Read C = Err x in r) (err_in v w e)
      where
        err_in : (v w : List Token) → (let r : Read D = Err v in r) ≡ Err w → v ≡ w
        err_in v w e = cc

    fails_later : (n m : Token) (rest : List Token) (a : A) (b : B) → f n ≡ Some a → h m ≡ Some b → read_as (read_then (read_one f ◂ read_one h) s) made_of (n ∷ m ∷ rest) ≡ Err (n ∷ m ∷ rest) → ⊥
    fails_later n m rest a b e g bad =
        let here : ((s rest >>= paired a) >>= made made_of) ≡ Err (n ∷ m ∷ rest) =
        sym (ap (λ (z : Read A). (z >>= second s) >>= made made_of) (both_taken n m rest a b e g)) ∙ bad in
        let k = q.stops rest (n ∷ m ∷ rest) (behind_fails (s rest) a (n ∷ m ∷ rest) here) in
        too_long n m rest k.0 k.1

    some_of : {X : Type 0} (o : Option X) → is_some o ≡ true → (x : X) × (o ≡ Some x)
    some_of (Some x) e = (x, refl)
    some_of None e = absurd (let n : ⊥ = cc in n)

    pub two_goes : (n m : Token) (rest : List Token) → passes f n ≡ true → passes h m ≡ true → read_as (read_then (read_one f ◂ read_one h) s) made_of (n ∷ m ∷ rest) ≡ Err (n ∷ m ∷ rest) → ⊥
    two_goes n m rest e g bad =
        let a = some_of (f n) e in
        let b = some_of (h m) g in
        fails_later n m rest a.0 b.0 a.1 b.1 bad

-- ---- words

same_word : (a w v : List ℕ) → str_eq_ignore_ascii_case a w ≡ true → str_eq_ignore_ascii_case a v ≡ str_eq_ignore_ascii_case w v
same_word a w v e = ap (λ (z : List ℕ). bytes_eq z (str_to_ascii_lowercase v)) ((bytes_eq-Decides (str_to_ascii_lowercase a) (str_to_ascii_lowercase w)).0 e)

-- one word isn't another
pub words_apart : (w v : List ℕ) (t : Token) → str_eq_ignore_ascii_case w v ≡ false → is_word w t ≡ true → is_word v t ≡ false
unfolding is_word
words_apart w v (Word text) e h = same_word text w v h ∙ e
words_apart w v t e h = absurd (let n : ⊥ = cc in n)

word_part : (w : List ℕ) (t : Token) → is_word w t ≡ true → passes part t ≡ true
unfolding is_word
word_part w (Word text) h = refl
word_part w t h = absurd (let n : ⊥ = cc in n)

pub known_is : {A : Type 0} (b : Bool) (a : A) → is_some (known b a) ≡ true → b ≡ true
known_is true a e = refl
known_is false a e = absurd (let n : ⊥ = cc in n)

known_not : {A : Type 0} (b : Bool) (a : A) → b ≡ false → is_some (known b a) ≡ false
known_not b a e = ap (λ (c : Bool). is_some (known c a)) e

pub key_part : (w : List ℕ) (t : Token) → passes (key w) t ≡ true → passes part t ≡ true
key_part w t h = word_part w t (known_is (is_word w t) tt h)

function_part : (t : Token) → passes function t ≡ true → passes part t ≡ true
unfolding is_word
function_part (Word text) h = refl
function_part t h = absurd (let n : ⊥ = cc in n)

not_function : (a b c d : Bool) → a ≡ false → b ≡ false → c ≡ false → d ≡ false
    → is_some (let m : Option (List AName → SetText) = if a then Some Children else (if b then Some Members else (if c then Some Descendants else known d Leaves)) in m) ≡ false
not_function a b c d ea eb ec ed = rw (ea, eb, ec, ed) refl

-- a word that no function has
pub key_function : (w : List ℕ) → str_eq_ignore_ascii_case w (codes "children") ≡ false → str_eq_ignore_ascii_case w (codes "members") ≡ false → str_eq_ignore_ascii_case w (codes "descendants") ≡ false → str_eq_ignore_ascii_case w (codes "leaves") ≡ false
    → (t : Token) → passes (key w) t ≡ true → passes function t ≡ false
key_function w a b c d t h =
    let is = known_is (is_word w t) tt h in
    not_function (is_word (codes "children") t) (is_word (codes "members") t) (is_word (codes "descendants") t) (is_word (codes "leaves") t)
    (words_apart w (codes "children") t a is) (words_apart w (codes "members") t b is) (words_apart w (codes "descendants") t c is) (words_apart w (codes "leaves") t d is)

some_is : {A : Type 0} (b : Bool) (a : A) → b ≡ true → is_some (known b a) ≡ true
some_is b a e = ap (λ (c : Bool). is_some (known c a)) e

true_or_false : (b : Bool) → (b ≡ true) ⊎ (b ≡ false)
true_or_false true = inl refl
true_or_false false = inr refl

-- a function's word isn't this one
pub function_key : (w : List ℕ) → ((t : Token) → passes (key w) t ≡ true → passes function t ≡ false) → (t : Token) → passes function t ≡ true → passes (key w) t ≡ false
function_key w apart t h = ⊎_elim
    (λ (k : passes (key w) t ≡ true). absurd (let e : true ≡ false = sym h ∙ apart t k in let n : ⊥ = cc in n))
    (λ (k : passes (key w) t ≡ false). k)
    (true_or_false (passes (key w) t))

pub part_open : (t : Token) → passes part t ≡ true → passes open_mark t ≡ false
part_open (Word text) e = refl
part_open (Name text) e = refl
part_open t e = absurd (let n : ⊥ = cc in n)

pub part_open_set : (t : Token) → passes part t ≡ true → passes open_set t ≡ false
part_open_set (Word text) e = refl
part_open_set (Name text) e = refl
part_open_set t e = absurd (let n : ⊥ = cc in n)

pub part_dot : (t : Token) → passes part t ≡ true → passes dot t ≡ false
part_dot (Word text) e = refl
part_dot (Name text) e = refl
part_dot t e = absurd (let n : ⊥ = cc in n)

open_open_set : (t : Token) → passes open_mark t ≡ true → passes open_set t ≡ false
open_open_set (Mark Open) e = refl
open_open_set t e = absurd (let n : ⊥ = cc in n)

dot_open : (t : Token) → passes dot t ≡ true → passes open_mark t ≡ false
dot_open (Mark Dot) e = refl
dot_open t e = absurd (let n : ⊥ = cc in n)

open_dot : (t : Token) → passes open_mark t ≡ true → passes dot t ≡ false
open_dot (Mark Open) e = refl
open_dot t e = absurd (let n : ⊥ = cc in n)

pub open_key : (w : List ℕ) (t : Token) → passes open_mark t ≡ true → passes (key w) t ≡ false
unfolding is_word
open_key w (Mark Open) e = refl
open_key w t e = absurd (let n : ⊥ = cc in n)

-- ---- sets that hold no other

abbrev pub set_goes : Token → Bool
set_goes = either (passes open_mark) (passes dot)

tail_follow : (h : Token → Bool) → ((t : Token) → passes dot t ≡ true → h t ≡ false) → (n : ℕ) (ys : List Token) (v : Rest) (rest : List Token) → Tail n ys v → Halts h rest → Halts h (ys ++ rest)
tail_follow h apart zero ys v rest k halts = ap (λ z. begins h (z ++ rest)) k.0 ∙ halts
tail_follow h apart (suc n) ys v rest k halts = ⊎_elim
    (λ (j : (One dot ▷ Step n) ys v). fails (passes dot) h apart (ys ++ rest) (behind_heads dot (Step n) ys v rest j))
    (λ (j : Empty plain ys v). ap (λ z. begins h (z ++ rest)) j.0 ∙ halts)
    k

dotted_apart : (f h : Token → Bool) → ((t : Token) → passes dot t ≡ true → h t ≡ false) → (ts : List Token) (a : SetText) (rest : List Token) → Dotted ts a → Halts h rest → NotTwo f h (ts ++ rest)
dotted_apart f h apart ts a rest s halts =
    let k = s.1 in
    ap (λ z. begin f h (z ++ rest)) (k.2 ∙ ap (λ z. z ++ k.1) k.3.1)
    ∙ no_second f h k.3.0 (k.1 ++ rest) (tail_follow h apart k.4.0 k.1 s.0.1 rest k.4.1 halts)

tuple_heads : (ts : List Token) (a : SetText) (rest : List Token) → Makes Paths Tuple ts a → begins (passes open_mark) (ts ++ rest) ≡ true
tuple_heads ts a rest h = behind_heads open_mark (Listed Path ◁ One close_mark) ts h.0 rest h.1

call_heads : (ts : List Token) (a : SetText) (rest : List Token) → Call ts a → begins (passes function) (ts ++ rest) ≡ true
call_heads ts a rest h =
    let k = h.1 in
    let j = k.3.1 in
    ap (λ z. begins (passes function) (z ++ rest)) (k.2 ∙ ap (λ z. z ++ k.1) (j.2 ∙ ap (λ z. z ++ j.1) j.3.1)) ∙ ap is_some j.3.2

dotted_heads : (ts : List Token) (a : SetText) (rest : List Token) → Dotted ts a → begins (passes part) (ts ++ rest) ≡ true
dotted_heads ts a rest h = one_heads part Tails ts h.0 rest h.1

-- one part alone, where no dot follows
part_alone : (n m : Token) (rest : List Token) → passes part n ≡ true → passes dot m ≡ false → (b : SetText) × (read_dotted (n ∷ m ∷ rest) ≡ Ok (b, m ∷ rest))
unfolding read_dotted read_tail
part_alone (Word text) m rest e ends =
    (Member (text ∷ []), ap (λ (z : Read Rest). (z >>= paired text) >>= made ended) (if_false (passes dot m) ((read_one dot ▸ read_step (read_tail (length rest))) (m ∷ rest)) (Ok (plain, m ∷ rest)) ends))
part_alone (Name text) m rest e ends =
    (Member (text ∷ []), ap (λ (z : Read Rest). (z >>= paired text) >>= made ended) (if_false (passes dot m) ((read_one dot ▸ read_step (read_tail (length rest))) (m ∷ rest)) (Ok (plain, m ∷ rest)) ends))
part_alone t m rest e ends = absurd (let n : ⊥ = cc in n)

dotted_full : (a : SetText) → Dotted [] a → ⊥
dotted_full a h = let e : false ≡ true = dotted_heads [] a [] h in let n : ⊥ = cc in n

call_goes : (n m : Token) (rest : List Token) → passes function n ≡ true → passes open_mark m ≡ true → read_call (n ∷ m ∷ rest) ≡ Err (n ∷ m ∷ rest) → ⊥
unfolding read_call
call_goes = two_goes function open_mark (Path ◁ One close_mark) applied Never (read_path ◂ read_one close_mark) (closed_law Path path_goes read_path path_law close_mark close_token close_path)

pub leaf_law : Law Leaf set_goes read_leaf
unfolding read_leaf
leaf_law = or_law (Makes Paths Tuple) (Or Call Dotted) set_goes (passes open_mark) (read_as read_paths Tuple) (read_if_two (passes function) (passes open_mark) read_call read_dotted)
    (loosen (Makes Paths Tuple) Never set_goes (read_as read_paths Tuple) (λ ts h. never_halts ts) (as_law Paths Never read_paths Tuple paths_law))
    (or_two_law Call Dotted set_goes (passes function) (passes open_mark) read_call read_dotted
    (loosen Call Never set_goes read_call (λ ts h. never_halts ts) call_law)
    (loosen Dotted (passes dot) set_goes read_dotted (λ ts h. halts_second (passes open_mark) (passes dot) ts h) dotted_law)
    (two_begin function open_mark (Path ◁ One close_mark) applied)
    (λ ts a rest h halts. dotted_apart (passes function) (passes open_mark) dot_open ts a rest h (halts_first (passes open_mark) (passes dot) rest halts))
    dotted_full
    (λ n m rest e g. part_alone n m rest (function_part n e) (open_dot m g))
    call_goes)
    tuple_heads
    (λ ts a rest h halts. ⊎_elim
    (λ (k : Call ts a). fails (passes function) (passes open_mark) (λ t e. part_open t (function_part t e)) (ts ++ rest) (call_heads ts a rest k))
    (λ (k : Dotted ts a). fails (passes part) (passes open_mark) part_open (ts ++ rest) (dotted_heads ts a rest k))
    h)

pub leaf_apart : (f h : Token → Bool) → ((t : Token) → passes open_mark t ≡ true → f t ≡ false) → ((t : Token) → passes function t ≡ true → f t ≡ false) → ((t : Token) → passes dot t ≡ true → h t ≡ false)
    → (ts : List Token) (a : SetText) (rest : List Token) → Leaf ts a → Halts h rest → NotTwo f h (ts ++ rest)
leaf_apart f h opens calls dots ts a rest s halts = ⊎_elim
    (λ (k : Makes Paths Tuple ts a). no_first f h (ts ++ rest) (fails (passes open_mark) f opens (ts ++ rest) (tuple_heads ts a rest k)))
    (λ (k : Or Call Dotted ts a). ⊎_elim
    (λ (j : Call ts a). no_first f h (ts ++ rest) (fails (passes function) f calls (ts ++ rest) (call_heads ts a rest j)))
    (λ (j : Dotted ts a). dotted_apart f h dots ts a rest j halts)
    k)
    s

-- no leaf begins with a brace
leaf_brace : (ts : List Token) (a : SetText) (rest : List Token) → Leaf ts a → Halts (passes open_set) (ts ++ rest)
leaf_brace ts a rest s = ⊎_elim
    (λ (k : Makes Paths Tuple ts a). fails (passes open_mark) (passes open_set) open_open_set (ts ++ rest) (tuple_heads ts a rest k))
    (λ (k : Or Call Dotted ts a). ⊎_elim
    (λ (j : Call ts a). fails (passes function) (passes open_set) (λ t e. part_open_set t (function_part t e)) (ts ++ rest) (call_heads ts a rest j))
    (λ (j : Dotted ts a). fails (passes part) (passes open_set) part_open_set (ts ++ rest) (dotted_heads ts a rest j))
    k)
    s

pub leaf_full : (a : SetText) → Leaf [] a → ⊥
leaf_full a s = ⊎_elim
    (λ (k : Makes Paths Tuple [] a). let e : false ≡ true = tuple_heads [] a [] k in let n : ⊥ = cc in n)
    (λ (k : Or Call Dotted [] a). ⊎_elim
    (λ (j : Call [] a). let e : false ≡ true = call_heads [] a [] j in let n : ⊥ = cc in n)
    (λ (j : Dotted [] a). dotted_full a j)
    k)
    s

-- a word that no function has, alone
pub word_alone : (n m : Token) (rest : List Token) → passes part n ≡ true → passes function n ≡ false → passes dot m ≡ false → (b : SetText) × (read_leaf (n ∷ m ∷ rest) ≡ Ok (b, m ∷ rest))
unfolding read_leaf
word_alone n m rest e other dots =
    let x = part_alone n m rest e dots in (
      x.0,
      if_false (passes open_mark n) (read_as read_paths Tuple (n ∷ m ∷ rest)) (read_if_two (passes function) (passes open_mark) read_call read_dotted (n ∷ m ∷ rest)) (part_open n e)
          ∙ if_false (begin (passes function) (passes open_mark) (n ∷ m ∷ rest)) (read_call (n ∷ m ∷ rest)) (read_dotted (n ∷ m ∷ rest)) (no_first (passes function) (passes open_mark) (n ∷ m ∷ rest) other)
          ∙ x.1,
    )

some_leaf : (ts : List Token) × (a : SetText) × Leaf ts a
some_leaf = (Word [] ∷ [], Member ([] ∷ []), inr (inr (([], plain), (Word [] ∷ [], [], refl, (Word [], refl, refl), (zero, (refl, refl))), refl)))

-- ---- sets of every depth

cross_function : (t : Token) → passes (key (codes "crossjoin")) t ≡ true → passes function t ≡ false
cross_function = key_function (codes "crossjoin") refl refl refl refl

pub comma_set : (t : Token) → passes comma t ≡ true → set_goes t ≡ false
comma_set (Mark Comma) e = refl
comma_set t e = absurd (let n : ⊥ = cc in n)

close_set_goes : (t : Token) → passes close_mark t ≡ true → set_goes t ≡ false
close_set_goes (Mark Close) e = refl
close_set_goes t e = absurd (let n : ⊥ = cc in n)

close_brace : (t : Token) → passes close_set t ≡ true → either (passes comma) set_goes t ≡ false
close_brace (Mark CloseSet) e = refl
close_brace t e = absurd (let n : ⊥ = cc in n)

abbrev cross_word : Token → Option (Unit {0})
cross_word = key (codes "crossjoin")

module _ (S : Lang SetText) (r : List Token → Read SetText) (law : Law S set_goes r) (some : (ts : List Token) × (a : SetText) × S ts a) where
  braces_law : Law (InBraces S) Never (read_braces r)
  braces_law = as_law (One open_set ▷ Listed S ◁ One close_set) Never (read_one open_set ▸ (read_listed r ◂ read_one close_set)) Braced
      (right_never (One open_set) (Listed S ◁ One close_set) Never (read_one open_set) (read_listed r ◂ read_one close_set) (one_law open_set open_set_token)
      (closed_law (Listed S) (either (passes comma) set_goes) (read_listed r) (listed_law S set_goes r law comma_set some) close_set close_set_token close_brace)
      (some_closed (Listed S) close_set (some_listed S set_goes r law comma_set some) close_set_token))

  abbrev Sides : Lang (SetText × SetText)
  Sides = Then (S ◁ One comma) S

  abbrev read_sides : List Token → Read (SetText × SetText)
  read_sides = read_then (r ◂ read_one comma) r

  sides_law : Law (Sides ◁ One close_mark) Never (read_sides ◂ read_one close_mark)
  sides_law = closed_law Sides set_goes read_sides
      (then_never (S ◁ One comma) S set_goes (r ◂ read_one comma) r (closed_law S set_goes r law comma comma_token comma_set) law some)
      close_mark close_token close_set_goes

  some_sides : (ts : List Token) × (v : SetText × SetText) × (Sides ◁ One close_mark) ts v
  some_sides = let first = some_closed S comma some comma_token in
      some_closed Sides close_mark (first.0 ++ some.0, (first.1, some.1), (first.0, some.0, refl, first.2, some.2)) close_token

  crossing_law : Law (Crossing S) Never (read_crossing r)
  crossing_law = as_law (Then (Key (codes "crossjoin") ◁ One open_mark) (Sides ◁ One close_mark)) Never (read_then (read_key (codes "crossjoin") ◂ read_one open_mark) (read_sides ◂ read_one close_mark)) crossed
      (then_never (Key (codes "crossjoin") ◁ One open_mark) (Sides ◁ One close_mark) Never (read_key (codes "crossjoin") ◂ read_one open_mark) (read_sides ◂ read_one close_mark)
      (left_never (Key (codes "crossjoin")) (One open_mark) Never (read_key (codes "crossjoin")) (read_one open_mark) (one_law cross_word cross_token) (one_law open_mark open_token) (some_one open_mark open_token))
      sides_law some_sides)

  pub braces_heads : (ts : List Token) (a : SetText) (rest : List Token) → InBraces S ts a → begins (passes open_set) (ts ++ rest) ≡ true
  braces_heads ts a rest h = behind_heads open_set (Listed S ◁ One close_set) ts h.0 rest h.1

  pub crossing_heads : (ts : List Token) (a : SetText) (rest : List Token) → Crossing S ts a → begins (passes cross_word) (ts ++ rest) ≡ true
  crossing_heads ts a rest h =
      let k = h.1 in
      let j = k.3.1 in
      ap (λ z. begins (passes cross_word) (z ++ rest)) (k.2 ∙ ap (λ z. z ++ k.1) (j.2 ∙ ap (λ z. z ++ j.1) j.3.1)) ∙ ap is_some j.3.2

  inner_law : Law (Or (Crossing S) Leaf) set_goes (read_if_two (passes cross_word) (passes open_mark) (read_crossing r) read_leaf)
  inner_law = or_two_law (Crossing S) Leaf set_goes (passes cross_word) (passes open_mark) (read_crossing r) read_leaf
      (loosen (Crossing S) Never set_goes (read_crossing r) (λ ts h. never_halts ts) crossing_law)
      leaf_law
      (two_begin cross_word open_mark (Sides ◁ One close_mark) crossed)
      (λ ts a rest h halts. leaf_apart (passes cross_word) (passes open_mark) (open_key (codes "crossjoin")) (function_key (codes "crossjoin") cross_function) dot_open ts a rest h (halts_first (passes open_mark) (passes dot) rest halts))
      leaf_full
      (λ n m rest e g. word_alone n m rest (key_part (codes "crossjoin") n e) (cross_function n e) (open_dot m g))
      (two_goes cross_word open_mark (Sides ◁ One close_mark) crossed Never (read_sides ◂ read_one close_mark) sides_law)

  pub next_law : Law (Or (InBraces S) (Or (Crossing S) Leaf)) set_goes (read_if (passes open_set) (read_braces r) (read_if_two (passes cross_word) (passes open_mark) (read_crossing r) read_leaf))
  next_law = or_law (InBraces S) (Or (Crossing S) Leaf) set_goes (passes open_set) (read_braces r) (read_if_two (passes cross_word) (passes open_mark) (read_crossing r) read_leaf)
      (loosen (InBraces S) Never set_goes (read_braces r) (λ ts h. never_halts ts) braces_law)
      inner_law braces_heads
      (λ ts a rest h halts. ⊎_elim
      (λ (k : Crossing S ts a). fails (passes cross_word) (passes open_set) (λ t e. part_open_set t (key_part (codes "crossjoin") t e)) (ts ++ rest) (crossing_heads ts a rest k))
      (λ (k : Leaf ts a). leaf_brace ts a rest k)
      h)

pub some_set : (n : ℕ) → (ts : List Token) × (a : SetText) × Set n ts a
some_set zero = some_leaf
some_set (suc n) = (some_leaf.0, some_leaf.1, inr (inr some_leaf.2))

pub nested_law : (n : ℕ) → Law (Set n) set_goes (read_nested n)
unfolding read_nested
nested_law zero = leaf_law
nested_law (suc n) = next_law (Set n) (read_nested n) (nested_law n) (some_set n)

pub set_law : Law SetTokens set_goes (read_nested 32)
unfolding SetTokens
set_law = nested_law 32
