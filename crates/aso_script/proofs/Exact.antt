-- What is read is spelled, and what is spelled is read.
use Rattle.std.proofs.Common.{◌≡◌, ℕ, zero, suc, ◌+◌, ◌-◌, ◌≤◌, Bool, true, false, not, ◌&&◌, ◌||◌, eqb, cond, List, [], ◌∷◌, ◌++◌, length, take, drop, Option, Some, None, refl, sym, ap, subst, ◌∙◌, append_assoc, length-append, arith, codes, ◌⊎◌, inl, inr, ⊎_elim}
use Rattle.std.specs.Prelude.{nat_lt, nat_le, if◌then◌else◌}
use Rattle.std.specs.List.{list_all, prefix_len, flat_map}
use Rattle.std.proofs.lemmas.List.{take_at, drop_at, take-append-drop}
use Rattle.std.proofs.Math.Seq.{drop-append-add}
use Rattle.std.proofs.lemmas.Slice.Eq.{starts_is, ends_is}
use Rattle.std.proofs.lemmas.Bool.Decides.{Decides-eqb, nat_tests}
use Rattle.aso_outline.specs.Members.{Name}
use Rattle.aso_outline.specs.Rules.{is_word_byte, is_word}
use Rattle.aso_script.specs.Script.{Addition, Spells, is_listed, is_list, is_amount, is_database, bracketed, list_text, database_text}
use Rattle.aso_script.specs.Reading.{Read, ◌>>=◌, after, before, front_if, word_len, read_word, until_close, read_closed, read_name, with_db, with_app, read_database, put_before, read_further, followed, read_list, read_amount, addition_to, with_amount, with_names, with_cell, read_behind, read_body, read_line}
use Rattle.aso_script.proofs.ByteLemmas.{both}

-- ---- steps

some_is : {A : Type 0} (a b : A) → Some a ≡ Some b → a ≡ b
some_is a b e = let same : a ≡ b = cc in same

if_some : {A : Type 0} (t : Bool) (x y : A) → (if t then Some x else None) ≡ Some y → (t ≡ true) × (x ≡ y)
if_some true x y e = (refl, some_is x y e)
if_some false x y e = absurd (let n : ⊥ = cc in n)

step : {A B : Type 0} (o : Option A) (f : A → Option B) (b : B) → (o >>= f) ≡ Some b → (a : A) × (o ≡ Some a) × (f a ≡ Some b)
step None f b e = absurd (let n : ⊥ = cc in n)
step (Some a) f b e = (a, refl, e)

-- ---- fixed texts

after_found : (w text rest : List ℕ) → after w text ≡ Some rest → text ≡ w ++ rest
after_found w text rest e =
    let p = if_some _ _ _ e in
    (starts_is Decides-eqb text w _ refl).0 p.0 ∙ ap (λ (r : List ℕ). w ++ r) p.1

after_whole : (w rest : List ℕ) → after w (w ++ rest) ≡ Some rest
after_whole w rest = rw ((starts_is Decides-eqb (w ++ rest) w _ refl).1 rest refl) (ap (λ (r : List ℕ). Some r) (drop_at w rest (length w) refl))

before_found : (w text front : List ℕ) → before w text ≡ Some front → text ≡ front ++ w
before_found w text front e =
    let p = if_some _ _ _ e in
    (ends_is Decides-eqb text w _ refl).0 p.0 ∙ ap (λ (r : List ℕ). r ++ w) p.1

before_whole : (w front : List ℕ) → before w (front ++ w) ≡ Some front
before_whole w front =
    let n : length (front ++ w) - length w ≡ length front = omega (arith, length-append front w) in
    rw ((ends_is Decides-eqb (front ++ w) w _ refl).1 front refl) (ap (λ (r : List ℕ). Some r) (take_at front w _ (sym n)))

-- ---- fronts that end at a byte

prefix_at : (p : ℕ → Bool) (xs ys : List ℕ) → list_all p xs ≡ true → prefix_len p ys ≡ 0 → prefix_len p (xs ++ ys) ≡ length xs
prefix_at p [] ys all none = none
prefix_at p (x ∷ xs) ys all none =
    let h = both (p x) (list_all p xs) all in
    let e = prefix_at p xs ys h.1 none in
    rw h.0 (omega arith)

front_found : (test : List ℕ → Bool) (n m : ℕ) (text : List ℕ) (x : List ℕ × List ℕ) → front_if test n m text ≡ Some x → (test x.0 ≡ true) × (take n text ≡ x.0) × (drop m text ≡ x.1)
front_found test n m text x e =
    let p = if_some _ _ _ e in
    let first : take n text ≡ x.0 = ap (λ (y : List ℕ × List ℕ). y.0) p.1 in
    (subst (λ (y : List ℕ). test y ≡ true) first p.0, first, ap (λ (y : List ℕ × List ℕ). y.1) p.1)

word_found : (text : List ℕ) (x : List ℕ × List ℕ) → read_word text ≡ Some x → (is_word x.0 ≡ true) × (text ≡ x.0 ++ x.1)
word_found text x e =
    let p = front_found is_word _ _ text x e in
    (p.0, sym (take-append-drop (word_len text) text) ∙ ap (λ (y : List ℕ). y ++ drop (word_len text) text) p.1 ∙ ap (λ (y : List ℕ). x.0 ++ y) p.2)

word_whole : (w rest : List ℕ) → is_word w ≡ true → word_len rest ≡ 0 → read_word (w ++ rest) ≡ Some (w, rest)
word_whole w rest h none =
    let n : word_len (w ++ rest) ≡ length w = prefix_at is_word_byte w rest (both _ (list_all is_word_byte w) h).1 none in
    rw (n, take_at w rest (length w) refl, h) (ap (λ (r : List ℕ). Some (w, r)) (drop_at w rest (length w) refl))

-- ---- names

close_step : (b : ℕ) (bs : List ℕ) (c : Bool) → eqb b 93 ≡ c
    → (nat_lt (until_close bs) (length bs) ≡ true → bs ≡ take (until_close bs) bs ++ 93 ∷ drop (until_close bs + 1) bs)
    → nat_lt (cond (not c) (1 + until_close bs) 0) (length (b ∷ bs)) ≡ true
    → b ∷ bs ≡ take (cond (not c) (1 + until_close bs) 0) (b ∷ bs) ++ 93 ∷ drop (cond (not c) (1 + until_close bs) 0 + 1) (b ∷ bs)
close_step b bs true e known h = ap (λ (x : ℕ). x ∷ bs) ((Decides-eqb b 93).0 e)
close_step b bs false e known h =
    let less : nat_lt (until_close bs) (length bs) ≡ true = grind (arith, nat_tests) in
    let k : 1 + until_close bs ≡ suc (until_close bs) = omega arith in
    let m : suc (until_close bs) + 1 ≡ suc (until_close bs + 1) = omega arith in
    rw (k, m) (ap (λ (x : List ℕ). b ∷ x) (known less))

at_close : (text : List ℕ) → nat_lt (until_close text) (length text) ≡ true → text ≡ take (until_close text) text ++ 93 ∷ drop (until_close text + 1) text
at_close [] h = absurd (let n : ⊥ = cc in n)
at_close (b ∷ bs) h = close_step b bs (eqb b 93) refl (at_close bs) h

closed_if : (t : Bool) (test : List ℕ → Bool) (n m : ℕ) (text : List ℕ) (x : List ℕ × List ℕ) → (if t then front_if test n m text else None) ≡ Some x → (t ≡ true) × (front_if test n m text ≡ Some x)
closed_if true test n m text x e = (refl, e)
closed_if false test n m text x e = absurd (let n : ⊥ = cc in n)

closed_found : (text : List ℕ) (x : Name × List ℕ) → read_closed text ≡ Some x → (is_listed x.0 ≡ true) × (text ≡ x.0 ++ 93 ∷ x.1)
closed_found text x e =
    let q = closed_if (nat_lt (until_close text) (length text)) is_listed _ _ text x e in
    let p = front_found is_listed _ _ text x q.1 in
    (p.0, at_close text q.0 ∙ ap (λ (y : List ℕ). y ++ 93 ∷ drop (until_close text + 1) text) p.1 ∙ ap (λ (y : List ℕ). x.0 ++ 93 ∷ y) p.2)

no_close : (m : List ℕ) → list_all (λ b. not (eqb b 91 || eqb b 93)) m ≡ true → list_all (λ b. not (eqb b 93)) m ≡ true
no_close [] h = refl
no_close (b ∷ bs) h =
    let p = both (not (eqb b 91 || eqb b 93)) _ h in
    let q : not (eqb b 93) ≡ true = grind (arith, nat_tests) in
    rw q (no_close bs p.1)

is_less : (n m : ℕ) → nat_lt n (n + suc m) ≡ true
is_less n m = grind (arith, nat_tests)

plain_bytes : (m : Name) → is_listed m ≡ true → list_all (λ b. not (eqb b 91 || eqb b 93)) m ≡ true
plain_bytes m h = (both (nat_lt 0 (length m)) (list_all (λ b. not (eqb b 91 || eqb b 93)) m) (both _ _ h).1).1

closed_whole : (m : Name) (rest : List ℕ) → is_listed m ≡ true → read_closed (m ++ 93 ∷ rest) ≡ Some (m, rest)
closed_whole m rest h =
    let n : until_close (m ++ 93 ∷ rest) ≡ length m = prefix_at (λ b. not (eqb b 93)) m (93 ∷ rest) (no_close m (plain_bytes m h)) refl in
    let l : length (m ++ 93 ∷ rest) ≡ length m + suc (length rest) = length-append m (93 ∷ rest) in
    rw (n, l, is_less (length m) (length rest), take_at m (93 ∷ rest) (length m) refl, h) (ap (λ (r : List ℕ). Some (m, r)) (drop-append-add m (93 ∷ rest) 1))

name_found : (text : List ℕ) (x : Name × List ℕ) → read_name text ≡ Some x → (is_listed x.0 ≡ true) × (text ≡ bracketed x.0 ++ x.1)
name_found text x e =
    let s = step (after (codes "[") text) read_closed x e in
    let p = closed_found s.0 x s.2 in
    (p.0, after_found (codes "[") text s.0 s.1 ∙ ap (λ (y : List ℕ). 91 ∷ y) (p.1 ∙ sym (append_assoc x.0 (93 ∷ []) x.1)))

name_whole : (m : Name) (rest : List ℕ) → is_listed m ≡ true → read_name (bracketed m ++ rest) ≡ Some (m, rest)
name_whole m rest h = rw (append_assoc m (93 ∷ []) rest) (closed_whole m rest h)

-- ---- lists of names

-- the names behind the first one
abbrev pub tail_text : List Name → List ℕ
tail_text names = flat_map (λ name. 44 ∷ bracketed name) names

further_case : (n : ℕ) (text : List ℕ) (x : List Name × List ℕ) (o : Option (List ℕ)) → after (codes ",") text ≡ o → read_further (suc n) text ≡ Some x
    → ((o ≡ None) × (([], text) ≡ x)) ⊎ ((rest : List ℕ) × (o ≡ Some rest) × ((read_name rest >>= λ y. read_further n y.1 >>= put_before y.0) ≡ Some x))
unfolding read_further
further_case n text x None e h = inl (refl, some_is _ _ (rw e at h))
further_case n text x (Some rest) e h = inr (rest, refl, rw e at h)

further_end : (n : ℕ) (text : List ℕ) → after (codes ",") text ≡ None → read_further n text ≡ Some ([], text)
unfolding read_further
further_end zero text e = refl
further_end (suc n) text e = rw e refl

further_step : (n : ℕ) (text rest : List ℕ) → after (codes ",") text ≡ Some rest → read_further (suc n) text ≡ (read_name rest >>= λ y. read_further n y.1 >>= put_before y.0)
unfolding read_further
further_step n text rest e = rw e refl

Further : ℕ → List ℕ → List Name × List ℕ → Type 0
Further n text x = (text ≡ tail_text x.0 ++ x.1) × (list_all is_listed x.0 ≡ true) × (length x.0 ≤ n)

no_names : (n : ℕ) (text : List ℕ) (x : List Name × List ℕ) → ([], text) ≡ x → Further n text x
unfolding Further
no_names n text x e = subst (λ (y : List Name × List ℕ). (text ≡ tail_text y.0 ++ y.1) × (list_all is_listed y.0 ≡ true) × (length y.0 ≤ n)) e (refl, refl, omega arith)

further_more : (n : ℕ) (text rest : List ℕ) (x : List Name × List ℕ) → ((t : List ℕ) (y : List Name × List ℕ) → read_further n t ≡ Some y → Further n t y)
    → after (codes ",") text ≡ Some rest → (read_name rest >>= λ y. read_further n y.1 >>= put_before y.0) ≡ Some x → Further (suc n) text x
unfolding Further
further_more n text rest x known comma h =
    let s = step (read_name rest) (λ y. read_further n y.1 >>= put_before y.0) x h in
    let t = step (read_further n s.0.1) (put_before s.0.0) x s.2 in
    let m = name_found rest s.0 s.1 in
    let ih = known s.0.1 t.0 t.1 in
    subst (λ (y : List Name × List ℕ). (text ≡ tail_text y.0 ++ y.1) × (list_all is_listed y.0 ≡ true) × (length y.0 ≤ suc n)) (some_is _ _ t.2)
    (after_found (codes ",") text rest comma ∙ ap (λ (y : List ℕ). 44 ∷ y) (m.1 ∙ ap (λ (y : List ℕ). bracketed s.0.0 ++ y) ih.0 ∙ sym (append_assoc (bracketed s.0.0) (tail_text t.0.0) t.0.1)), rw m.0 ih.1, omega (arith, ih.2))

further_found : (n : ℕ) (text : List ℕ) (x : List Name × List ℕ) → read_further n text ≡ Some x → Further n text x
unfolding read_further
further_found zero text x e = no_names 0 text x (some_is _ _ e)
further_found (suc n) text x e = ⊎_elim
    (λ (h : (after (codes ",") text ≡ None) × (([], text) ≡ x)). no_names (suc n) text x h.1)
    (λ (h : (rest : List ℕ) × (after (codes ",") text ≡ Some rest) × ((read_name rest >>= λ y. read_further n y.1 >>= put_before y.0) ≡ Some x)). further_more n text h.0 x (further_found n) h.1 h.2)
    (further_case n text x (after (codes ",") text) refl e)

further_whole : (n : ℕ) (names : List Name) (rest : List ℕ) → list_all is_listed names ≡ true → length names ≤ n → after (codes ",") rest ≡ None → read_further n (tail_text names ++ rest) ≡ Some (names, rest)
further_whole n [] rest all few none = further_end n rest none
further_whole zero (m ∷ ms) rest all few none = absurd (omega arith)
further_whole (suc n) (m ∷ ms) rest all few none =
    let h = both (is_listed m) (list_all is_listed ms) all in
    let text : (44 ∷ bracketed m ++ tail_text ms) ++ rest ≡ 44 ∷ (bracketed m ++ (tail_text ms ++ rest)) = ap (λ (y : List ℕ). 44 ∷ y) (append_assoc (bracketed m) (tail_text ms) rest) in
    ap (read_further (suc n)) text
    ∙ further_step n _ (bracketed m ++ (tail_text ms ++ rest)) refl
    ∙ ap (λ (o : Read Name). o >>= λ y. read_further n y.1 >>= put_before y.0) (name_whole m (tail_text ms ++ rest) h.0)
    ∙ ap (λ (o : Read (List Name)). o >>= put_before m) (further_whole n ms rest h.1 (omega arith) none)

list_found : (text : List ℕ) (x : List Name × List ℕ) → read_list text ≡ Some x → (is_list x.0 ≡ true) × (text ≡ list_text x.0 ++ x.1)
unfolding Further
list_found text x e =
    let s = step (read_name text) followed x e in
    let t = step (read_further 63 s.0.1) (put_before s.0.0) x s.2 in
    let m = name_found text s.0 s.1 in
    let f = further_found 63 s.0.1 t.0 t.1 in
    let some : nat_lt 0 (suc (length t.0.0)) ≡ true = grind (arith, nat_tests) in
    let few : nat_le (suc (length t.0.0)) 64 ≡ true = grind (arith, nat_tests, f.2) in
    subst (λ (y : List Name × List ℕ). (is_list y.0 ≡ true) × (text ≡ list_text y.0 ++ y.1)) (some_is _ _ t.2)
    (rw (some, few, m.0) f.1, m.1 ∙ ap (λ (y : List ℕ). bracketed s.0.0 ++ y) f.0 ∙ sym (append_assoc (bracketed s.0.0) (tail_text t.0.0) t.0.1))

list_whole : (names : List Name) (rest : List ℕ) → is_list names ≡ true → after (codes ",") rest ≡ None → read_list (list_text names ++ rest) ≡ Some (names, rest)
list_whole [] rest h none = absurd (let n : ⊥ = cc in n)
list_whole (m ∷ ms) rest h none =
    let counts = both _ (list_all is_listed (m ∷ ms)) h in
    let listed = both (is_listed m) (list_all is_listed ms) counts.1 in
    let most = both (nat_lt 0 (length (m ∷ ms))) (nat_le (length (m ∷ ms)) 64) counts.0 in
    let few : length ms ≤ 63 = grind (arith, nat_tests, most.1) in
    ap read_list (append_assoc (bracketed m) (tail_text ms) rest)
    ∙ ap (λ (o : Read Name). o >>= followed) (name_whole m (tail_text ms ++ rest) listed.0)
    ∙ ap (λ (o : Read (List Name)). o >>= put_before m) (further_whole 63 ms rest listed.1 few none)

-- ---- databases

abbrev Database : Type 0
Database = (List ℕ × List ℕ) × List ℕ

database_found : (text : List ℕ) (x : Database) → read_database text ≡ Some x → (is_database x.0.0 x.0.1 ≡ true) × (text ≡ database_text x.0.0 x.0.1 ++ x.1)
database_found text x e =
    let s = step (read_word text) with_app x e in
    let t = step (after (codes ".") s.0.1 >>= read_word) (with_db s.0.0) x s.2 in
    let u = step (after (codes ".") s.0.1) read_word t.0 t.1 in
    let app = word_found text s.0 s.1 in
    let db = word_found u.0 t.0 u.2 in
    subst (λ (y : Database). (is_database y.0.0 y.0.1 ≡ true) × (text ≡ database_text y.0.0 y.0.1 ++ y.1)) (some_is _ _ t.2)
    (rw app.0 db.0, app.1 ∙ ap (λ (y : List ℕ). s.0.0 ++ y) (after_found (codes ".") s.0.1 u.0 u.1 ∙ ap (λ (y : List ℕ). 46 ∷ y) db.1) ∙ sym (append_assoc s.0.0 (46 ∷ t.0.0) t.0.1))

database_whole : (app db rest : List ℕ) → is_database app db ≡ true → word_len rest ≡ 0 → read_database (database_text app db ++ rest) ≡ Some ((app, db), rest)
database_whole app db rest h none =
    let p = both (is_word app) (is_word db) h in
    ap read_database (append_assoc app (46 ∷ db) rest)
    ∙ ap (λ (o : Read (List ℕ)). o >>= with_app) (word_whole app (46 ∷ (db ++ rest)) p.0 refl)
    ∙ ap (λ (o : Read (List ℕ)). o >>= with_db app) (word_whole db rest p.1 none)

-- ---- additions

abbrev line_of : List ℕ → List ℕ
line_of text = codes "alter database " ++ (text ++ codes ";\n")

one_line : (database list amount : List ℕ) → line_of (database ++ (codes " add cell (" ++ (list ++ (codes ") " ++ amount)))) ≡ (codes "alter database " ++ database ++ codes " add cell (" ++ list ++ codes ") " ++ amount ++ codes ";") ++ 10 ∷ []
one_line database list amount = simp append_assoc

addition_spelled : (text rest : List ℕ) (d : List ℕ × List ℕ) (names : List Name) (amount : List ℕ)
    → text ≡ database_text d.0 d.1 ++ (codes " add cell (" ++ rest) → rest ≡ list_text names ++ (codes ") " ++ amount)
    → is_database d.0 d.1 ≡ true → is_list names ≡ true → is_amount amount ≡ true → Spells (line_of text) (addition_to d names amount)
addition_spelled text rest d names amount e f is_d is_l is_a = record {
  whole = rw (is_d, is_l, is_a) refl;
  spelled = ap line_of (e ∙ ap (λ (y : List ℕ). database_text d.0 d.1 ++ (codes " add cell (" ++ y)) f) ∙ one_line (database_text d.0 d.1) (list_text names) amount;
}

behind_found : (text : List ℕ) (s : Addition) → read_behind text ≡ Some s → Spells (line_of text) s
behind_found text s e =
    let d = step (read_database text) with_cell s e in
    let l = step (after (codes " add cell (") d.0.1 >>= read_list) (with_names d.0.0) s d.2 in
    let k = step (after (codes " add cell (") d.0.1) read_list l.0 l.1 in
    let a = step (after (codes ") ") l.0.1) (with_amount d.0.0 l.0.0) s l.2 in
    let z = step (read_amount a.0) (λ (amount : List ℕ). Some (addition_to d.0.0 l.0.0 amount)) s a.2 in
    let amount = if_some (is_amount a.0) a.0 z.0 z.1 in
    let database = database_found text d.0 d.1 in
    let list = list_found k.0 l.0 k.2 in
    subst (λ (t : Addition). Spells (line_of text) t) (ap (addition_to d.0.0 l.0.0) amount.1 ∙ some_is _ _ z.2)
    (addition_spelled text k.0 d.0.0 l.0.0 a.0 (database.1 ∙ ap (λ (y : List ℕ). database_text d.0.0.0 d.0.0.1 ++ y) (after_found (codes " add cell (") d.0.1 k.0 k.1))
    (list.1 ∙ ap (λ (y : List ℕ). list_text l.0.0 ++ y) (after_found (codes ") ") l.0.1 a.0 a.1)) database.0 list.0 amount.0)

pub line_found : (line : List ℕ) (s : Addition) → read_line line ≡ Some s → Spells line s
line_found line s e =
    let q = step (before (codes ";\n") line) read_body s e in
    let r = step (after (codes "alter database ") q.0) read_behind s q.2 in
    let is_line : line ≡ line_of r.0 = before_found (codes ";\n") line q.0 q.1 ∙ ap (λ (y : List ℕ). y ++ codes ";\n") (after_found (codes "alter database ") q.0 r.0 r.1) in
    subst (λ (y : List ℕ). Spells y s) (sym is_line) (behind_found r.0 s r.2)

behind_whole : (d : List ℕ × List ℕ) (names : List Name) (amount : List ℕ) → is_database d.0 d.1 ≡ true → is_list names ≡ true → is_amount amount ≡ true
    → read_behind (database_text d.0 d.1 ++ (codes " add cell (" ++ (list_text names ++ (codes ") " ++ amount)))) ≡ Some (addition_to d names amount)
behind_whole d names amount is_d is_l is_a =
    ap (λ (o : Read (List ℕ × List ℕ)). o >>= with_cell) (database_whole d.0 d.1 (codes " add cell (" ++ (list_text names ++ (codes ") " ++ amount))) is_d refl)
    ∙ ap (λ (o : Option (List ℕ)). o >>= read_list >>= with_names d) (after_whole (codes " add cell (") (list_text names ++ (codes ") " ++ amount)))
    ∙ ap (λ (o : Read (List Name)). o >>= with_names d) (list_whole names (codes ") " ++ amount) is_l refl)
    ∙ ap (λ (o : Option (List ℕ)). o >>= with_amount d names) (after_whole (codes ") ") amount)
    ∙ rw is_a refl

body_whole : (text : List ℕ) → read_line (line_of text) ≡ read_behind text
body_whole text =
    ap (λ (o : Option (List ℕ)). o >>= read_body) (before_whole (codes ";\n") (codes "alter database " ++ text))
    ∙ ap (λ (o : Option (List ℕ)). o >>= read_behind) (after_whole (codes "alter database ") text)

pub line_whole : (line : List ℕ) (s : Addition) → Spells line s → read_line line ≡ Some s
line_whole line s h =
    let p = both (is_database s.app s.db) (is_list s.names && is_amount s.amount) h.whole in
    let q = both (is_list s.names) (is_amount s.amount) p.1 in
    let text = database_text s.app s.db ++ (codes " add cell (" ++ (list_text s.names ++ (codes ") " ++ s.amount))) in
    ap read_line (h.spelled ∙ sym (one_line (database_text s.app s.db) (list_text s.names) s.amount))
    ∙ body_whole text
    ∙ behind_whole (s.app, s.db) s.names s.amount p.0 q.0 q.1

pub spells_one : (line : List ℕ) (s t : Addition) → Spells line s → Spells line t → s ≡ t
spells_one line s t h k = some_is s t (sym (line_whole line s h) ∙ line_whole line t k)

pub spells_none : (line : List ℕ) → read_line line ≡ None → (s : Addition) → Spells line s → ⊥
spells_none line e s h = let x : None ≡ Some s = sym e ∙ line_whole line s h in let n : ⊥ = cc in n
