-- The stored values with one cell more.
use Rattle.std.proofs.Common.{◌≡◌, ◌∙◌, ℕ, zero, suc, ◌<◌, ◌≤◌, ◌+◌, ◌^◌, Bool, true, false, ◌&&◌, List, [], ◌∷◌, ◌++◌, length, take, get_or, set, map, Option, Some, None, refl, sym, ap, subst, arith, cond, add-one}
use Rattle.std.specs.Prelude.{ℤ, slice_get, slice_index_or, unwrap_or, unsigned_abs, ◌+ℤ◌}
use Rattle.std.specs.Option.{option_map}
use Rattle.std.specs.List.{All, AllZip, list_all, filter, fold}
use Rattle.std.proofs.lemmas.Int.{ints}
use Rattle.std.proofs.lemmas.List.{map-append, set-get_or, take_all}
use Rattle.std.proofs.lemmas.List.Elements.{All-cons, filter-append}
use Rattle.std.proofs.lemmas.List.Sums.{fold-append}
use Rattle.aso_num.specs.declared.value.Val.{Val}
use Rattle.aso_num.specs.declared.value.Val.TheVariants.{Missing, Num}
use Rattle.aso_num.specs.Numbers.{sum_of}
use Rattle.aso_num.specs.Amount.{IsAmount}
use Rattle.aso_outline.specs.declared.draft.Draft.{Draft}
use Rattle.aso_outline.specs.declared.draft.Tuple.{Tuple}
use Rattle.aso_outline.specs.Members.{seats}
use Rattle.std.proofs.lemmas.Slice.Zip.{AllZip-long}
use Rattle.aso_spec.specs.Cells.{Cells, Key, total}
use Rattle.aso_sums.specs.declared.sums.Sums.{Sums}
use Rattle.aso_sums.specs.Stored.{covers, stored_value}
use Rattle.aso_sums.specs.Summing.{AreSums, HasSums, IsRow, IsWithin, pass_at, passes, row_passes, value_with, values_with}

-- ---- the marks

mark_at : (f : ℕ → Bool) (xs : List ℕ) (k : ℕ) → slice_index_or (map f xs) k false ≡ unwrap_or (option_map f (slice_get xs k)) false
mark_at f [] k = refl
mark_at f (x ∷ xs) zero = refl
mark_at f (x ∷ xs) (suc k) = mark_at f xs k

marks_all : (o : Draft) (key : Key) (asked places : List ℕ) → list_all (λ k. slice_index_or (map (passes o key) asked) k false) places ≡ list_all (pass_at o key asked) places
marks_all o key asked [] = refl
marks_all o key asked (k ∷ ks) =
    ap (λ (b : Bool). b && list_all (λ k. slice_index_or (map (passes o key) asked) k false) ks) (mark_at (passes o key) asked k)
    ∙ ap (λ (b : Bool). pass_at o key asked k && b) (marks_all o key asked ks)

row_covers : (o : Draft) (key : Key) (asked : List ℕ) (r : Option (List ℕ)) (t : Tuple) → IsRow o asked r t → row_passes (map (passes o key) asked) r ≡ covers o t key
row_covers o key asked None t h = sym (h key)
row_covers o key asked (Some places) t h = marks_all o key asked places ∙ sym (h.1 key)

-- ---- one cell more

kept_cell : (test : Key → Bool) (key : Key) (z : ℤ) (v : Val) (b : Bool) → test key ≡ b → fold sum_of v (map (λ (c : Key × ℤ). Num c.1) (filter (λ (c : Key × ℤ). test c.0) ((key, z) ∷ []))) ≡ value_with b v z
kept_cell test key z v true h = ap (λ (b : Bool). fold sum_of v (map (λ (c : Key × ℤ). Num c.1) (cond b ((key, z) ∷ []) []))) h
kept_cell test key z v false h = ap (λ (b : Bool). fold sum_of v (map (λ (c : Key × ℤ). Num c.1) (cond b ((key, z) ∷ []) []))) h

total_more : (test : Key → Bool) (cells : Cells) (key : Key) (z : ℤ) → total test (cells ++ (key, z) ∷ []) ≡ value_with (test key) (total test cells) z
total_more test cells key z =
    let g = λ (c : Key × ℤ). Num c.1 in
    let p = λ (c : Key × ℤ). test c.0 in
    ap (λ (cs : List (Key × ℤ)). fold sum_of Missing (map g cs)) (filter-append p cells ((key, z) ∷ []))
    ∙ ap (fold sum_of Missing) (map-append g (filter p cells) (filter p ((key, z) ∷ [])))
    ∙ fold-append sum_of Missing (map g (filter p cells)) (map g (filter p ((key, z) ∷ [])))
    ∙ kept_cell test key z (total test cells) (test key) refl

stored_more : (o : Draft) (cells : Cells) (key : Key) (z : ℤ) (t : Tuple) → stored_value o (cells ++ (key, z) ∷ []) t ≡ value_with (covers o t key) (stored_value o cells t) z
unfolding stored_value
stored_more o cells key z t = total_more (covers o t) cells key z

values_more : (o : Draft) (cells : Cells) (key : Key) (z : ℤ) (asked : List ℕ) (rows : List (Option (List ℕ))) (ts : List Tuple) → AllZip (IsRow o asked) rows ts
    → values_with (map (passes o key) asked) z rows (map (stored_value o cells) ts) ≡ map (stored_value o (cells ++ (key, z) ∷ [])) ts
values_more o cells key z asked [] [] h = refl
values_more o cells key z asked [] (t ∷ ts) h = absurd h
values_more o cells key z asked (r ∷ rs) [] h = absurd h
values_more o cells key z asked (r ∷ rs) (t ∷ ts) h =
    ap (λ (b : Bool). value_with b (stored_value o cells t) z ∷ values_with (map (passes o key) asked) z rs (map (stored_value o cells) ts)) (row_covers o key asked r t h.0)
    ∙ ap (λ (v : Val). v ∷ values_with (map (passes o key) asked) z rs (map (stored_value o cells) ts)) (sym (stored_more o cells key z t))
    ∙ ap (λ (vs : List Val). stored_value o (cells ++ (key, z) ∷ []) t ∷ vs) (values_more o cells key z asked rs ts h.1)

pub has_more : (o : Draft) (tuples : List Tuple) (cells : Cells) (key : Key) (z : ℤ) (marks : List Bool) (old new : Sums) → marks ≡ map (passes o key) old.asked.items → new.asked.items ≡ old.asked.items → new.rows.items ≡ old.rows.items → new.values.items ≡ values_with marks z old.rows.items old.values.items → AreSums o new → HasSums o tuples cells old → HasSums o tuples (cells ++ (key, z) ∷ []) new
has_more o tuples cells key z marks old new em ea er ev are h = record {
  are = are;
  rows = subst (λ (xs : List ℕ). AllZip (IsRow o xs) new.rows.items tuples) (sym ea) (subst (λ (rs : List (Option (List ℕ))). AllZip (IsRow o old.asked.items) rs tuples) (sym er) h.rows);
  values =
      ev ∙ ap (λ (m : List Bool). values_with m z old.rows.items old.values.items) em ∙ ap (values_with (map (passes o key) old.asked.items) z old.rows.items) h.values
      ∙ values_more o cells key z old.asked.items old.rows.items tuples h.rows;
}

-- ---- no cells

none_stored : (o : Draft) (t : Tuple) → stored_value o [] t ≡ Missing
unfolding stored_value
none_stored o t = refl

abbrev pub AreMissing : List Val → Type 0
AreMissing vs = (i : ℕ) (v : Val) → slice_get vs i ≡ Some v → v ≡ Missing

all_missing : (vs : List Val) (o : Draft) (ts : List Tuple) → length vs ≡ length ts → AreMissing vs → vs ≡ map (stored_value o []) ts
all_missing [] o [] e h = refl
all_missing [] o (t ∷ ts) e h = absurd (omega arith)
all_missing (v ∷ vs) o [] e h = absurd (omega arith)
all_missing (v ∷ vs) o (t ∷ ts) e h =
    ap (λ (w : Val). w ∷ vs) (h 0 v refl ∙ sym (none_stored o t))
    ∙ ap (λ (ws : List Val). stored_value o [] t ∷ ws) (all_missing vs o ts (omega arith) (λ i w g. h (suc i) w g))

-- ---- row by row

pub with_length : (marks : List Bool) (z : ℤ) (rows : List (Option (List ℕ))) (vs : List Val) → length (values_with marks z rows vs) ≡ length vs
with_length marks z [] vs = refl
with_length marks z (r ∷ rs) [] = refl
with_length marks z (r ∷ rs) (v ∷ vs) = ap suc (with_length marks z rs vs)

with_next : (marks : List Bool) (z : ℤ) (rows : List (Option (List ℕ))) (vs : List Val) (i : ℕ) (d : Option (List ℕ)) (e : Val) → i < length rows → i < length vs
    → values_with marks z (take (suc i) rows) vs ≡ set (values_with marks z (take i rows) vs) i (value_with (row_passes marks (get_or rows i d)) (get_or (values_with marks z (take i rows) vs) i e) z)
with_next marks z [] vs i d e lr lv = absurd (omega arith)
with_next marks z (r ∷ rs) [] i d e lr lv = absurd (omega arith)
with_next marks z (r ∷ rs) (v ∷ vs) zero d e lr lv = refl
with_next marks z (r ∷ rs) (v ∷ vs) (suc i) d e lr lv = ap (λ (xs : List Val). value_with (row_passes marks r) v z ∷ xs) (with_next marks z rs vs i d e (omega arith) (omega arith))

pub next_passes : (marks : List Bool) (z : ℤ) (rows : List (Option (List ℕ))) (vs old new : List Val) (i : ℕ) (d : Option (List ℕ)) (e w : Val) → i < length rows → i < length vs → row_passes marks (get_or rows i d) ≡ true → old ≡ values_with marks z (take i rows) vs → w ≡ sum_of (get_or old i e) (Num z) → new ≡ set old i w → new ≡ values_with marks z (take (i + 1) rows) vs
next_passes marks z rows vs old new i d e w lr lv passes eo ew en =
    en ∙ ap (set old i) ew ∙ ap (λ (xs : List Val). set xs i (sum_of (get_or xs i e) (Num z))) eo
    ∙ sym (ap (λ (j : ℕ). values_with marks z (take j rows) vs) (add-one i) ∙ with_next marks z rows vs i d e lr lv ∙ ap (λ (b : Bool). set (values_with marks z (take i rows) vs) i (value_with b (get_or (values_with marks z (take i rows) vs) i e) z)) passes)

pub next_stays : (marks : List Bool) (z : ℤ) (rows : List (Option (List ℕ))) (vs old : List Val) (i : ℕ) (d : Option (List ℕ)) (e : Val) → i < length rows → i < length vs → row_passes marks (get_or rows i d) ≡ false → old ≡ values_with marks z (take i rows) vs → old ≡ values_with marks z (take (i + 1) rows) vs
next_stays marks z rows vs old i d e lr lv stays eo =
    eo ∙ sym (ap (λ (j : ℕ). values_with marks z (take j rows) vs) (add-one i) ∙ with_next marks z rows vs i d e lr lv ∙ ap (λ (b : Bool). set (values_with marks z (take i rows) vs) i (value_with b (get_or (values_with marks z (take i rows) vs) i e) z)) stays ∙ set-get_or (values_with marks z (take i rows) vs) i e)

-- ---- bounds

abs_sum : (a b : ℤ) → unsigned_abs (a +ℤ b) ≤ unsigned_abs a + unsigned_abs b
abs_sum a b = omega (arith, ints)

sum_within : (n : ℕ) (v : Val) (z : ℤ) → IsAmount z → IsWithin n v → IsWithin (n + 1) (sum_of v (Num z))
sum_within n Missing z a h = omega (arith, a)
sum_within n (Num x) z a h = omega (arith, a, h, abs_sum x z)

wider : (n : ℕ) (v : Val) → IsWithin n v → IsWithin (n + 1) v
wider n Missing h = h
wider n (Num z) h = omega (arith, h)

value_within : (n : ℕ) (b : Bool) (v : Val) (z : ℤ) → IsAmount z → IsWithin n v → IsWithin (n + 1) (value_with b v z)
value_within n true v z a h = sum_within n v z a h
value_within n false v z a h = wider n v h

all_parts : (P : Val → Type 0) (x : Val) (xs : List Val) → All P (x ∷ xs) → P x × All P xs
all_parts P x xs h = (h 0 x (omega arith), λ i d lt. h (suc i) d (omega arith))

wider_all : (n : ℕ) (vs : List Val) → All (IsWithin n) vs → All (IsWithin (n + 1)) vs
wider_all n vs h i d lt = wider n (get_or vs i d) (h i d lt)

pub with_within : (n : ℕ) (marks : List Bool) (z : ℤ) (rows : List (Option (List ℕ))) (vs : List Val) → IsAmount z → All (IsWithin n) vs → All (IsWithin (n + 1)) (values_with marks z rows vs)
with_within n marks z [] vs a h = wider_all n vs h
with_within n marks z (r ∷ rs) [] a h = wider_all n [] h
with_within n marks z (r ∷ rs) (v ∷ vs) a h =
    let parts = all_parts (IsWithin n) v vs h in
    All-cons (IsWithin (n + 1)) (value_with (row_passes marks r) v z) (values_with marks z rs vs) (value_within n (row_passes marks r) v z a parts.0) (with_within n marks z rs vs a parts.1)

pub narrow : (n m : ℕ) (v : Val) → n ≤ m → IsWithin n v → IsWithin m v
narrow n m Missing le h = h
narrow n m (Num z) le h = omega (arith, le, h)

pub missing_within : (n : ℕ) (vs : List Val) → AreMissing vs → All (IsWithin n) vs
missing_within n [] h i d lt = absurd (omega arith)
missing_within n (v ∷ vs) h zero d lt = subst (λ (w : Val). IsWithin n w) (sym (h 0 v refl)) tt
missing_within n (v ∷ vs) h (suc i) d lt = missing_within n vs (λ j w g. h (suc j) w g) i d (omega arith)

none_missing : AreMissing []
none_missing i v g = absurd (cc)

pub missing_more : (old new : List Val) → new ≡ old ++ Missing ∷ [] → AreMissing old → AreMissing new
missing_more old new e h = subst AreMissing (sym e) (behind old h) where
  behind : (vs : List Val) → AreMissing vs → AreMissing (vs ++ Missing ∷ [])
  behind [] h zero v g = cc
  behind [] h (suc i) v g = absurd (cc)
  behind (w ∷ ws) h zero v g = h 0 v g
  behind (w ∷ ws) h (suc i) v g = behind ws (λ j x k. h (suc j) x k) i v g

pub no_sums : (o : Draft) (ts : List Tuple) (s : Sums) → All (λ m. m < length (seats o)) s.asked.items → AllZip (IsRow o s.asked.items) s.rows.items ts → length s.values.items ≡ length ts → AreMissing s.values.items → HasSums o ts [] s
no_sums o ts s asked rows e missing = record {
  are = record { asked = asked; each = sym (AllZip-long (IsRow o s.asked.items) s.rows.items ts rows) ∙ sym e; within = missing_within s.count s.values.items missing };
  rows = rows;
  values = all_missing s.values.items o ts e missing;
}

pub still_sums : (o : Draft) (marks : List Bool) (z : ℤ) (old new : Sums) → AreSums o old → new.asked.items ≡ old.asked.items → new.rows.items ≡ old.rows.items → new.values.items ≡ values_with marks z old.rows.items old.values.items → All (IsWithin new.count) new.values.items → AreSums o new
still_sums o marks z old new h ea er ev within = record {
  asked = subst (λ (xs : List ℕ). All (λ m. m < length (seats o)) xs) (sym ea) h.asked;
  each = ap (λ (rs : List (Option (List ℕ))). length rs) er ∙ h.each ∙ sym (ap (λ (vs : List Val). length vs) ev ∙ with_length marks z old.rows.items old.values.items);
  within = within;
}

-- a value of those that are so far
pub value_there : (n : ℕ) (marks : List Bool) (z : ℤ) (rows : List (Option (List ℕ))) (vs old : List Val) (i : ℕ) (d v : Val) → IsAmount z → All (IsWithin n) vs → n + 1 < 2 ^ 64 → i < length vs → old ≡ values_with marks z (take i rows) vs → v ≡ get_or old i d → IsWithin (2 ^ 64) v
value_there n marks z rows vs old i d v a h room lt eo ev =
    subst (λ (w : Val). IsWithin (2 ^ 64) w) (sym (ev ∙ ap (λ (xs : List Val). get_or xs i d) eo))
    (narrow (n + 1) (2 ^ 64) (get_or (values_with marks z (take i rows) vs) i d) (omega arith) (with_within n marks z (take i rows) vs a h i d (omega (arith, with_length marks z (take i rows) vs))))

pub all_within : (n : ℕ) (marks : List Bool) (z : ℤ) (rows : List (Option (List ℕ))) (vs new : List Val) → IsAmount z → All (IsWithin n) vs → new ≡ values_with marks z rows vs → All (IsWithin (n + 1)) new
all_within n marks z rows vs new a h e = subst (λ (xs : List Val). All (IsWithin (n + 1)) xs) (sym e) (with_within n marks z rows vs a h)

pub all_rows : (marks : List Bool) (z : ℤ) (rows : List (Option (List ℕ))) (vs new : List Val) (i : ℕ) → length rows ≤ i → new ≡ values_with marks z (take i rows) vs → new ≡ values_with marks z rows vs
all_rows marks z rows vs new i le e = e ∙ ap (λ (rs : List (Option (List ℕ))). values_with marks z rs vs) (take_all i rows le)
