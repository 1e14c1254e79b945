-- One step of each list that is gone through.
use Rattle.std.proofs.Common.{◌≡◌, ◌∙◌, ◌+◌, ◌<◌, ◌≤◌, ◌==◌, ◌||◌, ◌++◌, ◌∷◌, [], if◌then◌else◌, ℕ, zero, suc, Option, Some, None, List, Bool, true, false, add-one, append_assoc, ap, arith, drop, get_or, length, map, min, refl, sym}
use Rattle.std.specs.Prelude.{slice_get, ℤ, Result, Ok, Err}
use Rattle.std.specs.List.{cons_option, filter, filter_map, flat_map}
use Rattle.std.specs.Str.{IsUtf8, is_utf8}
use Rattle.std.proofs.Math.Seq.{drop-cons}
use Rattle.std.proofs.lemmas.Str.{IsUtf8-from_is_utf8, is_utf8-from_IsUtf8}
use Rattle.csv.specs.Records.{field_at}
use Rattle.aso_outline.specs.declared.draft.Draft.{Draft}
use Rattle.aso_rules.specs.declared.rules.Rules.{Rules}
use Rattle.aso_rules.specs.declared.rules.Column.{Column}
use Rattle.aso_load.specs.Fields.{is_ignored, told, told_text, trimmed}
use Rattle.aso_load.specs.Gathering.{Adds, IsSoFar}
use Rattle.aso_load.specs.Records.{fault_of, first_reason, given, is_skipped, least, lesser, outcome, reject_at, rejects_from, shared_leaves, told_all}
use Rattle.aso_load.specs.declared.gathered.Gathered.{Gathered}
use Rattle.aso_load.specs.declared.told.Told.{Told}
use Rattle.aso_load.specs.declared.told.Told.TheVariants.{Nothing, Fault, Leaf, Amount}

-- ---- the spaces at the end of a field

-- where the bytes before the spaces end, with these bytes seen and that much of the rest
abbrev pub end_with : ℕ → ℕ → ℕ → ℕ
end_with end i rest = if rest == 0 then end else i + rest

-- ---- what is left of a list

some_is : {A : Type 0} → (a b : A) → Some a ≡ Some b → a ≡ b
some_is a b e = cc

none_some : {A : Type 0} → (a : A) → None ≡ Some a → ⊥
none_some a e = cc

nil_cons : {X : Type 0} {y : X} {ys : List X} → [] ≡ y ∷ ys → ⊥
nil_cons e = cc

tail_is : {X : Type 0} {x y : X} {xs ys : List X} → (x ∷ xs) ≡ y ∷ ys → xs ≡ ys
tail_is e = cc

field_first : (fs : List (List ℕ)) (i : ℕ) (f : List ℕ) → Some f ≡ field_at fs i → drop i fs ≡ f ∷ drop (suc i) fs
unfolding field_at
field_first [] zero f is = absurd (none_some f (sym is))
field_first [] (suc i) f is = absurd (none_some f (sym is))
field_first (g ∷ fs) zero f is = ap (λ (x : List ℕ). x ∷ fs) (sym (some_is f g is))
field_first (g ∷ fs) (suc i) f is = field_first fs i f is

pub no_field : (fs : List (List ℕ)) (i : ℕ) → None ≡ field_at fs i → drop i fs ≡ []
unfolding field_at
no_field [] zero is = refl
no_field [] (suc i) is = refl
no_field (g ∷ fs) zero is = absurd (none_some g is)
no_field (g ∷ fs) (suc i) is = no_field fs i is

pub told_none : (o : Draft) (cs : List Column) → told_all o cs [] ≡ []
told_none o [] = refl
told_none o (c ∷ cs) = refl

pub told_more : (o : Draft) (cs : List Column) (fs : List (List ℕ)) (i : ℕ) (c : Column) (f : List ℕ) (done whole : List Told)
    → i < length cs → get_or cs i c ≡ c → Some f ≡ field_at fs i → whole ≡ done ++ told_all o (drop i cs) (drop i fs)
    → whole ≡ (done ++ (told o c f ∷ [])) ++ told_all o (drop (i + 1) cs) (drop (i + 1) fs)
told_more o cs fs i c f done whole within is at before =
    let columns : drop i cs ≡ c ∷ drop (suc i) cs = drop-cons cs i c within ∙ ap (λ (x : Column). x ∷ drop (suc i) cs) is in
    rw add-one
    (before
    ∙ (ap (λ (xs : List Column). done ++ told_all o xs (drop i fs)) columns
    ∙ (ap (λ (xs : List (List ℕ)). done ++ told_all o (c ∷ drop (suc i) cs) xs) (field_first fs i f at)
    ∙ sym (append_assoc done (told o c f ∷ []) (told_all o (drop (suc i) cs) (drop (suc i) fs))))))

pub drop_more : {X : Type 0} → (xs : List X) (i : ℕ) (y : X) (ys : List X) → drop i xs ≡ y ∷ ys → drop (i + 1) xs ≡ ys
drop_more {X} xs i y ys is = rw add-one (go xs i is)
  where
    go : (xs : List X) (i : ℕ) → drop i xs ≡ y ∷ ys → drop (suc i) xs ≡ ys
    go [] zero is = absurd (nil_cons is)
    go [] (suc i) is = absurd (nil_cons is)
    go (x ∷ xs) zero is = tail_is is
    go (x ∷ xs) (suc i) is = go xs i is

pub drop_past : {X : Type 0} → (xs : List X) (i n : ℕ) → i ≤ n → drop i xs ≡ [] → drop n xs ≡ []
drop_past [] i zero low is = refl
drop_past [] i (suc n) low is = refl
drop_past (x ∷ xs) zero n low is = absurd (nil_cons (sym is))
drop_past (x ∷ xs) (suc i) zero low is = absurd (omega (arith, low))
drop_past (x ∷ xs) (suc i) (suc n) low is = drop_past xs i n (omega (arith, low)) is

-- ---- fields that are text, and those that aren't

either_way : {X : Type 0} → (b : Bool) (x y : X) → (if b || true then x else y) ≡ x
either_way true x y = refl
either_way false x y = refl

pub is_text : (o : Draft) (c : Column) (field : List ℕ) → IsUtf8 (trimmed field) → told o c field ≡ told_text o c (trimmed field)
is_text o c field utf8 =
    ap (λ (b : Bool). if is_ignored c || b then told_text o c (trimmed field) else Fault 2) (is_utf8-from_IsUtf8 (trimmed field) utf8)
    ∙ either_way (is_ignored c) (told_text o c (trimmed field)) (Fault 2)

pub no_text : (o : Draft) (c : Column) (field : List ℕ) → is_ignored c ≡ false → ¬ IsUtf8 (trimmed field) → told o c field ≡ Fault 2
no_text o c field seen none =
    ap (λ (b : Bool). if b || is_utf8 (trimmed field) then told_text o c (trimmed field) else Fault 2) seen
    ∙ ap (λ (b : Bool). if b then told_text o c (trimmed field) else Fault 2) (isnt (is_utf8 (trimmed field)) refl)
  where
    isnt : (b : Bool) → is_utf8 (trimmed field) ≡ b → is_utf8 (trimmed field) ≡ false
    isnt true is = absurd (none (IsUtf8-from_is_utf8 (trimmed field) is))
    isnt false is = is

-- ---- reasons

lesser_thrice : (a b c : Option ℕ) → lesser (lesser a b) c ≡ lesser a (lesser b c)
lesser_thrice None b c = refl
lesser_thrice (Some a) None c = refl
lesser_thrice (Some a) (Some b) None = refl
lesser_thrice (Some a) (Some b) (Some c) = ap (λ (n : ℕ). Some n) (omega arith)

least_cons : (o : Option ℕ) (ns : List ℕ) → least (cons_option o ns) ≡ lesser o (least ns)
least_cons None ns = refl
least_cons (Some n) ns = refl

pub one_reason : (found : Option ℕ) (t : Told) (ts : List Told) → lesser found (first_reason (t ∷ ts)) ≡ lesser (lesser found (fault_of t)) (first_reason ts)
one_reason found t ts = ap (lesser found) (least_cons (fault_of t) (filter_map fault_of ts)) ∙ sym (lesser_thrice found (fault_of t) (first_reason ts))

pub no_more_reasons : (found : Option ℕ) → lesser found None ≡ found
no_more_reasons None = refl
no_more_reasons (Some a) = refl

-- ---- leaves

pub one_leaf : (leaves : List ℕ) (t : Told) (ts : List Told) → shared_leaves leaves (t ∷ ts) ≡ shared_leaves (shared_leaves leaves (t ∷ [])) ts
one_leaf leaves Nothing ts = refl
one_leaf leaves (Fault reason) ts = refl
one_leaf leaves (Leaf d leaf) ts = refl
one_leaf leaves (Amount units) ts = refl

-- ---- records

option_front : {X : Type 0} → (done : List X) (o : Option X) (rest : List X) → done ++ cons_option o rest ≡ (done ++ cons_option o []) ++ rest
option_front done None rest = grind (arith, append_assoc done [] rest)
option_front done (Some x) rest = sym (append_assoc done (x ∷ []) rest)

skipped_cons : (x : Result (List (List ℕ × ℤ)) ℕ) (xs : List (Result (List (List ℕ × ℤ)) ℕ)) (n m : ℕ)
    → m ≡ n + (if is_skipped x then 1 else 0) → n + length (filter is_skipped (x ∷ xs)) ≡ m + length (filter is_skipped xs)
skipped_cons x xs n m is = counted (is_skipped x) is
  where
    counted : (b : Bool) → m ≡ n + (if b then 1 else 0) → n + length (if b then x ∷ filter is_skipped xs else filter is_skipped xs) ≡ m + length (filter is_skipped xs)
    counted true is = omega (arith, is)
    counted false is = omega (arith, is)

few_more : (b : Bool) (n row : ℕ) → n < row → n + (if b then 1 else 0) < row + 1
few_more true n row few = omega (arith, few)
few_more false n row few = omega (arith, few)

pub one_record_more : (o : Draft) (rules : Rules) (all : List (Result (List (List ℕ × ℤ)) ℕ)) (first row : ℕ) (g h : Gathered) (before after : List (List (List ℕ))) (fields : List (List ℕ))
    → before ≡ fields ∷ after → Adds (outcome o rules fields) row g h → IsSoFar o rules all first row g before → IsSoFar o rules all first (row + 1) h after
one_record_more o rules all first row g h before after fields is adds so_far =
    let x = outcome o rules fields in
    let xs = map (outcome o rules) after in
    record {
      amounts =
          so_far.amounts
          ∙ (ap (λ (l : List (List (List ℕ))). g.amounts.items ++ flat_map given (map (outcome o rules) l)) is
          ∙ (sym (append_assoc g.amounts.items (given x) (flat_map given xs)) ∙ ap (λ (done : List (List ℕ × ℤ)). done ++ flat_map given xs) (sym adds.amounts)));
      rejects =
          so_far.rejects
          ∙ (ap (λ (l : List (List (List ℕ))). g.rejects.items ++ rejects_from row (map (outcome o rules) l)) is
          ∙ (option_front g.rejects.items (reject_at row x) (rejects_from (row + 1) xs) ∙ ap (λ done. done ++ rejects_from (row + 1) xs) (sym adds.rejects)));
      skipped =
          so_far.skipped
          ∙ (ap (λ (l : List (List (List ℕ))). g.skipped + length (filter is_skipped (map (outcome o rules) l))) is
          ∙ skipped_cons x xs g.skipped h.skipped adds.skipped);
      few = rw adds.skipped (few_more (is_skipped x) g.skipped row so_far.few);
    }
