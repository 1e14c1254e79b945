-- Objects that are made of fields, of which some are left out.
use Rattle.std.proofs.Common.{◌≡◌, ◌∙◌, ℕ, suc, ◌≤◌, ◌&&◌, ◌||◌, Bool, true, false, List, [], ◌∷◌, Option, Some, None, Ordering, Less, Equal, Greater, nat_cmp, refl, sym, ap, arith, true≢false}
use Rattle.std.specs.Prelude.{⊤, max, Ok}
use Rattle.std.specs.List.{list_all, AllByRecursion}
use Rattle.std.specs.Ordering.{match_ordering}
use Rattle.std.specs.Cmp.Lexicographic.{slice_cmp}
use Rattle.serde_json.specs.Data.{Data, Members, no_members, member, put, depth, members_depth}
use Rattle.serde_json.specs.Find.{get, get_member}
use Rattle.serde_json.specs.Written.{has_float, members_have_float}
use Rattle.aso_outline.specs.Members.{Name}
use Rattle.aso_outjson.specs.Fields.{Found, first_other, no_others}
use Rattle.aso_outjson.specs.Printing.{Field, fields_of, object_of, with_put}

and_left : (a b : Bool) → (a && b) ≡ true → a ≡ true
and_left true b h = refl
and_left false b h = h

and_right : (a b : Bool) → (a && b) ≡ true → b ≡ true
and_right true b h = h
and_right false b h = absurd (true≢false (sym h))

-- ---- fields that are put before others

abbrev pub comes_before : Name → Name → Bool
comes_before k l = match_ordering (slice_cmp nat_cmp k l) true false false

-- a name that comes before those of some fields
abbrev pub is_before : Name → List Field → Bool
is_before k fs = list_all (λ f. comes_before k f.0) fs

less : {A : Type 0} (o : Ordering) (a b c : A) → match_ordering o true false false ≡ true → match_ordering o a b c ≡ a
less Less a b c h = refl
less Equal a b c h = absurd (true≢false (sym h))
less Greater a b c h = absurd (true≢false (sym h))

put_front : (k : Name) (d : Data) (fs : List Field) → is_before k fs ≡ true → put k d (fields_of fs) ≡ member k d (fields_of fs)
put_front k d [] h = refl
put_front k d ((l, None) ∷ fs) h = put_front k d fs (and_right (comes_before k l) (is_before k fs) h)
put_front k d ((l, Some e) ∷ fs) h = less (slice_cmp nat_cmp k l) _ _ _ (and_left (comes_before k l) (is_before k fs) h)

pub put_field : (k : Name) (value : Option Data) (fs : List Field) (old new : Members) → is_before k fs ≡ true → old ≡ fields_of fs → new ≡ with_put k value old → new ≡ fields_of ((k, value) ∷ fs)
put_field k None fs old new before is puts = puts ∙ is
put_field k (Some d) fs old new before is puts = puts ∙ (ap (put k d) is ∙ put_front k d fs before)

-- ---- fields that are found

abbrev pub or_else : Option Data → Option Data → Option Data
or_else None later = later
or_else (Some d) later = Some d

pub or_none : (value : Option Data) → or_else value None ≡ value
or_none None = refl
or_none (Some d) = refl

abbrev pub find_in : Name → List Field → Option Data
find_in k [] = None
find_in k (f ∷ fs) = match_ordering (slice_cmp nat_cmp k f.0) (find_in k fs) (or_else f.1 (find_in k fs)) (find_in k fs)

all_same : {A : Type 0} (o : Ordering) (a : A) → match_ordering o a a a ≡ a
all_same Less a = refl
all_same Equal a = refl
all_same Greater a = refl

get_fields : (k : Name) (fs : List Field) → get_member k (fields_of fs) ≡ find_in k fs
get_fields k [] = refl
get_fields k ((l, None) ∷ fs) = get_fields k fs ∙ sym (all_same (slice_cmp nat_cmp k l) (find_in k fs))
get_fields k ((l, Some d) ∷ fs) = ap (λ r. match_ordering (slice_cmp nat_cmp k l) r (Some d) r) (get_fields k fs)

-- the field of a name, which is found where it stands
pub get_field : (k : Name) (fs : List Field) (value : Option Data) → find_in k fs ≡ or_else value None → get k (object_of fs) ≡ value
get_field k fs value is = get_fields k fs ∙ (is ∙ or_none value)

first_field : (test : Name → Bool) (fs : List Field) → list_all (λ f. test f.0) fs ≡ true → first_other test (fields_of fs) ≡ None
first_field test [] h = refl
first_field test ((l, None) ∷ fs) h = first_field test fs (and_right (test l) _ h)
first_field test ((l, Some d) ∷ fs) h = rw (and_left (test l) _ h) (first_field test fs (and_right (test l) _ h))

-- no field has another name
pub no_other_fields : (test : Name → Bool) (fs : List Field) → list_all (λ f. test f.0) fs ≡ true → no_others test (object_of fs) ≡ Ok tt
no_other_fields test fs h = rw (first_field test fs h) refl

-- ---- values without a float that nest no deeper than a bound

abbrev pub IsFlat : ℕ → Data → Type 0
IsFlat n d = (has_float d ≡ false) × (depth d ≤ n)

abbrev pub IsFlatIf : ℕ → Option Data → Type 0
IsFlatIf n None = ⊤
IsFlatIf n (Some d) = IsFlat n d

abbrev pub AreFlat : ℕ → List Field → Type 0
AreFlat n fs = AllByRecursion (λ (f : Field). IsFlatIf n f.1) fs

abbrev AreFlatMembers : ℕ → Members → Type 0
AreFlatMembers n ms = (members_have_float ms ≡ false) × (members_depth ms ≤ n)

pub or_false : (a b : Bool) → a ≡ false → b ≡ false → (a || b) ≡ false
or_false true b p q = p
or_false false b p q = q

flat_fields : (n : ℕ) (fs : List Field) → AreFlat n fs → AreFlatMembers n (fields_of fs)
flat_fields n [] h = (refl, omega arith)
flat_fields n ((l, None) ∷ fs) h = flat_fields n fs h.1
flat_fields n ((l, Some d) ∷ fs) h =
    let rest = flat_fields n fs h.1 in (
      or_false (has_float d) (members_have_float (fields_of fs)) h.0.0 rest.0,
      omega (arith, h.0.1, rest.1),
    )

pub flat_object : (n : ℕ) (fs : List Field) → AreFlat n fs → IsFlat (suc n) (object_of fs)
flat_object n fs h = let all = flat_fields n fs h in (all.0, omega (arith, all.1))
