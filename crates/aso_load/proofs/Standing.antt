-- The amounts of a load stand at data leaves.
use Rattle.std.proofs.Common.{◌≡◌, ◌≢◌, ◌∙◌, ◌<◌, ◌==◌, ◌&&◌, ◌||◌, ◌++◌, ◌∷◌, [], if◌then◌else◌, ℕ, zero, suc, List, drop, Option, Some, None, Bool, true, false, length, map, set, get_or, replicate, refl, sym, ap, subst, arith, inl, inr}
use Rattle.std.specs.Prelude.{ℤ, Result, Ok, Err, IfOk, IfSome, All, slice_index, unwrap_or}
use Rattle.std.specs.List.{cons_option, filter, filter_map, flat_map, range_with_len}
use Rattle.std.specs.Str.{is_utf8}
use Rattle.std.proofs.lemmas.Bool.{eqb-true}
use Rattle.std.proofs.lemmas.Bool.Decides.{eqb_tells}
use Rattle.std.proofs.lemmas.List.{get_or-replicate, get_or-set_other, get_or-set_same, length-replicate, length-set}
use Rattle.std.proofs.lemmas.List.Elements.{All-append, All-cons, All-head, All-map, All-nil, All-tail}
use Rattle.aso_num.specs.AmountText.{amount_of}
use Rattle.aso_num.specs.declared.amount.NumberFault.{NumberFault}
use Rattle.aso_num.specs.declared.amount.NumberFault.TheVariants.{NotNumber, Decimals, Range}
use Rattle.aso_outline.specs.declared.draft.Draft.{Draft}
use Rattle.aso_outline.specs.declared.draft.DraftMember.{DraftMember}
use Rattle.aso_outline.specs.declared.seat.Seat.{Seat}
use Rattle.aso_outline.specs.declared.seat.Seat.TheVariants.{Whole, Inner, Carried}
use Rattle.aso_outline.specs.Classes.{leaf_count, leaf_of}
use Rattle.aso_outline.specs.Kept.{HasDataLeaves}
use Rattle.aso_outline.specs.Leaves.{is_data_place, ordinal_in}
use Rattle.aso_outline.specs.Members.{Name, dim_at, dim_of, find, is_data_leaf, member_is, parents_of, tree}
use Rattle.aso_outline.specs.Numbers.{seat_of}
use Rattle.aso_outline.proofs.ClassLemmas.{ordinal_below, shared_below}
use Rattle.aso_tree.specs.Trees.{is_leaf}
use Rattle.aso_rules.specs.declared.rules.Column.{Column}
use Rattle.aso_rules.specs.declared.rules.Column.TheVariants.{Ignore, Dimension, Amounts}
use Rattle.aso_rules.specs.declared.rules.Rules.{Rules}
use Rattle.aso_load.specs.Csv.{records_of}
use Rattle.aso_load.specs.Fields.{is_ignored, is_missing, leaf_in, replaced, told, told_amount, told_leaf, told_member, told_number, told_text, trimmed}
use Rattle.aso_load.specs.Leaves.{AreLeaves, StandAtLeaves}
use Rattle.aso_load.specs.Records.{amount_in, amounts_in, first_reason, fixed_leaves, given, judged, leaf_pair, loaded, member_pair, outcome, put_leaf, put_leaves, put_members, shared_leaves, told_all}
use Rattle.aso_load.specs.declared.loaded.Loaded.{Loaded}
use Rattle.aso_load.specs.declared.told.Told.{Told}
use Rattle.aso_load.specs.declared.told.Told.TheVariants.{Nothing, Fault, Leaf, Amount}

none_some : {A : Type 0} → (a : A) → None ≡ Some a → ⊥
none_some a e = cc

some_is : {A : Type 0} → (a b : A) → Some a ≡ Some b → a ≡ b
some_is a b e = cc

no_pass : false ≡ true → ⊥
no_pass e = cc

first_passes : (a b : Bool) → (a && b) ≡ true → a ≡ true
first_passes true b h = refl
first_passes false b h = h

other_passes : (a b : Bool) → (a && b) ≡ true → b ≡ true
other_passes true b h = h
other_passes false b h = absurd (no_pass h)

-- ---- the data leaf that a member is

member_within : (test : DraftMember → Bool) (ms : List DraftMember) (i : ℕ) → member_is test ms i ≡ true → i < length ms
member_within test [] zero is = absurd (no_pass is)
member_within test [] (suc i) is = absurd (no_pass is)
member_within test (m ∷ ms) zero is = omega arith
member_within test (m ∷ ms) (suc i) is = let h = member_within test ms i is in omega (arith, h)

own_below : (ms : List DraftMember) (i k : ℕ) → ordinal_in ms i ≡ Some k → i < length ms
own_below ms i k is = by_test (is_data_place ms i) refl is
  where
    by_test : (b : Bool) → is_data_place ms i ≡ b → (if b then Some (length (filter (is_data_place ms) (range_with_len 0 i))) else None) ≡ Some k → i < length ms
    by_test true pass here = member_within _ ms i (other_passes (is_leaf (parents_of ms) i) _ pass)
    by_test false pass here = absurd (none_some k here)

leaf_below : (o : Draft) (s : Seat) (k : ℕ) → leaf_of o s ≡ Some k → k < leaf_count o (dim_of s)
leaf_below o (Whole d) k is = absurd (none_some k is)
leaf_below o (Inner d zero i) k is = ordinal_below (tree (dim_at o d) 0) i k (own_below (tree (dim_at o d) 0) i k is) (sym is)
leaf_below o (Inner d (suc h) i) k is = shared_below o d (suc h) i k (sym is)
leaf_below o (Carried a i) k is = absurd (none_some k is)

-- a data leaf of the dimension, if there is such a dimension
abbrev IsLeafAt : Draft → ℕ × ℕ → Type 0
IsLeafAt o p = p.0 < length o.dims → p.1 < leaf_count o p.0

member_is_leaf : (o : Draft) (m : ℕ) → HasDataLeaves o → IsLeafAt o (member_pair o m)
member_is_leaf o m have within = found (leaf_of o (seat_of o m)) refl
  where
    found : (x : Option ℕ) → leaf_of o (seat_of o m) ≡ x → unwrap_or x 0 < leaf_count o (dim_of (seat_of o m))
    found None is = have (dim_of (seat_of o m)) within
    found (Some k) is = leaf_below o (seat_of o m) k is

-- ---- leaves that are put into a list

put_keeps : (o : Draft) (leaves : List ℕ) (p : ℕ × ℕ) → IsLeafAt o p → AreLeaves o leaves → AreLeaves o (put_leaf leaves p)
put_keeps o leaves p leaf are = record {
  long = length-set leaves p.0 p.1 ∙ are.long;
  each = λ d (lt : d < length o.dims). elim (eqb_tells d p.0) [
    | inl same ↦
        let long = are.long in
        let at : p.0 < length o.dims = subst (λ (e : ℕ). e < length o.dims) same.1 lt in
        let here : get_or (set leaves p.0 p.1) p.0 0 ≡ p.1 = get_or-set_same leaves p.0 p.1 0 (omega (arith, at, long)) in
        subst (λ (e : ℕ). get_or (set leaves p.0 p.1) e 0 < leaf_count o e) (sym same.1) (subst (λ (n : ℕ). n < leaf_count o p.0) (sym here) (leaf at))
    | inr other ↦ subst (λ (n : ℕ). n < leaf_count o d) (sym (get_or-set_other leaves p.0 d p.1 0 other.1)) (are.each d lt)
  ];
}

puts_keep : (o : Draft) (leaves : List ℕ) (ps : List (ℕ × ℕ)) → All (IsLeafAt o) ps → AreLeaves o leaves → AreLeaves o (put_leaves leaves ps)
puts_keep o leaves [] all are = are
puts_keep o leaves (p ∷ ps) all are = puts_keep o (put_leaf leaves p) ps (All-tail (IsLeafAt o) p ps all) (put_keeps o leaves p (All-head (IsLeafAt o) p ps all) are)

members_keep : (o : Draft) (leaves members : List ℕ) → HasDataLeaves o → AreLeaves o leaves → AreLeaves o (put_members o leaves members)
members_keep o leaves members have are = puts_keep o leaves (map (member_pair o) members) (All-map (IsLeafAt o) (member_pair o) members (λ k d low. member_is_leaf o (get_or members k d) have)) are

fixed_stand : (o : Draft) (fixed : List ℕ) → HasDataLeaves o → AreLeaves o (fixed_leaves o fixed)
fixed_stand o fixed have = members_keep o (replicate (length o.dims) 0) fixed have (record {
  long = length-replicate (length o.dims) 0;
  each = λ d lt. subst (λ (n : ℕ). n < leaf_count o d) (sym (get_or-replicate (length o.dims) d 0 0 lt)) (have d lt);
})

-- ---- leaves that fields name

abbrev NamesLeaf : Draft → Told → Type 0
NamesLeaf o Nothing = Unit {0}
NamesLeaf o (Fault reason) = Unit {0}
NamesLeaf o (Leaf d leaf) = IsLeafAt o (d, leaf)
NamesLeaf o (Amount units) = Unit {0}

found_leaf : (o : Draft) (d m : ℕ) → IfSome (leaf_in o d m) (λ leaf. IsLeafAt o (d, leaf))
found_leaf o d m = by_test (is_data_leaf o (seat_of o m) && (dim_of (seat_of o m) == d)) refl
  where
    one : (x : Option ℕ) → leaf_of o (seat_of o m) ≡ x → dim_of (seat_of o m) ≡ d → IfSome x (λ leaf. IsLeafAt o (d, leaf))
    one None is same = tt
    one (Some k) is same = λ low. subst (λ (e : ℕ). k < leaf_count o e) same (leaf_below o (seat_of o m) k is)

    by_test : (b : Bool) → (is_data_leaf o (seat_of o m) && (dim_of (seat_of o m) == d)) ≡ b → IfSome (if b then leaf_of o (seat_of o m) else None) (λ leaf. IsLeafAt o (d, leaf))
    by_test true pass = one (leaf_of o (seat_of o m)) refl (eqb-true (dim_of (seat_of o m)) d (other_passes (is_data_leaf o (seat_of o m)) (dim_of (seat_of o m) == d) pass))
    by_test false pass = tt

names_leaf : (o : Draft) (d : ℕ) (x : Option ℕ) → IfSome x (λ leaf. IsLeafAt o (d, leaf)) → NamesLeaf o (told_leaf d x)
names_leaf o d None h = tt
names_leaf o d (Some leaf) h = h

names_member : (o : Draft) (d : ℕ) (m : Option ℕ) → NamesLeaf o (told_member o d m)
names_member o d None = tt
names_member o d (Some m) = names_leaf o d (leaf_in o d m) (found_leaf o d m)

names_amount : (o : Draft) (missing : Bool) (r : Result ℤ NumberFault) → NamesLeaf o (if missing then Nothing else told_number r)
names_amount o true r = tt
names_amount o false (Ok units) = tt
names_amount o false (Err (NotNumber at)) = tt
names_amount o false (Err Decimals) = tt
names_amount o false (Err Range) = tt

names_text : (o : Draft) (c : Column) (text : List ℕ) → NamesLeaf o (told_text o c text)
names_text o Ignore text = tt
names_text o (Dimension d prefix suffix replace) text = names_member o d (find o (prefix ++ (replaced replace text ++ suffix)))
names_text o (Amounts members) text = names_amount o (is_missing text) (amount_of text)

names : (o : Draft) (c : Column) (field : List ℕ) → NamesLeaf o (told o c field)
names o c field = by_test (is_ignored c || is_utf8 (trimmed field))
  where
    by_test : (b : Bool) → NamesLeaf o (if b then told_text o c (trimmed field) else Fault 2)
    by_test true = names_text o c (trimmed field)
    by_test false = tt

one_pair : (o : Draft) (t : Told) (ps : List (ℕ × ℕ)) → NamesLeaf o t → All (IsLeafAt o) ps → All (IsLeafAt o) (cons_option (leaf_pair t) ps)
one_pair o Nothing ps h all = all
one_pair o (Fault reason) ps h all = all
one_pair o (Leaf d leaf) ps h all = All-cons (IsLeafAt o) (d, leaf) ps h all
one_pair o (Amount units) ps h all = all

all_named : (o : Draft) (cs : List Column) (fs : List (List ℕ)) → All (IsLeafAt o) (filter_map leaf_pair (told_all o cs fs))
all_named o [] fs = All-nil (IsLeafAt o)
all_named o (c ∷ cs) [] = All-nil (IsLeafAt o)
all_named o (c ∷ cs) (f ∷ fs) = one_pair o (told o c f) (filter_map leaf_pair (told_all o cs fs)) (names o c f) (all_named o cs fs)

-- ---- amounts

abbrev StandsAt : Draft → List ℕ × ℤ → Type 0
StandsAt o a = AreLeaves o a.0

one_amount : (o : Draft) (shared : List ℕ) (c : Column) (t : Told) (rest : List (List ℕ × ℤ)) → HasDataLeaves o → AreLeaves o shared → StandAtLeaves o rest
    → StandAtLeaves o (cons_option (amount_in o shared c t) rest)
one_amount o shared Ignore t rest have are all = all
one_amount o shared (Dimension d prefix suffix replace) t rest have are all = all
one_amount o shared (Amounts members) Nothing rest have are all = all
one_amount o shared (Amounts members) (Fault reason) rest have are all = all
one_amount o shared (Amounts members) (Leaf d leaf) rest have are all = all
one_amount o shared (Amounts members) (Amount units) rest have are all =
    All-cons (StandsAt o) (put_members o shared members, units) rest (members_keep o shared members have are) all

all_amounts : (o : Draft) (shared : List ℕ) (cs : List Column) (ts : List Told) → HasDataLeaves o → AreLeaves o shared → StandAtLeaves o (amounts_in o shared cs ts)
all_amounts o shared [] ts have are = All-nil (StandsAt o)
all_amounts o shared (c ∷ cs) [] have are = All-nil (StandsAt o)
all_amounts o shared (c ∷ cs) (t ∷ ts) have are = one_amount o shared c t (amounts_in o shared cs ts) have are (all_amounts o shared cs ts have are)

judged_stand : (o : Draft) (rules : Rules) (ts : List Told) (r : Option ℕ) → HasDataLeaves o → All (IsLeafAt o) (filter_map leaf_pair ts) → StandAtLeaves o (given (judged o rules ts r))
judged_stand o rules ts (Some reason) have named = All-nil (StandsAt o)
judged_stand o rules ts None have named =
    all_amounts o (shared_leaves (fixed_leaves o rules.fixed) ts) rules.columns ts have (puts_keep o (fixed_leaves o rules.fixed) (filter_map leaf_pair ts) named (fixed_stand o rules.fixed have))

record_stands : (o : Draft) (rules : Rules) (fields : List (List ℕ)) → HasDataLeaves o → StandAtLeaves o (given (outcome o rules fields))
record_stands o rules fields have = by_test (length fields == length rules.columns)
  where
    by_test : (b : Bool) → StandAtLeaves o (given (if b then judged o rules (told_all o rules.columns fields) (first_reason (told_all o rules.columns fields)) else Err 1))
    by_test true = judged_stand o rules (told_all o rules.columns fields) (first_reason (told_all o rules.columns fields)) have (all_named o rules.columns fields)
    by_test false = All-nil (StandsAt o)

all_stand : (o : Draft) (rules : Rules) (records : List (List (List ℕ))) → HasDataLeaves o → StandAtLeaves o (flat_map given (map (outcome o rules) records))
all_stand o rules [] have = All-nil (StandsAt o)
all_stand o rules (r ∷ rs) have = All-append (StandsAt o) (given (outcome o rules r)) (flat_map given (map (outcome o rules) rs)) (record_stands o rules r have) (all_stand o rules rs have)

pub load_stands : (o : Draft) (rules : Rules) (text : List ℕ) → HasDataLeaves o → StandAtLeaves o (loaded o rules text).amounts
load_stands o rules text have = all_stand o rules (drop rules.header_records (records_of rules.delimiter text)) have

pub stands_if : {E : Type 0} (o : Draft) (rules : Rules) (text : List ℕ) (r : Result Loaded E) → HasDataLeaves o → IfOk r (λ l. l ≡ loaded o rules text) → IfOk r (λ l. StandAtLeaves o l.amounts)
stands_if {E} o rules text (Ok l) have is = subst (λ (x : Loaded). StandAtLeaves o x.amounts) (sym is) (load_stands o rules text have)
stands_if {E} o rules text (Err e) have is = tt
