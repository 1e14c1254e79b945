-- The cells of a sheet, one by one.
use Rattle.std.proofs.Common.{◌≡◌, ◌∙◌, ℕ, zero, suc, ◌<◌, ◌^◌, ◌&&◌, Bool, true, false, cond, List, [], ◌∷◌, ◌++◌, length, get_or, map, Option, Some, None, refl, sym, ap, subst, arith}
use Rattle.std.specs.Prelude.{ℤ, pos, ◌+ℤ◌, unsigned_abs, nat_le, unwrap_or, IsSome}
use Rattle.std.specs.Global.{Vec}
use Rattle.std.specs.List.{fold, list_all}
use Rattle.std.specs.Ordering.{match_ordering}
use Rattle.std.specs.declared.cmp.Ordering.{Ordering}
use Rattle.std.specs.declared.cmp.Ordering.TheVariants.{Less, Equal, Greater}
use Rattle.std.specs.BTreeMap.{insert_entry, is_at}
use Rattle.std.specs.Map.{keys_of, lookup}
use Rattle.std.proofs.lemmas.Option.{get_or_from_slice_get, slice_get_within}
use Rattle.std.proofs.lemmas.List.Sums.{fold-append}
use Rattle.std.proofs.lemmas.List.{length-map, map-append}
use Rattle.std.proofs.Math.IntN.{+ℤ_idl}
use Rattle.std.proofs.lemmas.Bool.Decides.{nat_tests}
use Rattle.aso_outline.specs.declared.draft.Draft.{Draft}
use Rattle.aso_outline.specs.Classes.{leaf_count}
use Rattle.aso_spec.specs.Cells.{Cells, Key, add_at, added, key_order, summed}
use Rattle.aso_sheettext.specs.Sheet.{Cell}
use Rattle.aso_cellnames.specs.Leaves.{are_leaves, leaf_counts}
use Rattle.aso_cellnames.proofs.FirstLeaves.{leaf_below, leaves_long}
use Rattle.aso_sums.specs.Summing.{AreLeaves}
use Rattle.aso_eval.specs.Entries.{Entry, cell_in, cells_in, vec_order}
use Rattle.aso_eval.specs.Sheets.{cells_of, past, record_of}

-- ---- one amount more

longer_by_one : (n : ℕ) → suc n ≡ n → ⊥
longer_by_one n e = omega (arith, e)

suc_same : {m n : ℕ} → suc m ≡ suc n → m ≡ n
suc_same e = omega (arith, e)

-- the entries with one that is put among them are the cells with an amount more
abbrev Puts : Vec ℕ → ℤ → ℤ → Option ℤ → List Entry → Type 0
Puts key z v old es =
    lookup (is_at (vec_order key)) es ≡ old → (IsSome old → length (insert_entry vec_order es key v) ≡ length es)
    → cells_in (insert_entry vec_order es key v) ≡ add_at key.items z (cells_in es)

put_at : (key : Vec ℕ) (z v : ℤ) (e : Entry) (es : List Entry) (old : Option ℤ) (c : Ordering) → v ≡ unwrap_or old (pos 0) +ℤ z → Puts key z v old es → vec_order key e.0 ≡ c → Puts key z v old (e ∷ es)
put_at key z v e es None Less is rest h found long = rw h (ap (λ (x : ℤ). (key.items, x) ∷ cells_in (e ∷ es)) (is ∙ +ℤ_idl z))
put_at key z v e es (Some x) Less is rest h found long = absurd (longer_by_one (length (e ∷ es)) (rw h at (long refl)))
put_at key z v e es old Equal is rest h found long = rw h (ap (λ (x : ℤ). (e.0.items, x) ∷ cells_in es) (is ∙ ap (λ (o : Option ℤ). unwrap_or o (pos 0) +ℤ z) (sym (rw h at found))))
put_at key z v e es old Greater is rest h found long = rw h (ap (λ (cs : Cells). cell_in e ∷ cs) (rest (rw h at found) (λ some. suc_same (rw h at (long some)))))

put_entry : (key : Vec ℕ) (z v : ℤ) (es : List Entry) (old : Option ℤ) → v ≡ unwrap_or old (pos 0) +ℤ z → Puts key z v old es
put_entry key z v [] None is = λ found long. ap (λ (x : ℤ). (key.items, x) ∷ []) (is ∙ +ℤ_idl z)
put_entry key z v [] (Some x) is = λ found long. absurd (cc)
put_entry key z v (e ∷ es) old is = put_at key z v e es old (vec_order key e.0) is (put_entry key z v es old is) refl

pub put_is : (key : Vec ℕ) (z v : ℤ) (es new : List Entry) (old : Option ℤ) → new ≡ insert_entry vec_order es key v → lookup (is_at (vec_order key)) es ≡ old → (IsSome old → keys_of new ≡ keys_of es) → v ≡ unwrap_or old (pos 0) +ℤ z
    → cells_in new ≡ add_at key.items z (cells_in es)
put_is key z v es new old e found same is =
    ap cells_in e ∙ put_entry key z v es old is found (λ some. sym (ap (λ (xs : List Entry). length xs) e) ∙ as_long new es (same some)) where
      as_long : (xs ys : List Entry) → keys_of xs ≡ keys_of ys → length xs ≡ length ys
      as_long xs ys h = sym (length-map xs (λ (x : Entry). x.0)) ∙ ap (λ (ks : List (Vec ℕ)). length ks) h ∙ length-map ys (λ (x : Entry). x.0)

-- ---- lines one by one

pub cells_more : (o : Draft) (cs : List Cell) (c : Cell) (old new : Cells) → old ≡ cells_of o cs → new ≡ add_at (record_of o c).0 (record_of o c).1 old → new ≡ cells_of o (cs ++ c ∷ [])
unfolding summed
cells_more o cs c old new eo en =
    en ∙ ap (add_at (record_of o c).0 (record_of o c).1) eo
    ∙ sym (ap (fold added []) (map-append (record_of o) cs (c ∷ [])) ∙ fold-append added [] (map (record_of o) cs) (record_of o c ∷ []))

test_at : (p : Key → Bool) (key : Key) (z : ℤ) (c : Key × ℤ) (cs : Cells) (t : Ordering) → p key ≡ true → p c.0 ≡ true → list_all (λ (d : Key × ℤ). p d.0) cs ≡ true → list_all (λ (d : Key × ℤ). p d.0) (add_at key z cs) ≡ true
    → list_all (λ (d : Key × ℤ). p d.0) (match_ordering t ((key, z) ∷ c ∷ cs) ((c.0, c.1 +ℤ z) ∷ cs) (c ∷ add_at key z cs)) ≡ true
test_at p key z c cs Less hk hc hs hr = rw (hk, hc) hs
test_at p key z c cs Equal hk hc hs hr = rw hc hs
test_at p key z c cs Greater hk hc hs hr = rw hc hr

both : (a b : Bool) → (a && b) ≡ true → (a ≡ true) × (b ≡ true)
both true b h = (refl, h)
both false b h = (h, cc)

pub leaves_more : (p : Key → Bool) (key : Key) (z : ℤ) (cs : Cells) → p key ≡ true → list_all (λ (d : Key × ℤ). p d.0) cs ≡ true → list_all (λ (d : Key × ℤ). p d.0) (add_at key z cs) ≡ true
leaves_more p key z [] hk h = rw hk refl
leaves_more p key z (c ∷ cs) hk h =
    let parts = both (p c.0) (list_all (λ (d : Key × ℤ). p d.0) cs) h in
    test_at p key z c cs (key_order key c.0) hk parts.0 parts.1 (leaves_more p key z cs hk parts.1)

-- ---- amounts in range

pub leaf_at : (p : Key → Bool) (es : List Entry) (i : ℕ) (d : Entry) → i < length es → list_all (λ (c : Key × ℤ). p c.0) (cells_in es) ≡ true → p (get_or es i d).0.items ≡ true
leaf_at p [] i d lt h = absurd (omega arith)
leaf_at p (e ∷ es) zero d lt h = (both (p e.0.items) (list_all (λ (c : Key × ℤ). p c.0) (cells_in es)) h).0
leaf_at p (e ∷ es) (suc i) d lt h = leaf_at p es i d (omega arith) (both (p e.0.items) (list_all (λ (c : Key × ℤ). p c.0) (cells_in es)) h).1

not_here : (b : Bool) (c : Key × ℤ) (rest : Option (Key × ℤ)) → cond b (Some c) rest ≡ None → (b ≡ false) × (rest ≡ None)
not_here true c rest h = absurd (cc)
not_here false c rest h = (refl, h)

small : (n : ℕ) → nat_le (10 ^ 18) n ≡ false → n < 10 ^ 18
small n h = grind (arith, nat_tests)

pub in_range : (es : List Entry) (i : ℕ) (d : Entry) → i < length es → past (cells_in es) ≡ None → unsigned_abs (get_or es i d).1 < 10 ^ 18
in_range [] i d lt h = absurd (omega arith)
in_range (e ∷ es) zero d lt h = small (unsigned_abs e.1) (not_here (nat_le (10 ^ 18) (unsigned_abs e.1)) (cell_in e) (past (cells_in es)) h).0
in_range (e ∷ es) (suc i) d lt h = in_range es i d (omega arith) (not_here (nat_le (10 ^ 18) (unsigned_abs e.1)) (cell_in e) (past (cells_in es)) h).1

pub leaves_of : (o : Draft) (key : Key) → are_leaves (leaf_counts o) key ≡ true → AreLeaves o key
leaves_of o key h = record {
  long = leaves_long o key h;
  leaves = λ d leaf at. subst (λ (x : ℕ). x < leaf_count o d) (get_or_from_slice_get key d leaf 0 at) (leaf_below o key d h (omega (arith, slice_get_within key d leaf at, leaves_long o key h)));
}

same_some : (c d : Key × ℤ) → Some c ≡ Some d → c ≡ d
same_some c d h = cc

found_by : (p : Key → Bool) (b : Bool) (c d : Key × ℤ) (rest : Option (Key × ℤ)) → p c.0 ≡ true → (rest ≡ Some d → p d.0 ≡ true) → cond b (Some c) rest ≡ Some d → p d.0 ≡ true
found_by p true c d rest here later h = subst (λ (x : Key × ℤ). p x.0 ≡ true) (same_some c d h) here
found_by p false c d rest here later h = later h

pub past_at : (p : Key → Bool) (cs : Cells) (d : Key × ℤ) → list_all (λ (c : Key × ℤ). p c.0) cs ≡ true → past cs ≡ Some d → p d.0 ≡ true
past_at p [] d all h = absurd (cc)
past_at p (c ∷ cs) d all h =
    let parts = both (p c.0) (list_all (λ (x : Key × ℤ). p x.0) cs) all in
    found_by p (nat_le (10 ^ 18) (unsigned_abs c.1)) c d (past cs) parts.0 (past_at p cs d parts.1) h
