-- Each leaf of a stored hierarchy is the place of a data leaf.
use Rattle.std.specs.Prelude.{is_none, is_some, slice_get, unwrap_or, if◌then◌else◌}
use Rattle.std.specs.Option.{option_map, option_and_then}
use Rattle.std.specs.List.{find, position}
use Rattle.std.proofs.Common.{◌≡◌, ◌∙◌, ℕ, zero, suc, ◌<◌, ◌≤◌, ◌&&◌, ◌||◌, ⊎_elim, eqb, Bool, true, false, not, List, [], ◌∷◌, length, get_or, Option, Some, None, refl, sym, ap, arith, true≢false}
use Rattle.std.proofs.lemmas.Bool.{and_from, cases_lt, eqb-true}
use Rattle.std.proofs.lemmas.Option.{none-some, same_Some, slice_get-get_or}
use Rattle.aso_tree.specs.Trees.{class_count, class_of, is_leaf}
use Rattle.aso_tree.proofs.Ends.{past_is_no_leaf}
use Rattle.aso_outline.specs.declared.draft.Draft.{Draft}
use Rattle.aso_outline.specs.declared.draft.DraftMember.{DraftMember}
use Rattle.aso_outline.specs.declared.seat.Seat.{Seat}
use Rattle.aso_outline.specs.declared.seat.Seat.TheVariants.{Whole, Inner, Carried}
use Rattle.aso_outline.specs.Classes.{class_at, classes_at, leaf_count, leaf_place}
use Rattle.aso_outline.specs.ClassLeaves.{HasLeaf}
use Rattle.aso_outline.specs.Leaves.{is_data_place, name_in}
use Rattle.aso_outline.specs.Members.{Name, data_leaves, dim_at, is_childless, is_data_leaf, is_dynamic, leaf_names, own_name, parents_of, same_name, seats, tree}
use Rattle.aso_outline.specs.Parents.{one_parent_each}
use Rattle.aso_outline.specs.Ranks.{is_of_dim, named}
use Rattle.aso_outline.specs.Rules.{breaks_kinds, broken, has_formula, is_alternate, is_leaf_name, is_shared, is_stored_kind, is_well_shared, least, name_at, rules, shares}
use Rattle.aso_outline.proofs.AtSeats.{none_at}
use Rattle.aso_outline.proofs.ClassLemmas.{class_high}
use Rattle.aso_outline.proofs.HoldLemmas.{leaf_name_is}
use Rattle.aso_outline.proofs.Kept.{has_trees}
use Rattle.aso_outline.proofs.Known.{same_is}
use Rattle.aso_outline.proofs.LeafNames.{some_at}
use Rattle.aso_outline.proofs.NodeLeaves.{leaf_of_class, no_more, place_of_passing}
use Rattle.aso_outline.proofs.Rooted.{each_kept, kept_names, kept_sharing}
use Rattle.aso_outline.proofs.Smalls.{and_left, and_right}
use Rattle.aso_outline.proofs.Unique.{name_there, only_sharer, test_there, well_shared}

pub kept_kinds : (o : Draft) → broken o ≡ None → position (breaks_kinds o) (seats o) ≡ None
unfolding broken
kept_kinds o kept = each_kept rules o kept 6 (7, least breaks_kinds) refl

-- what a stored hierarchy's member keeps of the rule of kinds
plain_kind : (dynamic formula rest leaf : Bool) → dynamic ≡ false → not ((dynamic || (not formula && rest)) && leaf) ≡ false → formula ≡ false
plain_kind true formula rest leaf stored h = absurd (true≢false stored)
plain_kind false false rest leaf stored h = refl
plain_kind false true rest leaf stored h = absurd (true≢false h)

shared_kind : (dynamic kind other formula shared : Bool) → dynamic ≡ false → other ≡ true → not ((dynamic || kind) && (not other || (shared || (dynamic && formula)))) ≡ false → shared ≡ true
shared_kind true kind other formula shared stored is h = absurd (true≢false stored)
shared_kind false kind false formula shared stored is h = absurd (true≢false (sym is))
shared_kind false kind true formula true stored is h = refl
shared_kind false true true formula false stored is h = absurd (true≢false h)
shared_kind false false true formula false stored is h = absurd (true≢false h)

no_formula : {X : Type 0} (x : Option X) → is_some x ≡ false → is_none x ≡ true
no_formula None h = refl
no_formula (Some y) h = absurd (true≢false h)

found_passes : {X : Type 0} (p : X → Bool) (xs : List X) (x : X) → find p xs ≡ Some x → p x ≡ true
found_passes p [] x is = absurd (none-some x is)
found_passes p (y ∷ ys) x is = by_test (λ h. found_passes p ys x h) (p y) refl is
  where
    by_test : (find p ys ≡ Some x → p x ≡ true) → (b : Bool) → p y ≡ b → (if b then Some y else find p ys) ≡ Some x → p x ≡ true
    by_test later true here h = ap p (sym (same_Some y x h)) ∙ here
    by_test later false here h = later h

leaf_within : (ms : List DraftMember) (p : ℕ) → is_leaf (parents_of ms) p ≡ true → p < length ms
leaf_within ms p leaf =
    ⊎_elim
    (λ (low : p < length ms). low)
    (λ (past : length ms ≤ p). absurd (true≢false (sym leaf ∙ past_is_no_leaf (parents_of ms) p (omega (arith, past, one_parent_each ms)))))
    (cases_lt p (length ms))

-- ---- the data leaf of a shared name

abbrev pub own_is : Draft → Name → Seat → Bool
own_is o name s = unwrap_or (option_map (same_name name) (own_name o s)) false

own_first : (o : Draft) (d p : ℕ) (name : Name) → own_is o name (Inner d 0 p) ≡ true → name_in (tree (dim_at o d) 0) p ≡ name
own_first o d p name own = by_member (slice_get (tree (dim_at o d) 0) p) own
  where
    by_shared : (m : DraftMember) (b : Bool) → unwrap_or (option_map (same_name name) (if b then None else Some m.name)) false ≡ true → m.name ≡ name
    by_shared m true h = absurd (true≢false (sym h))
    by_shared m false h = sym (same_is name m.name h)

    by_member : (x : Option DraftMember) → unwrap_or (option_map (same_name name) (option_and_then (λ (m : DraftMember). if m.shared then None else Some m.name) x)) false ≡ true → unwrap_or (option_map (λ (m : DraftMember). m.name) x) [] ≡ name
    by_member None h = absurd (true≢false (sym h))
    by_member (Some m) h = by_shared m m.shared h

abbrev IsDataOf : Draft → ℕ → Name → Type 0
IsDataOf o d name = (p : ℕ) × (is_data_place (tree (dim_at o d) 0) p ≡ true) × (name_in (tree (dim_at o d) 0) p ≡ name)

by_seat : (o : Draft) (d : ℕ) (name : Name) (t : Seat) → own_is o name t ≡ true → (is_of_dim d t && is_data_leaf o t) ≡ true → IsDataOf o d name
by_seat o d name (Whole e) own h = absurd (true≢false (sym (and_right (eqb d e) false h)))
by_seat o d name (Inner e zero p) own h =
    let same : d ≡ e = eqb-true d e (and_left (eqb d e) _ h) in
    let leaf : is_data_place (tree (dim_at o e) 0) p ≡ true = and_right (eqb d e) _ h in
    (p, ap (λ (x : ℕ). is_data_place (tree (dim_at o x) 0) p) same ∙ leaf, ap (λ (x : ℕ). name_in (tree (dim_at o x) 0) p) same ∙ own_first o e p name own)
by_seat o d name (Inner e (suc h) p) own is = absurd (true≢false (sym (and_right (eqb d e) false is)))
by_seat o d name (Carried a i) own h = absurd (true≢false (sym h))

leaf_named : (o : Draft) (d : ℕ) (name : Name) → is_leaf_name o d name ≡ true → IsDataOf o d name
unfolding named
leaf_named o d name h = by_found (named o name) refl h
  where
    by_found : (x : Option Seat) → named o name ≡ x → unwrap_or (option_map (λ (t : Seat). is_of_dim d t && is_data_leaf o t) x) false ≡ true → IsDataOf o d name
    by_found None is e = absurd (true≢false (sym e))
    by_found (Some t) is e = by_seat o d name t (found_passes (own_is o name) (seats o) t is) e

-- ---- each leaf of a stored hierarchy

module _ (o : Draft) (kept : broken o ≡ None) (d : ℕ) (low : d < length o.dims) where
  abbrev IsPlaced : ℕ → ℕ → Type 0
  IsPlaced h i = (k : ℕ) × (k < leaf_count o d) × (leaf_place o d h k ≡ Some i)

  module _ (h i : ℕ) (stored : is_dynamic o (Inner d h i) ≡ false) (leaf : is_leaf (parents_of (tree (dim_at o d) h)) i ≡ true) where
    within : i < length (tree (dim_at o d) h)
    within = leaf_within (tree (dim_at o d) h) i leaf

    kind : breaks_kinds o (Inner d h i) ≡ false
    kind = none_at o (breaks_kinds o) (kept_kinds o kept) (Inner d h i) within

    plain : has_formula o (Inner d h i) ≡ false
    plain = plain_kind (is_dynamic o (Inner d h i)) (has_formula o (Inner d h i)) _ _ stored kind

    shared : is_alternate (Inner d h i) ≡ true → is_shared o (Inner d h i) ≡ true
    shared other =
        shared_kind (is_dynamic o (Inner d h i)) (is_stored_kind o (Inner d h i)) (is_alternate (Inner d h i) && is_childless o (Inner d h i)) (has_formula o (Inner d h i)) (is_shared o (Inner d h i)) stored
        (and_from (is_alternate (Inner d h i)) (is_childless o (Inner d h i)) other leaf) kind

  own_ordinal : (p : ℕ) → is_data_place (tree (dim_at o d) 0) p ≡ true → (k : ℕ) × (k < leaf_count o d) × (get_or (data_leaves (dim_at o d)) k 0 ≡ p)
  own_ordinal p is =
      let t = tree (dim_at o d) 0 in
      place_of_passing (is_data_place t) (length t) p (leaf_within t p (and_left (is_leaf (parents_of t) p) _ is)) is

  first_placed : (i : ℕ) → is_dynamic o (Inner d 0 i) ≡ false → is_leaf (parents_of (tree (dim_at o d) 0)) i ≡ true → IsPlaced 0 i
  first_placed i stored leaf =
      let t = tree (dim_at o d) 0 in
      let m = some_at t i (within 0 i stored leaf) in
      let none : is_some m.0.formula ≡ false = sym (test_there (λ (x : DraftMember). is_some x.formula) t i m.0 m.1) ∙ plain 0 i stored leaf in
      let pass = and_from (is_leaf (parents_of t) i) _ leaf (test_there (λ (x : DraftMember). is_none x.formula) t i m.0 m.1 ∙ no_formula m.0.formula none) in
      let k = own_ordinal i pass in
      (k.0, k.1, slice_get-get_or (data_leaves (dim_at o d)) k.0 0 k.1 ∙ ap (λ (x : ℕ). Some x) k.2)

  other_placed : (h i : ℕ) → suc h < length (dim_at o d).hiers → is_dynamic o (Inner d (suc h) i) ≡ false → is_leaf (parents_of (tree (dim_at o d) (suc h))) i ≡ true → IsPlaced (suc h) i
  other_placed h i there stored leaf =
      let t = tree (dim_at o d) (suc h) in
      let first = tree (dim_at o d) 0 in
      let m = some_at t i (within (suc h) i stored leaf) in
      let mark : m.0.shared ≡ true = sym (test_there (λ (x : DraftMember). x.shared) t i m.0 m.1) ∙ shared (suc h) i stored leaf refl in
      let well : is_well_shared o (Inner d (suc h) i) ≡ true = well_shared o (kept_sharing o kept) d (suc h) i m.0 m.1 mark in
      let named_well : is_leaf_name o d (name_at o (Inner d (suc h) i)) ≡ true = and_left (is_leaf_name o d (name_at o (Inner d (suc h) i))) _ (and_right (is_childless o (Inner d (suc h) i)) _ (and_right (is_alternate (Inner d (suc h) i)) _ well)) in
      let own = leaf_named o d (name_at o (Inner d (suc h) i)) named_well in
      let k = own_ordinal own.0 own.1 in
      let name : Name = name_in first own.0 in
      let p = some_at first own.0 (leaf_within first own.0 (and_left (is_leaf (parents_of first) own.0) _ own.1)) in
      let same : m.0.name ≡ name = sym (name_there t i m.0 m.1) ∙ sym own.2 in
      let its : slice_get (leaf_names (dim_at o d)) k.0 ≡ Some name = leaf_name_is o d k.0 k.1 ∙ ap (λ (x : ℕ). Some (name_in first x)) k.2 in
      let found : leaf_place o d (suc h) k.0 ≡ position (shares name) t = ap (option_and_then (λ (q : Name). position (shares q) t)) its in
      (k.0, k.1, found ∙ only_sharer o (kept_names o kept) (kept_sharing o kept) d own.0 name low p.0 p.1 (sym (name_there first own.0 p.0 p.1)) (omega (arith, there)) h i m.0 there stored m.1 same)

  leaf_placed : (h i : ℕ) → h < length (dim_at o d).hiers → is_dynamic o (Inner d h i) ≡ false → is_leaf (parents_of (tree (dim_at o d) h)) i ≡ true → IsPlaced h i
  leaf_placed zero i there stored leaf = first_placed i stored leaf
  leaf_placed (suc h) i there stored leaf = other_placed h i there stored leaf

  -- each class of a stored hierarchy is that of a data leaf
  high_class : (h level class : ℕ) → h < length (dim_at o d).hiers → is_dynamic o (Inner d h 0) ≡ false → 0 < level → class < class_count (parents_of (tree (dim_at o d) h)) level → HasLeaf o d h level class
  high_class h level class there stored above below =
      let ps = parents_of (tree (dim_at o d) h) in
      let l = leaf_of_class ps ((has_trees o kept).tree (Inner d h 0)) level class below in
      let k = leaf_placed h l.0 there stored l.2 in
      (k.0, k.1, class_high o d h level k.0 above ∙ (ap (option_and_then (class_of ps level)) k.2 ∙ l.3))

  pub class_has_leaf : (h level class : ℕ) → h < length (dim_at o d).hiers → is_dynamic o (Inner d h 0) ≡ false → class < classes_at o d h level → HasLeaf o d h level class
  class_has_leaf h zero class there stored below = (class, below, refl)
  class_has_leaf h (suc level) class there stored below = high_class h (suc level) class there stored (omega arith) below

-- no level has more classes than there are data leaves
pub classes_few : (o : Draft) (d h level : ℕ) → ((class : ℕ) → class < classes_at o d h level → HasLeaf o d h level class) → classes_at o d h level ≤ classes_at o d h 0
classes_few o d h level each = no_more (class_at o d h level) (leaf_count o d) (classes_at o d h level) each
