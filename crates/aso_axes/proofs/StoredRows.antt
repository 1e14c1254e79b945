-- A set that breaks no rule of dimensions has only members that may be there.
use Rattle.std.specs.Prelude.{if◌then◌else◌}
use Rattle.std.specs.Option.{option_map, option_or}
use Rattle.std.specs.List.{flat_map, list_all, find as first}
use Rattle.std.proofs.Common.{◌≡◌, ◌∙◌, ℕ, Bool, true, false, not, ◌&&◌, List, [], ◌∷◌, ◌++◌, map, Option, Some, None, refl, sym, ap, subst, true≢false}
use Rattle.std.proofs.lemmas.Bool.{and_from}
use Rattle.std.proofs.lemmas.Option.{none-some}
use Rattle.std.proofs.lemmas.List.Folds.{list_all-append}
use Rattle.aso_outline.specs.declared.draft.Draft.{Draft}
use Rattle.aso_outline.specs.declared.seat.DimRef.{DimRef}
use Rattle.aso_outline.specs.Members.{Name}
use Rattle.aso_outline.proofs.Smalls.{and_left, and_right}
use Rattle.aso_mdx.specs.declared.query.SetText.{SetText, roll-SetText}
use Rattle.aso_mdx.specs.declared.query.SetText.TheOpen.{SetText-F}
use Rattle.aso_mdx.specs.declared.query.SetText.TheFolds.{ind-SetText, map-SetText}
use Rattle.aso_mdx.specs.declared.query.SetText.TheVariants.{Braced, Member, Tuple, Children, Members, Descendants, Leaves, Crossjoin, rolls-Braced, rolls-Member, rolls-Tuple, rolls-Children, rolls-Members, rolls-Descendants, rolls-Leaves, rolls-Crossjoin}
use Rattle.aso_axes.specs.declared.part.Part.{Part}
use Rattle.aso_axes.specs.declared.part.Part.TheVariants as part
use Rattle.aso_axes.specs.declared.part.Purpose.{Purpose}
use Rattle.aso_axes.specs.Answers.{IsPlaced}
use Rattle.aso_axes.specs.Members.{Own, given, is_own, may_have, name_of}
use Rattle.aso_axes.specs.Sets.{Path, Said, alone, crossed, dim_at, first_refused, given_rows, is_misplaced, member_at, past, rows_of, said_of, said_of_items, told, too_short, wrong_items, wrong_member, wrong_tuple}
use Rattle.aso_axes.proofs.SetSteps.{rows_braced, rows_member, rows_tuple, rows_children, rows_members, rows_descendants, rows_leaves, rows_crossjoin, said_braced, said_member, said_tuple, said_children, said_members, said_descendants, said_leaves, said_crossjoin}

or_left : {X : Type 0} (a b : Option X) → option_or a b ≡ None → a ≡ None
or_left (Some x) b h = absurd (none-some x (sym h))
or_left None b h = refl

or_right : {X : Type 0} (a b : Option X) → option_or a b ≡ None → b ≡ None
or_right (Some x) b h = absurd (none-some x (sym h))
or_right None b h = h

none_mapped : {X Y : Type 0} (f : X → Y) (x : Option X) → option_map f x ≡ None → x ≡ None
none_mapped f (Some x) h = absurd (none-some (f x) (sym h))
none_mapped f None h = refl

none_fails : (p : ℕ → Bool) (xs : List ℕ) → first (λ n. not (p n)) xs ≡ None → list_all p xs ≡ true
none_fails p [] h = refl
none_fails p (x ∷ xs) h = by_test (λ rest. none_fails p xs rest) (p x) h
  where
    by_test : (first (λ n. not (p n)) xs ≡ None → list_all p xs ≡ true) → (b : Bool) → (if not b then Some x else first (λ n. not (p n)) xs) ≡ None → (b && list_all p xs) ≡ true
    by_test later true e = later e
    by_test later false e = absurd (none-some x (sym e))

not_taken : {X : Type 0} (b : Bool) (x : X) (rest : Option X) → (if b then Some x else rest) ≡ None → rest ≡ None
not_taken true x rest h = absurd (none-some x (sym h))
not_taken false x rest h = h

either_one : (b : Bool) (n : ℕ) → (if b then (n ∷ []) else (n ∷ [])) ≡ (n ∷ [])
either_one true n = refl
either_one false n = refl

each_alone : (p : ℕ → Bool) (xs : List ℕ) → list_all p xs ≡ true → list_all (list_all p) (map alone xs) ≡ true
each_alone p [] h = refl
each_alone p (x ∷ xs) h = and_from (p x && true) _ (and_from (p x) true (and_left (p x) _ h) refl) (each_alone p xs (and_right (p x) _ h))

all_joined : {X : Type 0} (p : X → Bool) (xs ys : List X) → list_all p xs ≡ true → list_all p ys ≡ true → list_all p (xs ++ ys) ≡ true
all_joined p xs ys h k = list_all-append p xs ys ∙ and_from (list_all p xs) (list_all p ys) h k

each_behind : (p : ℕ → Bool) (x : List ℕ) (r : List (List ℕ)) → list_all p x ≡ true → list_all (list_all p) r ≡ true → list_all (list_all p) (map (λ (y : List ℕ). x ++ y) r) ≡ true
each_behind p x [] h k = refl
each_behind p x (y ∷ r) h k = and_from (list_all p (x ++ y)) _ (all_joined p x y h (and_left (list_all p y) _ k)) (each_behind p x r h (and_right (list_all p y) _ k))

each_crossed : (p : ℕ → Bool) (l r : List (List ℕ)) → list_all (list_all p) l ≡ true → list_all (list_all p) r ≡ true → list_all (list_all p) (crossed l r) ≡ true
each_crossed p [] r h k = refl
each_crossed p (x ∷ l) r h k =
    all_joined (list_all p) (map (λ (y : List ℕ). x ++ y) r) (crossed l r) (each_behind p x r (and_left (list_all p x) _ h) k) (each_crossed p l r (and_right (list_all p x) _ h) k)

module _ (o : Draft) (own : Own) (u : Purpose) where
  abbrev may : List ℕ → Bool
  may row = list_all (may_have o u) row

  abbrev Fits : SetText → Type 0
  Fits set = (before : List DimRef) (wanted : Option (List DimRef)) → (said_of o own u set).wrong before wanted ≡ None → list_all may (rows_of o own set) ≡ true

  module _ (p : Path) (k : Part) (before : List DimRef) (wanted : Option (List DimRef)) where
    given_may : wrong_member o own u k p before wanted ≡ None → list_all (may_have o u) (given o k (member_at o own p)) ≡ true
    given_may h =
        none_fails (may_have o u) (given o k (member_at o own p))
        (none_mapped (name_of o own) (first (λ n. not (may_have o u n)) (given o k (member_at o own p))) (not_taken (is_misplaced o own k p before wanted) (told o own p) (first_refused o own u k p) h))

    rows_may : wrong_member o own u k p before wanted ≡ None → list_all may (given_rows o own k p) ≡ true
    rows_may h = each_alone (may_have o u) (given o k (member_at o own p)) (given_may h)

  tuple_may : (ps : List Path) (before : List DimRef) (wanted : Option (List DimRef)) → wrong_tuple o own u ps before wanted ≡ None → list_all (may_have o u) (map (member_at o own) ps) ≡ true
  tuple_may [] before wanted h = refl
  tuple_may (p ∷ ps) before wanted h =
      let one : wrong_member o own u part.Itself p before wanted ≡ None = or_left _ _ h in
      let given_one : list_all (may_have o u) (member_at o own p ∷ []) ≡ true = sym (ap (list_all (may_have o u)) (either_one (is_own o (member_at o own p)) (member_at o own p))) ∙ given_may p part.Itself before wanted one in
      and_from (may_have o u (member_at o own p)) _ (and_left (may_have o u (member_at o own p)) true given_one) (tuple_may ps (before ++ dim_at o own p ∷ []) (past 1 wanted) (or_right (wrong_member o own u part.Itself p before wanted) _ h))

  items_may : (es : List ((s : SetText) × Fits s)) (before wanted : List DimRef) → wrong_items o own before wanted (map (said_of o own u) (map (λ e. e.0) es)) ≡ None
      → list_all may (flat_map (rows_of o own) (map (λ e. e.0) es)) ≡ true
  items_may [] before wanted h = refl
  items_may (e ∷ es) before wanted h =
      let s : Said = said_of o own u e.0 in
      let rest : option_or (s.wrong before (Some wanted)) (wrong_items o own before wanted (map (said_of o own u) (map (λ x. x.0) es))) ≡ None = or_right (too_short o own wanted s) _ h in
      all_joined may (rows_of o own e.0) (flat_map (rows_of o own) (map (λ x. x.0) es)) (e.1 before (Some wanted) (or_left (s.wrong before (Some wanted)) _ rest)) (items_may es before wanted (or_right (s.wrong before (Some wanted)) _ rest))

  braces_may : (es : List ((s : SetText) × Fits s)) (before : List DimRef) (wanted : Option (List DimRef)) → (said_of_items o own (map (said_of o own u) (map (λ e. e.0) es))).wrong before wanted ≡ None
      → list_all may (flat_map (rows_of o own) (map (λ e. e.0) es)) ≡ true
  braces_may [] before wanted h = refl
  braces_may (e ∷ es) before wanted h =
      let s : Said = said_of o own u e.0 in
      all_joined may (rows_of o own e.0) (flat_map (rows_of o own) (map (λ x. x.0) es)) (e.1 before wanted (or_left (s.wrong before wanted) _ h)) (items_may es before s.dims (or_right (s.wrong before wanted) _ h))

  -- of a set whose tuples and wrong names are these
  from_parts : (set : SetText) (rows : List (List ℕ)) (said : Said) → rows_of o own set ≡ rows → said_of o own u set ≡ said
      → ((before : List DimRef) (wanted : Option (List DimRef)) → said.wrong before wanted ≡ None → list_all may rows ≡ true) → Fits set
  from_parts set rows said are is fits before wanted h = ap (list_all may) are ∙ fits before wanted (sym (ap (λ (s : Said). s.wrong before wanted) is) ∙ h)

  fits_step : (x : SetText-F SetText) (y : SetText-F ((s : SetText) × Fits s)) → map-SetText ((s : SetText) × Fits s) SetText (λ e. e.0) y ≡ x → Fits (roll-SetText x)
  fits_step x (SetText-F.Braced es) is =
      let all : List SetText = map (λ e. e.0) es in
      subst (λ (z : SetText-F SetText). Fits (roll-SetText z)) is (subst Fits (sym (rolls-Braced all)) (from_parts (Braced all) _ _ (rows_braced o own all) (said_braced o own u all) (braces_may es)))
  fits_step x (SetText-F.Member p) is =
      subst (λ (z : SetText-F SetText). Fits (roll-SetText z)) is (subst Fits (sym (rolls-Member p)) (from_parts (Member p) _ _ (rows_member o own p) (said_member o own u p) (rows_may p part.Itself)))
  fits_step x (SetText-F.Tuple ps) is =
      subst (λ (z : SetText-F SetText). Fits (roll-SetText z)) is (subst Fits (sym (rolls-Tuple ps)) (from_parts (Tuple ps) _ _ (rows_tuple o own ps) (said_tuple o own u ps)
      (λ before wanted h. and_from (may (map (member_at o own) ps)) true (tuple_may ps before wanted h) refl)))
  fits_step x (SetText-F.Children p) is =
      subst (λ (z : SetText-F SetText). Fits (roll-SetText z)) is (subst Fits (sym (rolls-Children p)) (from_parts (Children p) _ _ (rows_children o own p) (said_children o own u p) (rows_may p part.Children)))
  fits_step x (SetText-F.Members p) is =
      subst (λ (z : SetText-F SetText). Fits (roll-SetText z)) is (subst Fits (sym (rolls-Members p)) (from_parts (Members p) _ _ (rows_members o own p) (said_members o own u p) (rows_may p part.Members)))
  fits_step x (SetText-F.Descendants p) is =
      subst (λ (z : SetText-F SetText). Fits (roll-SetText z)) is (subst Fits (sym (rolls-Descendants p)) (from_parts (Descendants p) _ _ (rows_descendants o own p) (said_descendants o own u p) (rows_may p part.Descendants)))
  fits_step x (SetText-F.Leaves p) is =
      subst (λ (z : SetText-F SetText). Fits (roll-SetText z)) is (subst Fits (sym (rolls-Leaves p)) (from_parts (Leaves p) _ _ (rows_leaves o own p) (said_leaves o own u p) (rows_may p part.Leaves)))
  fits_step x (SetText-F.Crossjoin l r) is =
      subst (λ (z : SetText-F SetText). Fits (roll-SetText z)) is (subst Fits (sym (rolls-Crossjoin l.0 r.0)) (from_parts (Crossjoin l.0 r.0) _ _ (rows_crossjoin o own l.0 r.0) (said_crossjoin o own u l.0 r.0)
      (λ before wanted h.
      let a : Said = said_of o own u l.0 in
      let b : Said = said_of o own u r.0 in
      each_crossed (may_have o u) (rows_of o own l.0) (rows_of o own r.0) (l.1 before wanted (or_left (a.wrong before wanted) _ h)) (r.1 _ _ (or_right (a.wrong before wanted) _ h)))))

  pub members_may : (set : SetText) → IsPlaced o own u set → list_all (list_all (may_have o u)) (rows_of o own set) ≡ true
  members_may set placed = ind-SetText Fits fits_step set [] None placed.1

  -- the tuples of a set that are made
  pub made_may : (set : SetText) (rows : List (List ℕ)) → IsPlaced o own u set → rows ≡ rows_of o own set → list_all (list_all (may_have o u)) rows ≡ true
  made_may set rows placed are = ap (list_all (list_all (may_have o u))) are ∙ members_may set placed
