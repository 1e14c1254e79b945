-- A value rests on the stored tuples that are reached alone.
use Rattle.std.proofs.Common.{◌≡◌, ◌∙◌, ◌⊎◌, ⊎_elim, inl, inr, ℕ, zero, suc, Bool, true, false, not, ◌||◌, ◌&&◌, true≢false, List, [], ◌∷◌, ◌++◌, map, Option, Some, None, refl, sym, ap, subst}
use Rattle.std.specs.Prelude.{slice_get, slice_index, unwrap_or, set, if◌then◌else◌, Ok, Err}
use Rattle.std.specs.Option.{option_map}
use Rattle.std.specs.List.{filter, flat_map, fold, list_all, list_any}
use Rattle.std.specs.Cmp.Lexicographic.{bytes_decides}
use Rattle.std.specs.Str.{bytes_eq}
use Rattle.std.proofs.lemmas.List.Concat.{flat_map-cons}
use Rattle.std.proofs.lemmas.Option.{none-some, same_Some}
use mathlib.Core.Former.{Count}
use Rattle.aso_num.specs.declared.value.Val.{Val}
use Rattle.aso_num.specs.declared.value.Val.TheVariants.{Missing}
use Rattle.aso_num.specs.Numbers.{ranged}
use Rattle.aso_outline.specs.declared.draft.Draft.{Draft}
use Rattle.aso_outline.specs.declared.draft.Op.{Op}
use Rattle.aso_outline.specs.declared.draft.Op.TheVariants.{Plus, Minus, Times, Over, Skip}
use Rattle.aso_outline.specs.declared.draft.Tuple.{Tuple}
use Rattle.aso_outline.specs.declared.draft.Expr.{Expr, Num, Cell, Neg', Bin'}
use Rattle.aso_outline.specs.declared.draft.Expr.TheBlock.{Row_of-Expr, end_of-Expr, more_of-Expr}
use Rattle.aso_outline.specs.Atoms.{Atom, atoms, atoms_of_row}
use Rattle.aso_outline.specs.Marks.{op_of}
use Rattle.aso_outline.specs.Numbers.{seat_of}
use Rattle.aso_outline.specs.Rules.{is_skip}
use Rattle.aso_calc.specs.Keys.{key_of}
use Rattle.aso_calc.specs.Needs.{Agree, Suffice, has, is_counted, needed, noted, operands, reached, reached_step, reached_within, with_attrs}
use Rattle.aso_calc.specs.Values.{Outcome, Own, applied, children_at, children_value, formula_at, formula_value, negated, ranks_of, replaced, resolved, row_value, unfolded, unfolding_of, value, value_step, value_within}
use Rattle.aso_calc.proofs.ListingLemmas.{all_there}
use Rattle.aso_calc.proofs.StoredLemmas.{same_key}

-- it holds of each element
abbrev pub Each : {X : Type 0} → (X → Type 0) → List X → Type 0
Each P [] = Unit {0}
Each P (x ∷ xs) = P x × Each P xs

pub each_front : {X : Type 0} (P : X → Type 0) (xs ys : List X) → Each P (xs ++ ys) → Each P xs
each_front P [] ys all = tt
each_front P (x ∷ xs) ys all = (all.0, each_front P xs ys all.1)

pub each_back : {X : Type 0} (P : X → Type 0) (xs ys : List X) → Each P (xs ++ ys) → Each P ys
each_back P [] ys all = all
each_back P (x ∷ xs) ys all = each_back P xs ys all.1

-- of each list that is put together
pub each_flat : {X Y : Type 0} (P : Y → Type 0) (f : X → List Y) (xs : List X) → Each P (flat_map f xs) → Each (λ x. Each P (f x)) xs
each_flat P f [] all = tt
each_flat P f (x ∷ xs) all =
    let split : Each P (f x ++ flat_map f xs) = subst (Each P) (flat_map-cons f x xs) all in
    (each_front P (f x) (flat_map f xs) split, each_flat P f xs (each_back P (f x) (flat_map f xs) split))

pub each_mapped : {X Y : Type 0} (P : Y → Type 0) (f : X → Y) (xs : List X) → Each P (map f xs) → Each (λ x. P (f x)) xs
each_mapped P f [] all = tt
each_mapped P f (x ∷ xs) all = (all.0, each_mapped P f xs all.1)

pub each_more : {X : Type 0} (P Q : X → Type 0) → ((x : X) → P x → Q x) → (xs : List X) → Each P xs → Each Q xs
each_more P Q more [] all = tt
each_more P Q more (x ∷ xs) all = (more x all.0, each_more P Q more xs all.1)

each_filtered : {X : Type 0} (P : X → Type 0) (t : X → Bool) (xs : List X) → Each P (filter t xs) → Each (λ x. t x ≡ true → P x) xs
each_filtered {X = X} P t [] all = tt
each_filtered {X = X} P t (x ∷ xs) all = by_test (λ rest. each_filtered P t xs rest) (t x) refl all
  where
    by_test : (Each P (filter t xs) → Each (λ (y : X). t y ≡ true → P y) xs) → (b : Bool) → t x ≡ b → Each P (if b then x ∷ filter t xs else filter t xs) → (t x ≡ true → P x) × Each (λ (y : X). t y ≡ true → P y) xs
    by_test more true is both = ((λ _. both.0), more both.1)
    by_test more false is rest = ((λ at. absurd (true≢false (sym at ∙ is))), more rest)

-- ---- values of formulas and of parents from those of their operands

module _ (f g : Atom → Outcome) where
  abbrev Same : Atom → Type 0
  Same a = f a ≡ g a

  mutual
    pub formula_same : (e : Expr) → Each Same (atoms e) → formula_value f e ≡ formula_value g e
    formula_same (Num z) all = refl
    formula_same (Cell names) all = all.0
    formula_same (Neg' p e) all = ap negated (row_same 1 e all)
    formula_same (Bin' op p left q right) all =
        ap (λ (r : Outcome). applied op r (row_value f 1 right)) (row_same 1 left (each_front Same (atoms_of_row 1 left) (atoms_of_row 1 right) all))
        ∙ ap (λ (r : Outcome). applied op (row_value g 1 left) r) (row_same 1 right (each_back Same (atoms_of_row 1 left) (atoms_of_row 1 right) all))

    row_same : (k : Count) (row : Row_of-Expr k) → Each Same (atoms_of_row k row) → row_value f k row ≡ row_value g k row
    row_same _ end_of-Expr all = refl
    row_same _ (more_of-Expr e rest) all = formula_same e (each_front Same (atoms e) (atoms_of_row _ rest) all)

applied_same : (op : Op) (r a b : Outcome) → (not (is_skip op) ≡ true → a ≡ b) → applied op r a ≡ applied op r b
applied_same Skip r a b same = refl
applied_same Plus r a b same = ap (applied Plus r) (same refl)
applied_same Minus r a b same = ap (applied Minus r) (same refl)
applied_same Times r a b same = ap (applied Times r) (same refl)
applied_same Over r a b same = ap (applied Over r) (same refl)

children_same : (op : ℕ → Op) (f g : ℕ → Outcome) (ks : List ℕ) → Each (λ k. not (is_skip (op k)) ≡ true → f k ≡ g k) ks → (r : Outcome) → fold (λ r k. applied (op k) r (f k)) r ks ≡ fold (λ r k. applied (op k) r (g k)) r ks
children_same op f g [] all r = refl
children_same op f g (k ∷ ks) all r =
    ap (λ (x : Outcome). fold (λ r k. applied (op k) r (f k)) x ks) (applied_same (op k) r (f k) (g k) all.0) ∙ children_same op f g ks all.1 (applied (op k) r (g k))

module _ (o : Draft) (own : Own) where
  -- an unfolding rests on its operands
  pub unfolding_same : (f g : List ℕ → Outcome) (base : List ℕ) (d : ℕ) → Each (λ b. f b ≡ g b) (operands o own base d) → unfolding_of o own f base d ≡ unfolding_of o own g base d
  unfolding_same f g base d all = by_formula (formula_at o own (slice_index base d)) all
    where
      children : List ℕ
      children = children_at o (slice_index base d)

      by_formula : (e : Option Expr) → Each (λ b. f b ≡ g b) (unwrap_or (option_map (λ (x : Expr). map (replaced o base) (atoms x)) e) (map (set base d) (filter (is_counted o) children)))
          → unwrap_or (option_map (formula_value (λ names. f (replaced o base names))) e) (children_value (λ k. op_of o (seat_of o k)) (λ k. f (set base d k)) children)
          ≡ unwrap_or (option_map (formula_value (λ names. g (replaced o base names))) e) (children_value (λ k. op_of o (seat_of o k)) (λ k. g (set base d k)) children)
      by_formula (Some e) same = formula_same (λ names. f (replaced o base names)) (λ names. g (replaced o base names)) e (each_mapped (λ b. f b ≡ g b) (replaced o base) (atoms e) same)
      by_formula None same =
          children_same (λ k. op_of o (seat_of o k)) (λ k. f (set base d k)) (λ k. g (set base d k)) children
          (each_filtered (λ k. f (set base d k) ≡ g (set base d k)) (is_counted o) children (each_mapped (λ b. f b ≡ g b) (set base d) (filter (is_counted o) children) same)) (Ok Missing)

  module _ (s u : List ℕ → Val) where
    abbrev Alike : List ℕ → Type 0
    Alike b = s b ≡ u b

    step_same : (f g : List ℕ → Outcome) (r : List ℕ → List (List ℕ)) → ((b : List ℕ) → Each Alike (r b) → f b ≡ g b) → (base : List ℕ) → Each Alike (reached_step o own r base) → value_step o own s f base ≡ value_step o own u g base
    step_same f g r same base all = by_choice (unfolded o own base) all
      where
        by_choice : (d : Option ℕ) → Each Alike (unwrap_or (option_map (λ d. flat_map r (operands o own base d)) d) (base ∷ []))
            → unwrap_or (option_map (unfolding_of o own f base) d) (ranged (s base)) ≡ unwrap_or (option_map (unfolding_of o own g base) d) (ranged (u base))
        by_choice None all = ap ranged all.0
        by_choice (Some d) all = unfolding_same f g base d (each_more (λ b. Each Alike (r b)) (λ b. f b ≡ g b) same (operands o own base d) (each_flat Alike r (operands o own base d) all))

    pub within_same : (ranks : ℕ) (base : List ℕ) → Each Alike (reached_within ranks o own base) → value_within ranks o own s base ≡ value_within ranks o own u base
    within_same zero base all = ap ranged all.0
    within_same (suc ranks) base all = step_same (value_within ranks o own s) (value_within ranks o own u) (reached_within ranks o own) (within_same ranks) (resolved o base) all

-- ---- what is listed

or_split : (a b : Bool) → (a || b) ≡ true → (a ≡ true) ⊎ (b ≡ true)
or_split true b e = inl refl
or_split false b e = inr e

and_front : (a b : Bool) → (a && b) ≡ true → a ≡ true
and_front true b is = refl
and_front false b is = is

and_behind : (a b : Bool) → (a && b) ≡ true → b ≡ true
and_behind true b is = is
and_behind false b is = absurd (true≢false (sym is))

module _ (s u : Tuple → Val) where
  agree_there : (found : List Tuple) (t : Tuple) → Agree s u found → has found t ≡ true → s t ≡ u t
  agree_there [] t agree there = absurd (true≢false (sym there))
  agree_there (x ∷ found) t agree there =
      ⊎_elim
      (λ (same : bytes_eq (key_of t.base t.attrs) (key_of x.base x.attrs) ≡ true).
      let is : t ≡ x = same_key t x ((bytes_decides (key_of t.base t.attrs) (key_of x.base x.attrs)).0 same) in
      ap s is ∙ (agree 0 x refl ∙ sym (ap u is)))
      (λ (later : has found t ≡ true). agree_there found t (λ k y at. agree (suc k) y at) later)
      (or_split (bytes_eq (key_of t.base t.attrs) (key_of x.base x.attrs)) (has found t) there)

  all_agree : (found xs : List Tuple) → Agree s u found → list_all (has found) xs ≡ true → Each (λ t. s t ≡ u t) xs
  all_agree found [] agree there = tt
  all_agree found (x ∷ xs) agree there =
      (agree_there found x agree (and_front (has found x) (list_all (has found) xs) there), all_agree found xs agree (and_behind (has found x) (list_all (has found) xs) there))

at_place : {X : Type 0} (P : X → Type 0) (xs : List X) → Each P xs → (k : ℕ) (x : X) → slice_get xs k ≡ Some x → P x
at_place P [] all k x at = absurd (none-some x at)
at_place P (y ∷ xs) all zero x at = subst P (same_Some y x at) all.0
at_place P (y ∷ xs) all (suc k) x at = at_place P xs all.1 k x at

-- those that are needed suffice
pub needed_suffice : (o : Draft) (own : Own) (found ts : List Tuple) → found ≡ needed o own ts → Suffice o own found ts
unfolding needed value
needed_suffice o own found ts is s u agree k t at =
    let every : List Tuple = flat_map (reached o own) ts in
    let there : list_all (has found) every ≡ true = subst (λ (xs : List Tuple). list_all (has xs) every ≡ true) (sym is) (all_there every []) in
    let each : Each (λ x. Each (λ y. s y ≡ u y) (reached o own x)) ts = each_flat (λ y. s y ≡ u y) (reached o own) ts (all_agree s u found every agree there) in
    let mine : Each (λ y. s y ≡ u y) (reached o own t) = at_place (λ x. Each (λ y. s y ≡ u y) (reached o own x)) ts each k t at in
    within_same o own (λ base. s (with_attrs t.attrs base)) (λ base. u (with_attrs t.attrs base)) (ranks_of o own t.base) t.base
    (each_mapped (λ y. s y ≡ u y) (with_attrs t.attrs) (reached_within (ranks_of o own t.base) o own t.base) mine)
