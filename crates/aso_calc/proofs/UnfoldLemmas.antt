-- The value of coordinates that belong is that of its own unfolding.
use Rattle.std.proofs.Common.{◌≡◌, ◌≢◌, ◌∙◌, ◌⊎◌, ⊎_elim, inl, inr, ℕ, zero, suc, ◌+◌, ◌-◌, ◌<◌, ◌≤◌, ◌&&◌, Bool, true, false, not, eqb, List, [], ◌∷◌, length, map, get_or, set, length-set, get_or-set_other, get_or-set_same, Option, Some, None, refl, sym, ap, subst, arith, true≢false}
use Rattle.std.specs.Prelude.{slice_get, slice_index, unwrap_or, nat_lt, ◌==◌, if◌then◌else◌}
use Rattle.std.specs.Option.{option_map}
use Rattle.std.specs.List.{filter, last_or, list_all, range_with_len, sum}
use Rattle.std.proofs.lemmas.Bool.{cases_eq, eqb-true, eq-eqb, lt-ltb, le-ltb, ltb-true, ltb-false}
use Rattle.std.proofs.lemmas.Option.{none-some, same_Some, slice_get_within}
use Rattle.std.proofs.lemmas.List.FromFn.{get_or-map-range_with_len, length-map-range_with_len}
use Rattle.aso_tree.specs.Trees.{greatest, places_of}
use Rattle.aso_num.specs.declared.value.Val.{Val}
use Rattle.aso_num.specs.Numbers.{ranged}
use Rattle.aso_outline.specs.declared.draft.Draft.{Draft}
use Rattle.aso_outline.specs.declared.draft.Expr.{Expr}
use Rattle.aso_outline.specs.declared.draft.ExtraMember.{ExtraMember}
use Rattle.aso_outline.specs.declared.seat.Seat.{Seat}
use Rattle.aso_outline.specs.declared.seat.Seat.TheVariants.{Whole, Inner, Carried}
use Rattle.aso_outline.specs.Atoms.{Atom, atoms}
use Rattle.aso_outline.specs.Extend.{AreOwn, own_rank}
use Rattle.aso_outline.specs.declared.draft.DraftMember.{DraftMember}
use Rattle.aso_outline.specs.declared.row.Standing.{Standing}
use Rattle.aso_outline.specs.declared.row.Standing.TheVariants.{Computed}
use Rattle.aso_outline.specs.Members.{dim_at, is_computed, seats, tree}
use Rattle.aso_outline.specs.Numbers.{IsSeat, seat_of}
use Rattle.aso_outline.specs.Ranks.{at_number, children, formula_of, greatest_rank, is_child_place, is_label, is_of_dim, needs, number_in, operands_in, rank, rank_from, rank_of, standing_of}
use Rattle.aso_outline.specs.Rules.{broken, is_atom}
use Rattle.aso_outline.specs.Targets.{target_of}
use Rattle.aso_outline.proofs.ChildNumbers.{seat_there}
use Rattle.aso_outline.proofs.KnownRanks.{rank_follows}
use Rattle.aso_outline.proofs.Numbered.{numbered}
use Rattle.aso_outline.proofs.NumberLemmas.{number_inner}
use Rattle.aso_outline.proofs.Placed.{placed}
use Rattle.aso_calc.specs.Belongs.{Belongs, is_in}
use Rattle.aso_calc.specs.Needs.{is_counted, operands}
use Rattle.aso_calc.specs.Values.{Outcome, Own, children_at, computed_dims, formula_at, is_computed_at, is_own, last_greatest, operand_at, order_at, own_at, rank_at, ranks_of, replaced, resolved, target, unfolded, unfolding_of, value_at, value_step, value_within}
use Rattle.aso_calc.proofs.FallLemmas.{IsNamedIn, atoms_right, children_low, each_filter, each_passes, operand_named, operands_low, other_rank, own_low, own_low_operands, own_operand, sum_at, sum_less}
use Rattle.aso_calc.proofs.RestLemmas.{Each, each_more, each_mapped, unfolding_same}
use Rattle.aso_calc.proofs.TargetLemmas.{Stands, ranks, seat_is, standing_plain, standing_there, target_stands}

both : {X : Type 0} (P Q : X → Type 0) (xs : List X) → Each P xs → Each Q xs → Each (λ x. P x × Q x) xs
both P Q [] p q = tt
both P Q (x ∷ xs) p q = ((p.0, q.0), both P Q xs p.1 q.1)

put_together : {X Y : Type 0} (P : Y → Type 0) (f : X → Y) (xs : List X) → Each (λ x. P (f x)) xs → Each P (map f xs)
put_together P f [] all = tt
put_together P f (x ∷ xs) all = (all.0, put_together P f xs all.1)

-- what is found last passes the test
filtered_last : (t : ℕ → Bool) (xs : List ℕ) (start : Option ℕ) (P : ℕ → Type 0) (d : ℕ) → ((k : ℕ) → start ≡ Some k → P k) → Each P xs → last_or start (filter t xs) ≡ Some d → P d
filtered_last t [] start P d first all is = first d is
filtered_last t (x ∷ xs) start P d first all is =
    by_test (λ e. filtered_last t xs (Some x) P d (λ k h. subst P (same_Some x k h) all.0) all.1 e) (λ e. filtered_last t xs start P d first all.1 e) (t x) is
  where
    by_test : (last_or (Some x) (filter t xs) ≡ Some d → P d) → (last_or start (filter t xs) ≡ Some d → P d) → (b : Bool) → last_or start (if b then x ∷ filter t xs else filter t xs) ≡ Some d → P d
    by_test here later true e = here e
    by_test here later false e = later e

below_range : (n a : ℕ) → Each (λ k. k < a + n) (range_with_len a n)
below_range zero a = tt
below_range (suc n) a = (omega arith, each_more (λ k. k < a + 1 + n) (λ k. k < a + suc n) (λ k low. omega (arith, low)) (range_with_len (a + 1) n) (below_range n (a + 1)))

module _ (o : Draft) (own : Own) where
  -- the dimension that is unfolded is one of a computed member
  pub unfolded_is : (base : List ℕ) (d : ℕ) → unfolded o own base ≡ Some d → (d < length base) × (is_computed_at o (slice_index base d) ≡ true)
  unfolded_is base d is =
      filtered_last (λ e. order_at o own (slice_index base e) == greatest (map (λ e. order_at o own (slice_index base e)) (computed_dims o base))) (computed_dims o base) None
      (λ e. (e < length base) × (is_computed_at o (slice_index base e) ≡ true)) d (λ k h. absurd (none-some k h))
      (each_more (λ e. (is_computed_at o (slice_index base e) ≡ true) × (e < 0 + length base)) (λ e. (e < length base) × (is_computed_at o (slice_index base e) ≡ true)) (λ e h. (omega (arith, h.1), h.0)) (computed_dims o base)
      (each_filter (λ e. e < 0 + length base) (λ e. is_computed_at o (slice_index base e)) (places_of base) (below_range (length base) 0))) is

  -- members of the outline, and a query's own
  not_own : (n : ℕ) → n < length (seats o) → is_own o n ≡ false
  not_own n low = ap not (lt-ltb n (length (seats o)) low)

  abbrev pub Place : ℕ → ℕ → Type 0
  Place d n = ((s : Seat) × (slice_get (seats o) n ≡ Some s) × (is_of_dim d s ≡ true)) ⊎ ((m : ExtraMember) × (is_own o n ≡ true) × (own_at o own n ≡ Some m) × (d ≡ m.dim))

  place_of_member : (d n : ℕ) → is_in o own d n ≡ true → Place d n
  place_of_member d n is = by_own (is_own o n) refl is
    where
      by_member : (m : Option ExtraMember) → own_at o own n ≡ m → is_own o n ≡ true → unwrap_or (option_map (λ (m : ExtraMember). d == m.dim) m) false ≡ true → Place d n
      by_member None at owned e = absurd (true≢false (sym e))
      by_member (Some m) at owned e = inr (m, owned, at, eqb-true d m.dim e)

      by_seat : (s : Option Seat) → slice_get (seats o) n ≡ s → unwrap_or (option_map (is_of_dim d) s) false ≡ true → Place d n
      by_seat None at e = absurd (true≢false (sym e))
      by_seat (Some s) at e = inl (s, at, e)

      by_own : (b : Bool) → is_own o n ≡ b → (if b then unwrap_or (option_map (λ (m : ExtraMember). d == m.dim) (own_at o own n)) false else at_number (is_of_dim d) o n) ≡ true → Place d n
      by_own true owned e = by_member (own_at o own n) refl owned e
      by_own false inside e = by_seat (slice_get (seats o) n) refl e

  in_outline : (d n : ℕ) (s : Seat) → slice_get (seats o) n ≡ Some s → is_of_dim d s ≡ true → is_in o own d n ≡ true
  in_outline d n s at dim =
      ap (λ (b : Bool). if b then unwrap_or (option_map (λ (m : ExtraMember). d == m.dim) (own_at o own n)) false else at_number (is_of_dim d) o n) (not_own n (slice_get_within (seats o) n s at))
      ∙ (ap (λ (x : Option Seat). unwrap_or (option_map (is_of_dim d) x) false) at ∙ dim)

  rank_inside : (n : ℕ) → n < length (seats o) → rank_at o own n ≡ rank_of o n
  rank_inside n low = ap (λ (b : Bool). if b then unwrap_or (option_map (λ (m : ExtraMember). own_rank o m.dim (atoms m.formula)) (own_at o own n)) 0 else rank_of o n) (not_own n low)

  computed_inside : (n : ℕ) (s : Seat) → slice_get (seats o) n ≡ Some s → is_computed_at o n ≡ is_computed o s
  computed_inside n s at = ap (λ (b : Bool). if b then true else is_computed o (seat_of o n)) (not_own n (slice_get_within (seats o) n s at)) ∙ ap (is_computed o) (seat_is o n s at)

  target_inside : (n : ℕ) → n < length (seats o) → target o n ≡ target_of o n
  target_inside n low = ap (λ (b : Bool). if b then n else target_of o n) (not_own n low)

  formula_inside : (n : ℕ) (s : Seat) → slice_get (seats o) n ≡ Some s → formula_at o own n ≡ formula_of o s
  formula_inside n s at =
      ap (λ (b : Bool). if b then option_map (λ (m : ExtraMember). m.formula) (own_at o own n) else formula_of o (seat_of o n)) (not_own n (slice_get_within (seats o) n s at)) ∙ ap (formula_of o) (seat_is o n s at)

  children_inside : (n : ℕ) (s : Seat) → slice_get (seats o) n ≡ Some s → children_at o n ≡ children o n s
  children_inside n s at = ap (λ (b : Bool). if b then [] else children o n (seat_of o n)) (not_own n (slice_get_within (seats o) n s at)) ∙ ap (children o n) (seat_is o n s at)

  -- the children of a member are of its dimension
  abbrev pub IsMemberOf : ℕ → ℕ → Type 0
  IsMemberOf d k = (s : Seat) × (slice_get (seats o) k ≡ Some s) × (is_of_dim d s ≡ true)

  children_in : (d n : ℕ) (s : Seat) → slice_get (seats o) n ≡ Some s → is_of_dim d s ≡ true → Each (IsMemberOf d) (children o n s)
  children_in d n (Whole e) at dim = tt
  children_in d n (Carried a i) at dim = absurd (true≢false (sym dim))
  children_in d n (Inner e h i) at dim =
      let there : IsSeat o (Inner e h i) = placed o n (Inner e h i) at in
      let ms : List DraftMember = tree (dim_at o e) h in
      put_together (IsMemberOf d) (number_in n (Inner e h i)) (filter (is_child_place o (Inner e h i)) (places_of ms))
      (each_more (λ j. (is_child_place o (Inner e h i) j ≡ true) × (j < 0 + length ms)) (λ j. IsMemberOf d (number_in n (Inner e h i) j))
      (λ j x. (Inner e h j, number_inner o e h j (n - i + j) there.0 there.1 (omega (arith, x.1)) (omega (arith, numbered o n (Inner e h i) at)), dim)) (filter (is_child_place o (Inner e h i)) (places_of ms))
      (each_filter (λ j. j < 0 + length ms) (is_child_place o (Inner e h i)) (places_of ms) (below_range (length ms) 0)))

  module _ (kept : broken o ≡ None) (right : AreOwn o own) where
    computed_rank : (n : ℕ) → standing_of o n ≡ Computed → 0 < rank_of o n
    computed_rank n is = by_below (greatest_rank (map (rank o) (needs o n))) (ap (λ (st : Standing). rank_from st (greatest_rank (map (rank o) (needs o n)))) (sym is) ∙ (sym (rank_follows o n) ∙ (ranks o kept).known n))
      where
        by_below : (g : Option ℕ) → option_map (λ (r : ℕ). r + 1) g ≡ Some (rank_of o n) → 0 < rank_of o n
        by_below None e = absurd (none-some (rank_of o n) e)
        by_below (Some b) e = let same : b + 1 ≡ rank_of o n = same_Some (b + 1) (rank_of o n) e in omega (arith, same)

    -- a member that is resolved: in its dimension, of no greater rank, and no label where it is computed
    abbrev IsResolved : ℕ → ℕ → ℕ → Type 0
    IsResolved d n t = (is_in o own d t ≡ true) × (rank_at o own t ≤ rank_at o own n) × ((s : Seat) → slice_get (seats o) t ≡ Some s → is_computed o s ≡ true → is_label o s ≡ false)

    target_right : (d n : ℕ) → is_in o own d n ≡ true → IsResolved d n (target o n)
    target_right d n is = by_place (place_of_member d n is)
      where
        by_place : Place d n → IsResolved d n (target o n)
        by_place (inl h) =
            let low : n < length (seats o) = slice_get_within (seats o) n h.0 h.1 in
            let t = target_stands o kept d n h.0 h.1 h.2 in
            subst (IsResolved d n) (sym (target_inside n low)) (
              in_outline d (target_of o n) t.seat t.at t.dim,
              omega (arith, rank_inside n low, rank_inside (target_of o n) (slice_get_within (seats o) (target_of o n) t.seat t.at), t.rank),
              (λ s at computed. subst (λ (x : Seat). is_label o x ≡ false) (same_Some t.seat s (sym t.at ∙ at)) (t.plain (ap (is_computed o) (same_Some t.seat s (sym t.at ∙ at)) ∙ computed))),
            )
        by_place (inr h) =
            let same : target o n ≡ n = ap (λ (b : Bool). if b then n else target_of o n) h.1 in
            subst (IsResolved d n) (sym same) (is, omega arith, (λ s at computed. absurd (true≢false (sym h.1 ∙ not_own n (slice_get_within (seats o) n s at)))))

    module _ (base : List ℕ) (belongs : Belongs o own base) where
      abbrev place : List ℕ
      place = resolved o base

      long_place : length place ≡ length base
      long_place = length_mapped base
        where
          length_mapped : (xs : List ℕ) → length (map (target o) xs) ≡ length xs
          length_mapped [] = refl
          length_mapped (x ∷ xs) = ap suc (length_mapped xs)

      at_place : (d : ℕ) → d < length base → slice_index place d ≡ target o (slice_index base d)
      at_place d low = mapped base d low
        where
          mapped : (xs : List ℕ) (d : ℕ) → d < length xs → slice_index (map (target o) xs) d ≡ target o (slice_index xs d)
          mapped [] d low = absurd (omega (arith, low))
          mapped (x ∷ xs) zero low = refl
          mapped (x ∷ xs) (suc d) low = mapped xs d (omega (arith, low))

      resolved_right : (d : ℕ) → d < length base → IsResolved d (slice_index base d) (slice_index place d)
      resolved_right d low = subst (IsResolved d (slice_index base d)) (sym (at_place d low)) (target_right d (slice_index base d) (belongs.each d low))

      -- the coordinates of an operand
      module _ (d : ℕ) (low : d < length base) (new : List ℕ) (long : length new ≡ length base) (each : (e : ℕ) → e < length base → (is_in o own e (slice_index new e) ≡ true) × (rank_at o own (slice_index new e) ≤ rank_at o own (slice_index place e)))
          (less : rank_at o own (slice_index new d) < rank_at o own (slice_index place d)) where
        pub operand_belongs : Belongs o own new
        operand_belongs = record {
          long = long ∙ belongs.long;
          each = λ e within. (each e (omega (arith, within, long))).0;
        }

        pub operand_less : ranks_of o own new < ranks_of o own base
        operand_less =
            sum_less (rank_at o own) new base long
            (λ e within. let most : rank_at o own (slice_index new e) ≤ rank_at o own (slice_index place e) = (each e within).1 in let down : rank_at o own (slice_index place e) ≤ rank_at o own (slice_index base e) = (resolved_right e within).1 in omega (arith, most, down))
            d low (let down : rank_at o own (slice_index place d) ≤ rank_at o own (slice_index base d) = (resolved_right d low).1 in omega (arith, less, down))

      abbrev IsLess : List ℕ → Type 0
      IsLess new = Belongs o own new × (ranks_of o own new < ranks_of o own base)

      -- an atom's members in their places
      module _ (d : ℕ) (low : d < length base) (names : Atom) (fits : is_atom o d names ≡ true) (falls : Each (λ k. rank_of o k < rank_at o own (slice_index place d)) (operands_in o d names)) where
        abbrev new : List ℕ
        new = replaced o place names

        long_new : length new ≡ length base
        long_new = length-map-range_with_len (λ e. unwrap_or (operand_at o names e) (slice_index place e)) 0 (length place) ∙ long_place

        at_new : (e : ℕ) → e < length base → slice_index new e ≡ unwrap_or (operand_at o names e) (slice_index place e)
        at_new e within = get_or-map-range_with_len (λ e. unwrap_or (operand_at o names e) (slice_index place e)) 0 (length place) e e 0 (omega (arith, within, long_place)) (omega arith)

        each_new : (e : ℕ) → e < length base → (is_in o own e (slice_index new e) ≡ true) × (rank_at o own (slice_index new e) ≤ rank_at o own (slice_index place e))
        each_new e within = subst (λ (k : ℕ). (is_in o own e k ≡ true) × (rank_at o own k ≤ rank_at o own (slice_index place e))) (sym (at_new e within)) (by_operand (operand_at o names e) refl)
          where
            by_dim : (k : ℕ) → operand_at o names e ≡ Some k → IsNamedIn o d e k → (e ≡ d) ⊎ (e ≡ d → ⊥) → rank_at o own k ≤ rank_at o own (slice_index place e)
            by_dim k is h (inl same) =
                let less : rank_of o k < rank_at o own (slice_index place d) = own_low o d names fits (rank_at o own (slice_index place d)) falls k (ap (operand_at o names) (sym same) ∙ is) in
                omega (arith, rank_inside k h.0, less, ap (λ (f : ℕ). rank_at o own (slice_index place f)) same)
            by_dim k is h (inr other) = omega (arith, rank_inside k h.0, other_rank o kept d e k other h)

            by_operand : (k : Option ℕ) → operand_at o names e ≡ k → (is_in o own e (unwrap_or k (slice_index place e)) ≡ true) × (rank_at o own (unwrap_or k (slice_index place e)) ≤ rank_at o own (slice_index place e))
            by_operand None is = ((resolved_right e within).0, omega arith)
            by_operand (Some k) is =
                let h = operand_named o d names fits e k is in
                let at : slice_get (seats o) k ≡ Some (seat_of o k) = seat_there o k h.0 in (
                  in_outline e k (seat_of o k) at (sym (ap (λ (x : Option Seat). unwrap_or (option_map (is_of_dim e) x) false) at) ∙ h.1),
                  by_dim k is h (cases_eq e d),
                )

        less_new : rank_at o own (slice_index new d) < rank_at o own (slice_index place d)
        less_new =
            let found = own_operand o d names fits in
            let h = operand_named o d names fits d found.0 found.1 in
            let less : rank_of o found.0 < rank_at o own (slice_index place d) = own_low o d names fits (rank_at o own (slice_index place d)) falls found.0 found.1 in
            let same : slice_index new d ≡ found.0 = at_new d low ∙ ap (λ (x : Option ℕ). unwrap_or x (slice_index place d)) found.1 in
            omega (arith, ap (rank_at o own) same, rank_inside found.0 h.0, less)

        pub atom_less : IsLess new
        atom_less = (operand_belongs d low new long_new each_new less_new, operand_less d low new long_new each_new less_new)

      -- a child in its place
      module _ (d : ℕ) (low : d < length base) (k : ℕ) (is : is_in o own d k ≡ true) (falls : rank_at o own k < rank_at o own (slice_index place d)) where
        abbrev with_it : List ℕ
        with_it = set place d k

        in_place : d < length place
        in_place = omega (arith, low, long_place)

        long_with : length with_it ≡ length base
        long_with = length-set place d k ∙ long_place

        abbrev Fits : ℕ → ℕ → Type 0
        Fits e x = (is_in o own e x ≡ true) × (rank_at o own x ≤ rank_at o own (slice_index place e))

        each_with : (e : ℕ) → e < length base → Fits e (slice_index with_it e)
        each_with e within = by_dim (cases_eq e d)
          where
            by_dim : (e ≡ d) ⊎ (e ≡ d → ⊥) → Fits e (slice_index with_it e)
            by_dim (inl same) =
                subst (Fits e) (sym (ap (slice_index with_it) same ∙ get_or-set_same place d k 0 in_place))
                (ap (λ (f : ℕ). is_in o own f k) same ∙ is, omega (arith, falls, ap (λ (f : ℕ). rank_at o own (slice_index place f)) same))
            by_dim (inr other) = subst (Fits e) (sym (get_or-set_other place d e k 0 other)) ((resolved_right e within).0, omega arith)

        less_with : rank_at o own (slice_index with_it d) < rank_at o own (slice_index place d)
        less_with = omega (arith, ap (rank_at o own) (get_or-set_same place d k 0 in_place), falls)

        pub child_less : IsLess with_it
        child_less = (operand_belongs d low with_it long_with each_with less_with, operand_less d low with_it long_with each_with less_with)

      -- ---- all operands

      abbrev member : ℕ → ℕ
      member d = slice_index place d

      abbrev operands_by : ℕ → Option Expr → List (List ℕ)
      operands_by d x = unwrap_or (option_map (λ (e : Expr). map (replaced o place) (atoms e)) x) (map (set place d) (filter (is_counted o) (children_at o (member d))))

      own_less : (d : ℕ) → d < length base → (m : ExtraMember) → is_own o (member d) ≡ true → own_at o own (member d) ≡ Some m → d ≡ m.dim → Each IsLess (operands o own place d)
      own_less d low m owned at dim =
          let formula : formula_at o own (member d) ≡ Some m.formula =
          ap (λ (b : Bool). if b then option_map (λ (m : ExtraMember). m.formula) (own_at o own (member d)) else formula_of o (seat_of o (member d))) owned ∙ ap (option_map (λ (m : ExtraMember). m.formula)) at in
          let rank : rank_at o own (member d) ≡ own_rank o d (atoms m.formula) =
          ap (λ (b : Bool). if b then unwrap_or (option_map (λ (m : ExtraMember). own_rank o m.dim (atoms m.formula)) (own_at o own (member d))) 0 else rank_of o (member d)) owned
          ∙ (ap (λ (x : Option ExtraMember). unwrap_or (option_map (λ (m : ExtraMember). own_rank o m.dim (atoms m.formula)) x) 0) at ∙ ap (λ (e : ℕ). own_rank o e (atoms m.formula)) (sym dim)) in
          let rule = right (member d - length (seats o)) m at in
          subst (Each IsLess) (sym (ap (operands_by d) formula))
          (put_together IsLess (replaced o place) (atoms m.formula)
          (each_more (λ names. (is_atom o d names ≡ true) × Each (λ k. rank_of o k < rank_at o own (member d)) (operands_in o d names)) (λ names. IsLess (replaced o place names)) (λ names h. atom_less d low names h.0 h.1) (atoms m.formula)
          (both (λ names. is_atom o d names ≡ true) (λ names. Each (λ k. rank_of o k < rank_at o own (member d)) (operands_in o d names)) (atoms m.formula)
          (each_passes (is_atom o d) (atoms m.formula) (subst (λ (e : ℕ). list_all (is_atom o e) (atoms m.formula) ≡ true) (sym dim) rule.formula))
          (subst (λ (n : ℕ). Each (λ names. Each (λ k. rank_of o k < n) (operands_in o d names)) (atoms m.formula)) (sym rank) (own_low_operands o d (atoms m.formula))))))

      outline_less : (d : ℕ) → d < length base → (s : Seat) → slice_get (seats o) (member d) ≡ Some s → is_of_dim d s ≡ true → is_computed o s ≡ true → Each IsLess (operands o own place d)
      outline_less d low s at dim computed = by_formula (formula_of o s) refl
        where
          plain : is_label o s ≡ false
          plain = (resolved_right d low).2 s at computed

          there : member d < length (seats o)
          there = slice_get_within (seats o) (member d) s at

          rank : rank_at o own (member d) ≡ rank_of o (member d)
          rank = rank_inside (member d) there

          by_formula : (x : Option Expr) → formula_of o s ≡ x → Each IsLess (operands o own place d)
          by_formula (Some e) formula =
              subst (Each IsLess) (sym (ap (operands_by d) (formula_inside (member d) s at ∙ formula)))
              (put_together IsLess (replaced o place) (atoms e)
              (each_more (λ names. (is_atom o d names ≡ true) × Each (λ k. rank_of o k < rank_of o (member d)) (operands_in o d names)) (λ names. IsLess (replaced o place names))
              (λ names h. atom_less d low names h.0 (subst (λ (n : ℕ). Each (λ k. rank_of o k < n) (operands_in o d names)) (sym rank) h.1)) (atoms e)
              (both (λ names. is_atom o d names ≡ true) (λ names. Each (λ k. rank_of o k < rank_of o (member d)) (operands_in o d names)) (atoms e)
              (atoms_right o kept (member d) d s at dim computed plain e formula) (operands_low o kept (member d) d s at dim computed plain e formula))))
          by_formula None formula =
              subst (Each IsLess) (sym (ap (operands_by d) (formula_inside (member d) s at ∙ formula) ∙ ap (λ (ks : List ℕ). map (set place d) (filter (is_counted o) ks)) (children_inside (member d) s at)))
              (put_together IsLess (set place d) (filter (is_counted o) (children o (member d) s))
              (each_more (λ k. (is_counted o k ≡ true) × (IsMemberOf d k × (rank_of o k < rank_of o (member d)))) (λ k. IsLess (set place d k))
              (λ k h. child_less d low k (in_outline d k h.1.0.0 h.1.0.1 h.1.0.2) (omega (arith, rank, h.1.1, rank_inside k (slice_get_within (seats o) k h.1.0.0 h.1.0.1)))) (filter (is_counted o) (children o (member d) s))
              (each_filter (λ k. IsMemberOf d k × (rank_of o k < rank_of o (member d))) (is_counted o) (children o (member d) s)
              (both (IsMemberOf d) (λ k. rank_of o k < rank_of o (member d)) (children o (member d) s) (children_in d (member d) s at dim)
              (children_low o kept (member d) d s at dim computed plain formula)))))

      -- the operands of what is unfolded belong, and their ranks have a smaller sum
      all_less : (d : ℕ) → unfolded o own place ≡ Some d → Each IsLess (operands o own place d)
      all_less d is =
          let h = unfolded_is place d is in
          let low : d < length base = omega (arith, h.0, long_place) in
          ⊎_elim
          (λ (x : (s : Seat) × (slice_get (seats o) (member d) ≡ Some s) × (is_of_dim d s ≡ true)). outline_less d low x.0 x.1 x.2 (sym (computed_inside (member d) x.0 x.1) ∙ h.1))
          (λ (x : (m : ExtraMember) × (is_own o (member d) ≡ true) × (own_at o own (member d) ≡ Some m) × (d ≡ m.dim)). own_less d low x.0 x.1 x.2 x.3)
          (place_of_member d (member d) (resolved_right d low).0)

      some_rank : (d : ℕ) → unfolded o own place ≡ Some d → 0 < rank_at o own (member d)
      some_rank d is =
          let h = unfolded_is place d is in
          let low : d < length base = omega (arith, h.0, long_place) in
          ⊎_elim
          (λ (x : (s : Seat) × (slice_get (seats o) (member d) ≡ Some s) × (is_of_dim d s ≡ true)).
          let computed : is_computed o x.0 ≡ true = sym (computed_inside (member d) x.0 x.1) ∙ h.1 in
          let some : 0 < rank_of o (member d) = computed_rank (member d) (standing_there o (member d) x.0 x.1 ∙ standing_plain o x.0 computed ((resolved_right d low).2 x.0 x.1 computed)) in
          omega (arith, some, rank_inside (member d) (slice_get_within (seats o) (member d) x.0 x.1)))
          (λ (x : (m : ExtraMember) × (is_own o (member d) ≡ true) × (own_at o own (member d) ≡ Some m) × (d ≡ m.dim)).
          let rank : rank_at o own (member d) ≡ own_rank o x.0.dim (atoms x.0.formula) =
          ap (λ (b : Bool). if b then unwrap_or (option_map (λ (m : ExtraMember). own_rank o m.dim (atoms m.formula)) (own_at o own (member d))) 0 else rank_of o (member d)) x.1
          ∙ ap (λ (y : Option ExtraMember). unwrap_or (option_map (λ (m : ExtraMember). own_rank o m.dim (atoms m.formula)) y) 0) x.2 in
          omega (arith, rank))
          (place_of_member d (member d) (resolved_right d low).0)

      none_unfolded : ranks_of o own base ≡ 0 → unfolded o own place ≡ None
      none_unfolded zero_sum = by_choice (unfolded o own place) refl
        where
          by_choice : (x : Option ℕ) → unfolded o own place ≡ x → x ≡ None
          by_choice None is = refl
          by_choice (Some d) is =
              let h = unfolded_is place d is in
              let low : d < length base = omega (arith, h.0, long_place) in
              let some : 0 < rank_at o own (member d) = some_rank d is in
              let down : rank_at o own (member d) ≤ rank_at o own (slice_index base d) = (resolved_right d low).1 in
              let most : rank_at o own (slice_index base d) ≤ ranks_of o own base = sum_at (rank_at o own) base d low in
              absurd (omega (arith, some, down, most, zero_sum))

      module _ (stored : List ℕ → Val) where
        step_same : (f g : List ℕ → Outcome) → ((b : List ℕ) → IsLess b → f b ≡ g b) → value_step o own stored f place ≡ value_step o own stored g place
        step_same f g same = by_choice (unfolded o own place) refl
          where
            by_choice : (x : Option ℕ) → unfolded o own place ≡ x → unwrap_or (option_map (unfolding_of o own f place) x) (ranged (stored place)) ≡ unwrap_or (option_map (unfolding_of o own g place) x) (ranged (stored place))
            by_choice None is = refl
            by_choice (Some d) is = unfolding_same o own f g place d (each_more IsLess (λ b. f b ≡ g b) same (operands o own place d) (all_less d is))

        stored_step : (f : List ℕ → Outcome) → ranks_of o own base ≡ 0 → value_step o own stored f place ≡ ranged (stored place)
        stored_step f none = ap (λ (x : Option ℕ). unwrap_or (option_map (unfolding_of o own f place) x) (ranged (stored place))) (none_unfolded none)

    module _ (stored : List ℕ → Val) where
      -- with any bound on ranks that is large enough
      pub alike : (a b : ℕ) (base : List ℕ) → Belongs o own base → ranks_of o own base ≤ a → ranks_of o own base ≤ b → value_within a o own stored base ≡ value_within b o own stored base
      alike zero zero base belongs low high = refl
      alike zero (suc b) base belongs low high = sym (stored_step base belongs stored (value_within b o own stored) (omega (arith, low)))
      alike (suc a) zero base belongs low high = stored_step base belongs stored (value_within a o own stored) (omega (arith, high))
      alike (suc a) (suc b) base belongs low high =
          step_same base belongs stored (value_within a o own stored) (value_within b o own stored)
          (λ p less. alike a b p less.0 (omega (arith, less.1, low)) (omega (arith, less.1, high)))

      pub unfolds : (base : List ℕ) → Belongs o own base → value_at o own stored base ≡ value_step o own stored (value_at o own stored) (resolved o base)
      unfolds base belongs = by_ranks (ranks_of o own base) refl
        where
          by_ranks : (n : ℕ) → ranks_of o own base ≡ n → value_within n o own stored base ≡ value_step o own stored (value_at o own stored) (resolved o base)
          by_ranks zero is = sym (stored_step base belongs stored (value_at o own stored) is)
          by_ranks (suc r) is =
              step_same base belongs stored (value_within r o own stored) (value_at o own stored)
              (λ p less. alike r (ranks_of o own p) p less.0 (omega (arith, less.1, is)) (omega arith))
