-- Over stored values a query comes to one thing: one grid, or one refusal.
use Rattle.std.proofs.Common.{◌≡◌, ◌∙◌, inl, inr, ℕ, List, [], ◌∷◌, map, length, Option, Some, None, sym, ap, refl, subst}
use Rattle.std.specs.Prelude.{Result, Ok, if◌then◌else◌}
use Rattle.std.specs.Option.{option_map}
use Rattle.std.specs.List.{find as first}
use Rattle.aso_num.specs.declared.value.Val.{Val}
use Rattle.aso_outline.specs.declared.draft.Draft.{Draft}
use Rattle.aso_outline.specs.declared.draft.ExtraMember.{ExtraMember}
use Rattle.aso_outline.specs.declared.draft.Tuple.{Tuple}
use Rattle.aso_outline.specs.Members.{Name}
use Rattle.aso_mdx.specs.declared.query.Query.{Query}
use Rattle.aso_axes.specs.Answers.{counted}
use Rattle.aso_calc.specs.Known.{is_out}
use Rattle.aso_calc.specs.Values.{Outcome, value}
use Rattle.aso_grid.specs.declared.grid_plan.GridPlan.{GridPlan}
use Rattle.aso_grid.specs.Grids.{grid_lines, kept_columns, kept_rows}
use Rattle.aso_grid.specs.Plans.{IsTaken, excess_in, plan_of, unknown_in, wrong_in}
use Rattle.aso_query.specs.Answers.{AreValues, IsAskedRefusal, IsGridOf, IsGridOver, IsInOrder, IsPast, IsPlanRefusal, IsRefused, Stored, names_of}
use Rattle.aso_query.specs.declared.refusal.QueryRefusal.{QueryRefusal}
use Rattle.aso_query.specs.declared.refusal.QueryRefusal.TheVariants.{UnknownMember, Dimension, Formula, TooLarge, Range}
use Rattle.aso_laws.proofs.Owns.{all_taken_not_refused, all_taken_once, one_owns_refusal, same_some, some_none}

-- ---- values

values_once : {E : Type 0} (vs ws : List Val) → map {B = Result Val E} (λ v. Ok v) vs ≡ map (λ v. Ok v) ws → vs ≡ ws
values_once [] [] e = refl
values_once [] (w ∷ ws) e = absurd (cc e)
values_once (v ∷ vs) [] e = absurd (cc e)
values_once {E} (v ∷ vs) (w ∷ ws) e =
    let here : v ≡ w = cc e in
    let rest : map {B = Result Val E} (λ x. Ok x) vs ≡ map (λ x. Ok x) ws = cc e in
    ap (λ (x : Val). x ∷ vs) here ∙ ap (λ (xs : List Val). w ∷ xs) (values_once vs ws rest)

-- where each cell has a value, none is out of range
pub none_out : (f : Tuple → Outcome) (cells : List Tuple) (vs : List Val) → map {B = Outcome} (λ v. Ok v) vs ≡ map f cells → first (λ t. is_out (f t)) cells ≡ None
none_out f [] vs e = refl
none_out f (c ∷ cs) [] e = absurd (cc e)
none_out f (c ∷ cs) (v ∷ vs) e =
    let here : Ok v ≡ f c = cc e in
    let rest : map {B = Outcome} (λ x. Ok x) vs ≡ map f cs = cc e in
    ap (λ (r : Outcome). if is_out r then Some c else first (λ t. is_out (f t)) cs) (sym here) ∙ none_out f cs vs rest

-- ---- names, dimensions and sizes

-- the first reason
pub reason : Option Name → Option Name → Option ℕ → Option QueryRefusal
reason (Some name) wrong excess = Some (UnknownMember name)
reason None (Some name) excess = Some (Dimension name)
reason None None excess = option_map (λ (n : ℕ). TooLarge (counted n)) excess

module _ (o : Draft) (q : Query) (own : List ExtraMember) where
  pub plan_reason : Option QueryRefusal
  plan_reason = reason (unknown_in o own q) (wrong_in o own q) (excess_in o own q)

  large : (x : Option ℕ) (c : ℕ) → option_map counted x ≡ Some c → option_map (λ (n : ℕ). TooLarge (counted n)) x ≡ Some (TooLarge c)
  large (Some n) c e = ap (λ (k : ℕ). Some (TooLarge k)) (same_some (counted n) c e)
  large None c e = absurd (cc e)

  pub plan_refused : (r : QueryRefusal) → IsPlanRefusal o own q r → plan_reason ≡ Some r
  unfolding plan_reason reason
  plan_refused (UnknownMember name) unknown = ap (λ (u : Option Name). reason u (wrong_in o own q) (excess_in o own q)) unknown
  plan_refused (Dimension name) (known, wrong) = ap (λ (u : Option Name). reason u (wrong_in o own q) (excess_in o own q)) known ∙ ap (λ (w : Option Name). reason None w (excess_in o own q)) wrong
  plan_refused (TooLarge cells) ((known, placed), large_one) =
      ap (λ (u : Option Name). reason u (wrong_in o own q) (excess_in o own q)) known
      ∙ (ap (λ (w : Option Name). reason None w (excess_in o own q)) placed ∙ large (excess_in o own q) cells large_one)
  plan_refused (Formula name at) h = absurd h
  plan_refused (Range names) h = absurd h

  pub plan_taken : IsTaken o own q → plan_reason ≡ None
  unfolding plan_reason reason
  plan_taken ((known, placed), sized) =
      ap (λ (u : Option Name). reason u (wrong_in o own q) (excess_in o own q)) known
      ∙ (ap (λ (w : Option Name). reason None w (excess_in o own q)) placed ∙ ap (option_map (λ (n : ℕ). TooLarge (counted n))) sized)

-- ---- refusals

module _ (o : Draft) (q : Query) where
  order_once : (own owns : List ExtraMember) → IsInOrder o q own → IsInOrder o q owns → own ≡ owns
  order_once own owns a b = all_taken_once o [] q.own own owns a.0 b.0

  in_order_not_asked : (own : List ExtraMember) (r : QueryRefusal) → IsInOrder o q own → IsAskedRefusal o q r → ⊥
  in_order_not_asked own r (taken, order) (inl a) = all_taken_not_refused o [] q.own own r taken a
  in_order_not_asked own r (taken, order) (inr (owns, taken_too, a)) =
      let same : own ≡ owns = all_taken_once o [] q.own own owns taken taken_too in
      some_none r (plan_reason o q own) (plan_refused o q own r (subst (λ (x : List ExtraMember). IsPlanRefusal o x q r) (sym same) a)) (plan_taken o q own order)

  one_asked : (r s : QueryRefusal) → IsAskedRefusal o q r → IsAskedRefusal o q s → r ≡ s
  one_asked r s (inl a) (inl b) = one_owns_refusal o [] q.own r s a b
  one_asked r s (inl a) (inr (own, taken, b)) = absurd (all_taken_not_refused o [] q.own own r taken a)
  one_asked r s (inr (own, taken, a)) (inl b) = absurd (all_taken_not_refused o [] q.own own s taken b)
  one_asked r s (inr (own, taken, a)) (inr (owns, taken_too, b)) =
      let same : own ≡ owns = all_taken_once o [] q.own own owns taken taken_too in
      same_some r s (sym (plan_refused o q own r a) ∙ plan_refused o q own s (subst (λ (x : List ExtraMember). IsPlanRefusal o x q s) (sym same) b))

  module _ (stored : Stored) where
    one_past : (own : List ExtraMember) (p : GridPlan) (r s : QueryRefusal) → IsPast o own stored p r → IsPast o own stored p s → r ≡ s
    one_past own p (Range ns) (Range ms) (t, is, names) (u, is_too, names_too) =
        let tuples : t ≡ u = same_some t u (sym is ∙ is_too) in
        ap (λ (xs : List Name). Range xs) (names ∙ (ap (names_of o own) tuples ∙ sym names_too))
    one_past own p (Range ns) s a b = absurd b
    one_past own p r s a b = absurd a

    valued_not_past : (own : List ExtraMember) (p : GridPlan) (r : QueryRefusal) (vs : List Val) → AreValues o own stored p.cells vs → IsPast o own stored p r → ⊥
    valued_not_past own p (Range ns) vs are (t, is, names) = some_none t (first (λ t. is_out (value o own stored t)) p.cells) is (none_out (value o own stored) p.cells vs are)
    valued_not_past own p r vs are a = a

    pub one_refusal : (r s : QueryRefusal) → IsRefused o stored q r → IsRefused o stored q s → r ≡ s
    one_refusal r s (inl a) (inl b) = one_asked r s a b
    one_refusal r s (inl a) (inr (own, order, b)) = absurd (in_order_not_asked own r order a)
    one_refusal r s (inr (own, order, a)) (inl b) = absurd (in_order_not_asked own s order b)
    one_refusal r s (inr (own, order, a)) (inr (owns, order_too, b)) =
        one_past own (plan_of o own q) r s a (subst (λ (x : List ExtraMember). IsPast o x stored (plan_of o x q) s) (sym (order_once own owns order order_too)) b)

    pub no_grid_refused : (r : QueryRefusal) (rows columns : ℕ) (text : List ℕ) → IsRefused o stored q r → IsGridOf o stored q rows columns text → ⊥
    no_grid_refused r rows columns text (inl a) (own, order, grid) = in_order_not_asked own r order a
    no_grid_refused r rows columns text (inr (own, order, a)) (owns, order_too, grid) =
        valued_not_past owns (plan_of o owns q) r grid.values grid.are (subst (λ (x : List ExtraMember). IsPast o x stored (plan_of o x q) r) (order_once own owns order order_too) a)

    -- ---- grids

    same_grid : (own : List ExtraMember) (rows columns height width : ℕ) (text other : List ℕ) → IsGridOver o own stored (plan_of o own q) rows columns text → IsGridOver o own stored (plan_of o own q) height width other
        → (rows ≡ height) × (columns ≡ width) × (text ≡ other)
    same_grid own rows columns height width text other a b =
        let p : GridPlan = plan_of o own q in
        let values : a.values ≡ b.values = values_once a.values b.values (a.are ∙ sym b.are) in (
          a.rows ∙ ap (λ (vs : List Val). length (kept_rows p vs)) values ∙ sym b.rows,
          a.columns ∙ ap (λ (vs : List Val). length (kept_columns p vs)) values ∙ sym b.columns,
          a.lines ∙ ap (λ (vs : List Val). grid_lines o own p vs) values ∙ sym b.lines,
        )

    pub one_grid : (rows columns height width : ℕ) (text other : List ℕ) → IsGridOf o stored q rows columns text → IsGridOf o stored q height width other → (rows ≡ height) × (columns ≡ width) × (text ≡ other)
    one_grid rows columns height width text other (own, order, grid) (owns, order_too, grid_too) =
        same_grid own rows columns height width text other grid
        (subst (λ (x : List ExtraMember). IsGridOver o x stored (plan_of o x q) height width other) (sym (order_once own owns order order_too)) grid_too)
