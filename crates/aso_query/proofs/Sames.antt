-- The values of cells are the same over stored values that agree on what they need.
use Rattle.std.proofs.Common.{◌≡◌, ◌∙◌, ℕ, suc, Bool, List, [], ◌∷◌, length, map, Option, Some, refl, sym, ap}
use Rattle.std.specs.Prelude.{slice_get, if◌then◌else◌}
use Rattle.std.specs.Option.{option_map}
use Rattle.std.specs.List.{find as first}
use Rattle.std.proofs.lemmas.Option.{slice_get-map}
use Rattle.aso_num.specs.declared.value.Val.{Val}
use Rattle.aso_outline.specs.declared.draft.Draft.{Draft}
use Rattle.aso_outline.specs.declared.draft.Tuple.{Tuple}
use Rattle.aso_calc.specs.Known.{is_out}
use Rattle.aso_calc.specs.Needs.{Agree, Suffice}
use Rattle.aso_calc.specs.Values.{Own, value}
use Rattle.aso_grid.specs.declared.grid_plan.GridPlan.{GridPlan}
use Rattle.aso_grid.specs.Grids.{grid_lines, kept_columns, kept_rows}
use Rattle.aso_query.specs.declared.refusal.QueryRefusal.{QueryRefusal}
use Rattle.aso_query.specs.declared.refusal.QueryRefusal.TheVariants.{UnknownMember, Dimension, Formula, TooLarge, Range}
use Rattle.aso_query.specs.Answers.{AreValues, IsGridOver, IsPast}

-- ---- lists

abbrev Alike : {X Y : Type 0} → (X → Y) → (X → Y) → List X → Type 0
Alike {X} f g xs = (k : ℕ) (x : X) → slice_get xs k ≡ Some x → f x ≡ g x

map_alike : {X Y : Type 0} (f g : X → Y) (xs : List X) → Alike f g xs → map f xs ≡ map g xs
map_alike f g [] same = refl
map_alike {Y = Y} f g (x ∷ xs) same = ap (λ (y : Y). y ∷ map f xs) (same 0 x refl) ∙ ap (λ (ys : List Y). g x ∷ ys) (map_alike f g xs (λ k. same (suc k)))

first_alike : {X : Type 0} (p q : X → Bool) (xs : List X) → Alike p q xs → first p xs ≡ first q xs
first_alike p q [] same = refl
first_alike {X = X} p q (x ∷ xs) same =
    ap (λ (b : Bool). if b then Some x else first p xs) (same 0 x refl) ∙ ap (λ (r : Option X). if q x then Some x else r) (first_alike p q xs (λ k. same (suc k)))

-- ---- values

-- the values that are given to the needs are the stored ones
pub agrees : (given stored : Tuple → Val) (needs : List Tuple) (values : List Val)
    → ((k : ℕ) (t : Tuple) (v : Val) → slice_get needs k ≡ Some t → slice_get values k ≡ Some v → given t ≡ v)
    → map stored needs ≡ values → Agree given stored needs
agrees given stored needs values each same k t at =
    each k t (stored t) at (ap (λ (vs : List Val). slice_get vs k) (sym same) ∙ (slice_get-map stored needs k ∙ ap (option_map stored) at))

module _ (o : Draft) (own : Own) (s u : Tuple → Val) (needs : List Tuple) (p : GridPlan) (enough : Suffice o own needs p.cells) (agree : Agree s u needs) where
  same_values : map (value o own s) p.cells ≡ map (value o own u) p.cells
  same_values = map_alike (value o own s) (value o own u) p.cells (enough s u agree)

  same_first : first (λ t. is_out (value o own s t)) p.cells ≡ first (λ t. is_out (value o own u t)) p.cells
  same_first = first_alike (λ t. is_out (value o own s t)) (λ t. is_out (value o own u t)) p.cells (λ k t at. ap is_out (enough s u agree k t at))

  pub same_past : (r : QueryRefusal) → IsPast o own s p r → IsPast o own u p r
  same_past (Range names) past = (past.0, sym same_first ∙ past.1, past.2)
  same_past (UnknownMember name) past = absurd past
  same_past (Dimension name) past = absurd past
  same_past (Formula name at) past = absurd past
  same_past (TooLarge cells) past = absurd past

  pub grid_over : (values : List Val) (height width : ℕ) (text : List ℕ) → AreValues o own s p.cells values → ◌≡◌ {A = ℕ × ℕ} (height, width) (length (kept_rows p values), length (kept_columns p values))
      → text ≡ grid_lines o own p values → IsGridOver o own u p height width text
  grid_over values height width text are printed lines = record {
    values = values;
    are = are ∙ same_values;
    rows = ap (λ (n : ℕ × ℕ). n.0) printed;
    columns = ap (λ (n : ℕ × ℕ). n.1) printed;
    lines = lines;
  }
