-- Steps of an unfolding.
use Rattle.std.proofs.Common.{◌≡◌, ◌∙◌, ℕ, zero, suc, ◌-◌, ◌<◌, List, [], ◌++◌, map, refl, sym, ap, arith, append-nil}
use Rattle.std.specs.Prelude.{Result, Ok, Err, IfOk}
use Rattle.aso_num.specs.declared.value.Val.{Val}
use Rattle.aso_outline.specs.declared.draft.Draft.{Draft}
use Rattle.aso_outline.specs.declared.draft.Expr.{Expr}
use Rattle.aso_outline.specs.Atoms.{Atom, atoms}
use Rattle.aso_calc.specs.Positions.{Read, checked, value_from}
use Rattle.aso_calc.specs.Values.{Outcome, Own, formula_value, resolved, value_step, value_within}
use Rattle.aso_calc.proofs.FormulaSteps.{in_order}

pub by_values : (f : Atom → Outcome) → ((names : Atom) → checked (f names) ≡ f names) → (e : Expr) (vs : List Outcome) → vs ≡ map f (atoms e) → (r : Read) → r ≡ value_from e vs → r.0 ≡ formula_value f e
by_values f fine e vs values r is =
    ap (λ (x : Read). x.0) is
    ∙ (ap (λ (ws : List Outcome). (value_from e ws).0) (values ∙ sym (append-nil (map f (atoms e)))) ∙ ap (λ (x : Read). x.0) (in_order f fine e []))

pub within_step : (o : Draft) (own : Own) (stored : List ℕ → Val) (ranks : ℕ) (base : List ℕ) → 0 < ranks
    → value_within ranks o own stored base ≡ value_step o own stored (value_within (ranks - 1) o own stored) (resolved o base)
within_step o own stored zero base some = absurd (omega (arith, some))
within_step o own stored (suc ranks) base some = ap (λ (n : ℕ). value_step o own stored (value_within n o own stored) (resolved o base)) (before ranks)
  where
    before : (n : ℕ) → n ≡ suc n - 1
    before n = omega arith

pub if_ok : {X Y : Type 0} (r : Result X Y) (P Q : X → Type 0) → ((x : X) → P x → Q x) → IfOk r P → IfOk r Q
if_ok (Ok x) P Q f p = f x p
if_ok (Err e) P Q f p = tt
