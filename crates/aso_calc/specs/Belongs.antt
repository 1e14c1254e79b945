-- Coordinates that belong to an outline and a query's own members, and the law of their values.
use Rattle.std.specs.Prelude.{◌≡◌, ◌<◌, ◌==◌, ℕ, Bool, true, false, List, Option, length, slice_index, unwrap_or, if◌then◌else◌}
use Rattle.std.specs.Option.{option_map}
use Rattle.aso_num.specs.declared.value.Val.{Val}
use Rattle.aso_outline.specs.declared.draft.Draft.{Draft}
use Rattle.aso_outline.specs.declared.draft.ExtraMember.{ExtraMember}
use Rattle.aso_outline.specs.Ranks.{at_number, is_of_dim}
use Rattle.aso_calc.specs.Values.{Own, is_own, own_at, resolved, value_at, value_step}

-- the member is one of the base dimension
abbrev pub is_in : Draft → Own → ℕ → ℕ → Bool
is_in o own d n = if is_own o n then unwrap_or (option_map (λ (m : ExtraMember). d == m.dim) (own_at o own n)) false else at_number (is_of_dim d) o n

-- one member for each base dimension, in the order of the dimensions
pub record Belongs (o : Draft) (own : Own) (base : List ℕ) : Type 0 where
  pub long : length base ≡ length o.dims
  pub each : (d : ℕ) → d < length base → is_in o own d (slice_index base d) ≡ true

-- Whatever attributes are asked, the value at coordinates that belong is the stored one where none is computed once each is resolved;
-- else it is that of the unfolding of one of them, by values of the same kind.
abbrev pub Unfolds : Draft → Own → (List (Option ℕ) → List ℕ → Val) → Type 0
Unfolds o own stored = (attrs : List (Option ℕ)) (base : List ℕ) → Belongs o own base
    → value_at o own (stored attrs) base ≡ value_step o own (stored attrs) (value_at o own (stored attrs)) (resolved o base)
