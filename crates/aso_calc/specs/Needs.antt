-- The stored tuples that the values of some tuples rest on.
use Rattle.std.specs.Prelude.{◌≡◌, ◌≢◌, ◌<◌, ℕ, zero, suc, Bool, not, List, [], ◌∷◌, ◌++◌, map, Option, Some, if◌then◌else◌, slice_get, slice_index, unwrap_or, set}
use Rattle.std.specs.Option.{option_map}
use Rattle.std.specs.List.{filter, flat_map, fold, list_any}
use Rattle.std.specs.Str.{bytes_eq}
use Rattle.aso_num.specs.declared.value.Val.{Val}
use Rattle.aso_outline.specs.declared.draft.Draft.{Draft}
use Rattle.aso_outline.specs.declared.draft.Expr.{Expr}
use Rattle.aso_outline.specs.declared.draft.Tuple.{Tuple}
use Rattle.aso_outline.specs.Atoms.{atoms}
use Rattle.aso_outline.specs.Marks.{op_of}
use Rattle.aso_outline.specs.Numbers.{seat_of}
use Rattle.aso_outline.specs.Rules.{is_skip}
use Rattle.aso_calc.specs.Keys.{key_of}
use Rattle.aso_calc.specs.Values.{Own, children_at, formula_at, ranks_of, replaced, resolved, unfolded, value}

-- a child that isn't passed over
abbrev pub is_counted : Draft → ℕ → Bool
is_counted o k = not (is_skip (op_of o (seat_of o k)))

-- the coordinates that take the place of these where the member at a dimension is unfolded
abbrev pub operands : Draft → Own → List ℕ → ℕ → List (List ℕ)
operands o own base d =
    unwrap_or (option_map (λ (e : Expr). map (replaced o base) (atoms e)) (formula_at o own (slice_index base d)))
    (map (set base d) (filter (is_counted o) (children_at o (slice_index base d))))

-- the stored coordinates that are reached from resolved ones, from those of lesser ranks by `f`
abbrev pub reached_step : Draft → Own → (List ℕ → List (List ℕ)) → List ℕ → List (List ℕ)
reached_step o own f base = unwrap_or (option_map (λ d. flat_map f (operands o own base d)) (unfolded o own base)) (base ∷ [])

abbrev pub reached_within : ℕ → Draft → Own → List ℕ → List (List ℕ)
reached_within zero o own base = resolved o base ∷ []
reached_within (suc ranks) o own base = reached_step o own (reached_within ranks o own) (resolved o base)

abbrev pub with_attrs : List (Option ℕ) → List ℕ → Tuple
with_attrs attrs base = record { base = base; attrs = attrs }

abbrev pub reached : Draft → Own → Tuple → List Tuple
reached o own t = map (with_attrs t.attrs) (reached_within (ranks_of o own t.base) o own t.base)

-- a list has the tuple
abbrev pub has : List Tuple → Tuple → Bool
has all t = list_any (λ (s : Tuple). bytes_eq (key_of t.base t.attrs) (key_of s.base s.attrs)) all

-- with the tuple behind them, if they don't have it
abbrev pub noted : List Tuple → Tuple → List Tuple
noted all t = if has all t then all else all ++ t ∷ []

-- each once, in the order in which they are first reached
unfoldable pub needed : Draft → Own → List Tuple → List Tuple
needed o own ts = fold noted [] (flat_map (reached o own) ts)

-- with the tuples at some coordinates behind them, each that they don't have
abbrev pub all_noted : List (Option ℕ) → List Tuple → List (List ℕ) → List Tuple
all_noted attrs all places = fold noted all (map (with_attrs attrs) places)

-- no tuple stands twice
abbrev pub AreDistinct : List Tuple → Type 0
AreDistinct ts = (i j : ℕ) (t : Tuple) → i < j → slice_get ts i ≡ Some t → slice_get ts j ≢ Some t

-- ---- what values rest on

-- two kinds of stored values agree on some tuples
abbrev pub Agree : (Tuple → Val) → (Tuple → Val) → List Tuple → Type 0
Agree s u ts = (k : ℕ) (t : Tuple) → slice_get ts k ≡ Some t → s t ≡ u t

-- the values of some tuples rest on these stored tuples alone
abbrev pub Suffice : Draft → Own → List Tuple → List Tuple → Type 0
Suffice o own found ts = (s u : Tuple → Val) → Agree s u found → (k : ℕ) (t : Tuple) → slice_get ts k ≡ Some t → value o own s t ≡ value o own u t
