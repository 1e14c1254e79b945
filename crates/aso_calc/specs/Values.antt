-- The value of a tuple: stored where none of its members is computed, else by the formula or the children of the one that is
-- unfolded. Members go by their numbers; those that a query defines follow the outline's.
use Rattle.std.specs.Prelude.{◌≡◌, ℕ, zero, suc, ◌+◌, ◌-◌, ◌==◌, Bool, true, not, List, [], ◌∷◌, map, length, Option, Some, None, is_some, nat_lt, if◌then◌else◌, slice_get, slice_index, unwrap_or, set, Result, Ok, Err}
use Rattle.std.specs.Option.{option_map}
use Rattle.std.specs.List.{filter, flat_map, fold, last_or, sum}
use mathlib.Core.Former.{Count}
use Rattle.aso_tree.specs.Trees.{greatest, places_of}
use Rattle.aso_num.specs.declared.value.Val.{Val}
use Rattle.aso_num.specs.declared.value.Val.TheVariants as val
use Rattle.aso_num.specs.declared.value.OutOfRange.{OutOfRange}
use Rattle.aso_num.specs.Numbers.{sum_of, difference_of, negative_of, product_of, quotient_of, ranged}
use Rattle.aso_outline.specs.declared.draft.Draft.{Draft}
use Rattle.aso_outline.specs.declared.draft.ExtraMember.{ExtraMember}
use Rattle.aso_outline.specs.declared.draft.Tuple.{Tuple}
use Rattle.aso_outline.specs.declared.draft.Op.{Op}
use Rattle.aso_outline.specs.declared.draft.Op.TheVariants.{Plus, Minus, Times, Over, Skip}
use Rattle.aso_outline.specs.declared.draft.Expr.{Expr, Num, Cell, Neg', Bin'}
use Rattle.aso_outline.specs.declared.draft.Expr.TheBlock.{Row_of-Expr, end_of-Expr, more_of-Expr}
use Rattle.aso_outline.specs.Atoms.{Atom, atoms}
use Rattle.aso_outline.specs.Extend.{own_rank}
use Rattle.aso_outline.specs.Marks.{op_of, solve_of}
use Rattle.aso_outline.specs.Members.{seats, is_computed}
use Rattle.aso_outline.specs.Numbers.{seat_of}
use Rattle.aso_outline.specs.Ranks.{children, formula_of, operands_in, rank_of}
use Rattle.aso_outline.specs.Targets.{target_of}

-- missing, a number, or out of range
abbrev pub Outcome : Type 0
Outcome = Result Val OutOfRange

abbrev pub Own : Type 0
Own = List ExtraMember

-- ---- members

abbrev pub is_own : Draft → ℕ → Bool
is_own o n = not (nat_lt n (length (seats o)))

-- the member of its own that a query's number stands for
abbrev pub own_at : Draft → Own → ℕ → Option ExtraMember
own_at o own n = slice_get own (n - length (seats o))

-- a label-only member stands for its first child, and a shared one for its data leaf
abbrev pub target : Draft → ℕ → ℕ
target o n = if is_own o n then n else target_of o n

-- a query's own members are computed
abbrev pub is_computed_at : Draft → ℕ → Bool
is_computed_at o n = if is_own o n then true else is_computed o (seat_of o n)

abbrev pub order_at : Draft → Own → ℕ → ℕ
order_at o own n = if is_own o n then unwrap_or (option_map (λ (m : ExtraMember). m.solve) (own_at o own n)) 0 else solve_of o (seat_of o n)

abbrev pub formula_at : Draft → Own → ℕ → Option Expr
formula_at o own n = if is_own o n then option_map (λ (m : ExtraMember). m.formula) (own_at o own n) else formula_of o (seat_of o n)

abbrev pub children_at : Draft → ℕ → List ℕ
children_at o n = if is_own o n then [] else children o n (seat_of o n)

abbrev pub rank_at : Draft → Own → ℕ → ℕ
rank_at o own n = if is_own o n then unwrap_or (option_map (λ (m : ExtraMember). own_rank o m.dim (atoms m.formula)) (own_at o own n)) 0 else rank_of o n

-- ---- which coordinate is unfolded

-- of some places the last of those whose order is the greatest
abbrev pub last_greatest : (ℕ → ℕ) → List ℕ → Option ℕ
last_greatest order ds = last_or None (filter (λ d. order d == greatest (map order ds)) ds)

abbrev pub computed_dims : Draft → List ℕ → List ℕ
computed_dims o base = filter (λ d. is_computed_at o (slice_index base d)) (places_of base)

-- the dimension of the computed member of the greatest solve order, the last among equals
abbrev pub unfolded : Draft → Own → List ℕ → Option ℕ
unfolded o own base = last_greatest (λ d. order_at o own (slice_index base d)) (computed_dims o base)

-- ---- what is done with values

-- A number past the range, and whatever needs one, is out of range. An operand that is passed over isn't needed.
abbrev pub combined : Op → Val → Val → Outcome
combined Plus a b = ranged (sum_of a b)
combined Minus a b = ranged (difference_of a b)
combined Times a b = ranged (product_of a b)
combined Over a b = ranged (quotient_of a b)
combined Skip a b = Ok a

abbrev pub both : (Val → Val → Outcome) → Outcome → Outcome → Outcome
both f (Ok a) (Ok b) = f a b
both f (Ok a) (Err e) = Err e
both f (Err e) b = Err e

abbrev pub applied : Op → Outcome → Outcome → Outcome
applied Skip a b = a
applied op a b = both (combined op) a b

abbrev pub negated : Outcome → Outcome
negated (Ok a) = Ok (negative_of a)
negated (Err e) = Err e

-- a formula, its atoms by their values; an operand stands in a row of one
abbrev mutual
  pub formula_value : (Atom → Outcome) → Expr → Outcome
  formula_value f (Num z) = ranged (val.Num z)
  formula_value f (Cell names) = f names
  formula_value f (Neg' p e) = negated (row_value f 1 e)
  formula_value f (Bin' op p left q right) = applied op (row_value f 1 left) (row_value f 1 right)

  pub row_value : (Atom → Outcome) → (k : Count) → Row_of-Expr k → Outcome
  row_value f _ end_of-Expr = Ok val.Missing
  row_value f _ (more_of-Expr e rest) = formula_value f e

-- the children from missing on, in outline order, each by its operator
abbrev pub children_value : (ℕ → Op) → (ℕ → Outcome) → List ℕ → Outcome
children_value op f ks = fold (λ r k. applied (op k) r (f k)) (Ok val.Missing) ks

-- ---- unfolding

-- the member of a dimension that an atom names
abbrev pub operand_at : Draft → Atom → ℕ → Option ℕ
operand_at o names d = last_or None (operands_in o d names)

-- an atom's members in place of the coordinates of their dimensions
abbrev pub replaced : Draft → List ℕ → Atom → List ℕ
replaced o base names = map (λ d. unwrap_or (operand_at o names d) (slice_index base d)) (places_of base)

abbrev pub resolved : Draft → List ℕ → List ℕ
resolved o base = map (target o) base

-- the member at a dimension, unfolded: its formula, or its children
abbrev pub unfolding_of : Draft → Own → (List ℕ → Outcome) → List ℕ → ℕ → Outcome
unfolding_of o own f base d =
    unwrap_or (option_map (formula_value (λ names. f (replaced o base names))) (formula_at o own (slice_index base d)))
    (children_value (λ k. op_of o (seat_of o k)) (λ k. f (set base d k)) (children_at o (slice_index base d)))

-- the value at resolved coordinates, those of lesser ranks by `f`
abbrev pub value_step : Draft → Own → (List ℕ → Val) → (List ℕ → Outcome) → List ℕ → Outcome
value_step o own stored f base =
    unwrap_or (option_map (unfolding_of o own f base) (unfolded o own base)) (ranged (stored base))

-- with the sum of ranks at most so many
abbrev pub value_within : ℕ → Draft → Own → (List ℕ → Val) → List ℕ → Outcome
value_within zero o own stored base = ranged (stored (resolved o base))
value_within (suc ranks) o own stored base = value_step o own stored (value_within ranks o own stored) (resolved o base)

-- the sum of the ranks of the coordinates
abbrev pub ranks_of : Draft → Own → List ℕ → ℕ
ranks_of o own base = sum (map (rank_at o own) base)

abbrev pub value_at : Draft → Own → (List ℕ → Val) → List ℕ → Outcome
value_at o own stored base = value_within (ranks_of o own base) o own stored base

-- The value of a tuple, given that of each stored tuple. The attributes asked are kept throughout.
unfoldable pub value : Draft → Own → (Tuple → Val) → Tuple → Outcome
value o own stored t = value_at o own (λ base. stored (record { base = base; attrs = t.attrs })) t.base
