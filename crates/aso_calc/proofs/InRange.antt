-- Values are in range, or out of range.
use Rattle.std.proofs.Common.{rules, ◌≡◌, ℕ, zero, suc, ◌≤◌, ◌^◌, Bool, true, false, List, [], ◌∷◌, map, Option, Some, None, refl, ap}
use Rattle.std.specs.Prelude.{ℤ, unsigned_abs, unwrap_or, Result, Ok, Err, IfOk, nat_le, if◌then◌else◌, slice_index, set}
use Rattle.std.specs.Option.{option_map}
use Rattle.std.specs.List.{fold}
use Rattle.std.proofs.lemmas.Bool.{leb-true, le-leb}
use mathlib.Core.Former.{Count}
use Rattle.aso_num.specs.declared.value.Val.{Val}
use Rattle.aso_num.specs.declared.value.Val.TheVariants.{Missing, Num as Number}
use Rattle.aso_num.specs.declared.value.OutOfRange.{OutOfRange}
use Rattle.aso_num.specs.Numbers.{IsInRange, difference_of, negative_of, product_of, quotient_of, ranged, sum_of}
use Rattle.aso_outline.specs.declared.draft.Draft.{Draft}
use Rattle.aso_outline.specs.declared.draft.Op.{Op}
use Rattle.aso_outline.specs.declared.draft.Op.TheVariants.{Plus, Minus, Times, Over, Skip}
use Rattle.aso_outline.specs.declared.draft.Expr.{Expr, Num, Cell, Neg', Bin'}
use Rattle.aso_outline.specs.declared.draft.Expr.TheBlock.{Row_of-Expr, end_of-Expr, more_of-Expr}
use Rattle.aso_outline.specs.Atoms.{Atom}
use Rattle.aso_outline.specs.Marks.{op_of}
use Rattle.aso_outline.specs.Numbers.{seat_of}
use Rattle.aso_calc.specs.Positions.{checked}
use Rattle.aso_calc.specs.Values.{Outcome, Own, applied, both, children_at, children_value, combined, formula_at, formula_value, negated, replaced, resolved, row_value, unfolded, unfolding_of, value_step, value_within}

abbrev pub IsFine : Outcome → Type 0
IsFine r = IfOk r IsInRange

ranged_num : (z : ℤ) (b : Bool) → nat_le (unsigned_abs z) (10 ^ 30) ≡ b → IsFine (if b then Ok (Number z) else Err (record {}))
ranged_num z true is = leb-true _ _ is
ranged_num z false is = tt

pub ranged_fine : (v : Val) → IsFine (ranged v)
ranged_fine Missing = tt
ranged_fine (Number z) = ranged_num z (nat_le (unsigned_abs z) (10 ^ 30)) refl

negated_fine : (r : Outcome) → IsFine r → IsFine (negated r)
negated_fine (Ok Missing) fine = tt
negated_fine (Ok (Number z)) fine = negative_fine z fine
  where
    negative_fine : (z : ℤ) → unsigned_abs z ≤ 10 ^ 30 → IsInRange (negative_of (Number z))
    negative_fine z low = search (rules, low)
negated_fine (Err e) fine = tt

combined_fine : (op : Op) (a b : Val) → IsInRange a → IsFine (combined op a b)
combined_fine Plus a b low = ranged_fine (sum_of a b)
combined_fine Minus a b low = ranged_fine (difference_of a b)
combined_fine Times a b low = ranged_fine (product_of a b)
combined_fine Over a b low = ranged_fine (quotient_of a b)
combined_fine Skip a b low = low

both_fine : (op : Op) (a b : Outcome) → IsFine a → IsFine (both (combined op) a b)
both_fine op (Ok a) (Ok b) fine = combined_fine op a b fine
both_fine op (Ok a) (Err e) fine = tt
both_fine op (Err e) b fine = tt

applied_fine : (op : Op) (a b : Outcome) → IsFine a → IsFine (applied op a b)
applied_fine Plus a b fine = both_fine Plus a b fine
applied_fine Minus a b fine = both_fine Minus a b fine
applied_fine Times a b fine = both_fine Times a b fine
applied_fine Over a b fine = both_fine Over a b fine
applied_fine Skip a b fine = fine

module _ (f : Atom → Outcome) (fine : (names : Atom) → IsFine (f names)) where
  mutual
    formula_fine : (e : Expr) → IsFine (formula_value f e)
    formula_fine (Num z) = ranged_fine (Number z)
    formula_fine (Cell names) = fine names
    formula_fine (Neg' p e) = negated_fine (row_value f 1 e) (row_fine 1 e)
    formula_fine (Bin' op p left q right) = applied_fine op (row_value f 1 left) (row_value f 1 right) (row_fine 1 left)

    row_fine : (k : Count) (row : Row_of-Expr k) → IsFine (row_value f k row)
    row_fine _ end_of-Expr = tt
    row_fine _ (more_of-Expr e rest) = formula_fine e

children_fine : (op : ℕ → Op) (f : ℕ → Outcome) (ks : List ℕ) (r : Outcome) → IsFine r → IsFine (fold (λ r k. applied (op k) r (f k)) r ks)
children_fine op f [] r fine = fine
children_fine op f (k ∷ ks) r fine = children_fine op f ks (applied (op k) r (f k)) (applied_fine (op k) r (f k) fine)

module _ (o : Draft) (own : Own) (stored : List ℕ → Val) where
  unfolding_fine : (f : List ℕ → Outcome) → ((base : List ℕ) → IsFine (f base)) → (base : List ℕ) (d : ℕ) → IsFine (unfolding_of o own f base d)
  unfolding_fine f fine base d = by_formula (formula_at o own (slice_index base d))
    where
      by_formula : (e : Option Expr) → IsFine (unwrap_or (option_map (formula_value (λ names. f (replaced o base names))) e) (children_value (λ k. op_of o (seat_of o k)) (λ k. f (set base d k)) (children_at o (slice_index base d))))
      by_formula (Some e) = formula_fine (λ names. f (replaced o base names)) (λ names. fine (replaced o base names)) e
      by_formula None = children_fine (λ k. op_of o (seat_of o k)) (λ k. f (set base d k)) (children_at o (slice_index base d)) (Ok Missing) tt

  step_fine : (f : List ℕ → Outcome) → ((base : List ℕ) → IsFine (f base)) → (base : List ℕ) → IsFine (value_step o own stored f base)
  step_fine f fine base = by_choice (unfolded o own base)
    where
      by_choice : (d : Option ℕ) → IsFine (unwrap_or (option_map (unfolding_of o own f base) d) (ranged (stored base)))
      by_choice (Some d) = unfolding_fine f fine base d
      by_choice None = ranged_fine (stored base)

  pub within_fine : (ranks : ℕ) (base : List ℕ) → IsFine (value_within ranks o own stored base)
  within_fine zero base = ranged_fine (stored (resolved o base))
  within_fine (suc ranks) base = step_fine (value_within ranks o own stored) (within_fine ranks) (resolved o base)

checked_num : (z : ℤ) → unsigned_abs z ≤ 10 ^ 30 → checked (Ok (Number z)) ≡ Ok (Number z)
checked_num z low = rw (le-leb _ _ low) refl

pub checked_same : (r : Outcome) → IsFine r → checked r ≡ r
checked_same (Ok Missing) fine = refl
checked_same (Ok (Number z)) fine = checked_num z fine
checked_same (Err e) fine = refl
