-- The rows of all members.
use Rattle.std.specs.Prelude.{slice_get, unwrap_or, if◌then◌else◌}
use Rattle.std.specs.Option.{option_map}
use Rattle.std.proofs.Common.{◌≡◌, ◌∙◌, ℕ, ◌<◌, List, [], length, get_or, Option, Some, false, sym, ap, arith, true≢false}
use Rattle.std.proofs.lemmas.List.{length-map}
use Rattle.std.proofs.lemmas.List.FromFn.{length-range_with_len}
use Rattle.aso_tree.specs.Trees.{places_of}
use Rattle.aso_tree.proofs.Rows.{at_row}
use Rattle.aso_outline.specs.declared.draft.Draft.{Draft}
use Rattle.aso_outline.specs.declared.row.Row.{Row}
use Rattle.aso_outline.specs.declared.row.Standing.{Standing}
use Rattle.aso_outline.specs.declared.row.Standing.TheVariants.{Stored}
use Rattle.aso_outline.specs.declared.seat.Seat.{Seat}
use Rattle.aso_outline.specs.declared.seat.Seat.TheVariants.{Whole, Inner, Carried}
use Rattle.aso_outline.specs.Graph.{AreRows, row_at, row_of}
use Rattle.aso_outline.specs.Members.{is_computed, place_of, seats, tree_of}
use Rattle.aso_outline.specs.Numbers.{IsSeat}
use Rattle.aso_outline.specs.Ranks.{is_label, needs_at, standing_at, standing_of}

module _ (o : Draft) (rows : List Row) (are : AreRows o rows) where
  pub rows_long : length rows ≡ length (seats o)
  rows_long = sym (length-map rows row_of) ∙ (ap length are ∙ (length-map (places_of (seats o)) (row_at o) ∙ length-range_with_len 0 (length (seats o))))

  pub row_there : (n : ℕ) (r : Row) → n < length rows → r ≡ get_or rows n r → row_of r ≡ row_at o n
  row_there n r low is = ap row_of is ∙ at_row (row_at o) row_of rows (length (seats o)) are n (omega (arith, rows_long, low)) r

-- a row from the member that stands there
pub is_row : (o : Draft) (n : ℕ) (s : Seat) → slice_get (seats o) n ≡ Some s → (st : Standing) (ks : List ℕ) → st ≡ standing_at o s → ks ≡ (if is_computed o s then needs_at o n s else []) → (st, ks) ≡ row_at o n
is_row o n s there st ks standing needed =
    ap (λ (x : Standing). (x, ks)) (standing ∙ sym (ap (λ (found : Option Seat). unwrap_or (option_map (standing_at o) found) Stored) there))
    ∙ ap (λ (xs : List ℕ). (standing_of o n, xs)) (needed ∙ sym (ap (λ (found : Option Seat). unwrap_or (option_map (λ (s : Seat). if is_computed o s then needs_at o n s else []) found) []) there))

-- a member that isn't label only stands in a tree
pub within_tree : (o : Draft) (s : Seat) → is_label o s ≡ false → IsSeat o s → place_of s < length (tree_of o s)
within_tree o (Whole d) plain there = absurd (true≢false plain)
within_tree o (Inner d h i) plain there = there.2
within_tree o (Carried a i) plain there = there.1
