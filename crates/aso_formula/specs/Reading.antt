-- How a formula is read.
use Rattle.std.specs.Prelude.{ℕ, zero, suc, List, [], ◌∷◌, ◌++◌, Option, Some, None, Ok}
use Rattle.aso_token.specs.declared.token.Token.{Token}
use Rattle.aso_token.specs.declared.token.Token.TheVariants.{Name, Mark}
use Rattle.aso_token.specs.declared.token.Mark.TheVariants.{Comma}
use Rattle.aso_outline.specs.declared.draft.Expr.TheVariants.{Cell, Neg}
use Rattle.aso_token.specs.Reads.{Read, ◌>>=◌, read_one, read_then, read_as, read_if, read_if_two, read_chain, passes}
use Rattle.aso_outline.specs.declared.draft.Expr.{Expr}
use Rattle.aso_token.specs.Marks.{comma, open_mark, close_mark, name}
use Rattle.aso_formula.specs.Formula.{sum_mark, product_mark, minus, atom, from_left, negative, inner, names_of, cross}

unfoldable pub read_term : (List Token → Read Expr) → List Token → Read Expr
read_term factor = read_as (read_chain product_mark factor) from_left

unfoldable pub read_sum : (List Token → Read Expr) → List Token → Read Expr
read_sum factor = read_as (read_chain sum_mark (read_term factor)) from_left

unfoldable pub read_names : List Token → Read (List (List ℕ))
read_names = read_as (read_chain comma (read_one name)) names_of

abbrev pub behind : List ℕ → List (List ℕ) × List Token → Read (List (List ℕ))
behind first x = Ok (first ∷ x.0, x.1)

-- members behind the first
abbrev pub read_behind : List ℕ → List Token → Read (List (List ℕ))
read_behind first ts = read_names ts >>= behind first

abbrev pub grown : List (List ℕ) → Unit {0} × List ℕ → List (List ℕ)
grown all x = all ++ x.1 ∷ []

abbrev pub read_cross : List Token → Read Expr
read_cross = read_as (read_then (read_then (read_one name) (read_one comma)) read_names) cross

unfoldable pub read_inside : (List Token → Read Expr) → List Token → Read Expr
read_inside factor = read_if_two (passes name) (passes comma) read_cross (read_sum factor)

abbrev pub read_negative : (List Token → Read Expr) → List Token → Read Expr
read_negative factor = read_as (read_then (read_one minus) factor) negative

abbrev pub read_nested : (List Token → Read Expr) → List Token → Read Expr
read_nested factor = read_as (read_then (read_then (read_one open_mark) (read_inside factor)) (read_one close_mark)) inner

unfoldable pub read_factor : ℕ → List Token → Read Expr
read_factor zero = read_one atom
read_factor (suc n) = read_if (passes minus) (read_negative (read_factor n)) (read_if (passes open_mark) (read_nested (read_factor n)) (read_one atom))

-- ---- what stands behind a token that was taken

abbrev pub pair_front : List Token → Option (List ℕ × List Token)
pair_front (Name text ∷ Mark Comma ∷ ts) = Some (text, ts)
pair_front _ = None

abbrev pub crossed : List (List ℕ) × List Token → Read Expr
crossed x = Ok (Cell x.0, x.1)

abbrev pub read_rest : List ℕ → List Token → Read Expr
read_rest first ts = read_behind first ts >>= crossed

abbrev pub negated_of : Expr × List Token → Read Expr
negated_of x = Ok (Neg x.0, x.1)

abbrev pub read_negated : (List Token → Read Expr) → List Token → Read Expr
read_negated factor ts = factor ts >>= negated_of

abbrev pub left_over : Expr → Unit {0} × List Token → Read Expr
left_over e y = Ok (e, y.1)

abbrev pub closed_of : Expr × List Token → Read Expr
closed_of x = read_one close_mark x.1 >>= left_over x.0

abbrev pub read_closed : (List Token → Read Expr) → List Token → Read Expr
read_closed factor ts = read_inside factor ts >>= closed_of
