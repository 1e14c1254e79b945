-- The grammar of formulas.
use Rattle.std.specs.Prelude.{ℕ, zero, suc, false, List, [], ◌∷◌, map, Option, Some, None, option_map, fold}
use Rattle.aso_token.specs.Numerals.{number_of}
use Rattle.aso_token.specs.declared.token.Token.{Token}
use Rattle.aso_token.specs.declared.token.Token.TheVariants.{Number, Name, Mark}
use Rattle.aso_token.specs.declared.token.Mark.TheVariants.{Plus, Minus, Star, Slash}
use Rattle.aso_token.specs.Lang.{Lang, One, Then, Or, Makes, Chain}
use Rattle.aso_token.specs.Texts.{Spells, IsFaultAt}
use Rattle.aso_token.specs.Marks.{comma, open_mark, close_mark, name}
use Rattle.aso_outline.specs.declared.draft.Op.{Op}
use Rattle.aso_outline.specs.declared.draft.Op.TheVariants as op
use Rattle.aso_outline.specs.declared.draft.Expr.{Expr}
use Rattle.aso_outline.specs.declared.draft.Expr.TheVariants.{Num, Cell, Neg, Bin}

-- ---- tokens

abbrev pub sum_mark : Token → Option Op
sum_mark (Mark Plus) = Some op.Plus
sum_mark (Mark Minus) = Some op.Minus
sum_mark _ = None

abbrev pub product_mark : Token → Option Op
product_mark (Mark Star) = Some op.Times
product_mark (Mark Slash) = Some op.Over
product_mark _ = None

abbrev pub minus : Token → Option (Unit {0})
minus (Mark Minus) = Some tt
minus _ = None

-- a number within the range of amounts, or a member
abbrev pub atom : Token → Option Expr
atom (Number text) = option_map Num (number_of text)
atom (Name text) = Some (Cell (text ∷ []))
atom _ = None

-- ---- what is made of them

abbrev pub operated : Expr → Op × Expr → Expr
operated left x = Bin x.0 left x.1

abbrev pub from_left : Expr × List (Op × Expr) → Expr
from_left v = fold operated v.0 v.1

abbrev pub negative : Unit {0} × Expr → Expr
negative v = Neg v.1

abbrev pub inner : (Unit {0} × Expr) × Unit {0} → Expr
inner v = v.0.1

abbrev pub names_of : List ℕ × List (Unit {0} × List ℕ) → List (List ℕ)
names_of v = v.0 ∷ map (λ x. x.1) v.1

abbrev pub cross : (List ℕ × Unit {0}) × List (List ℕ) → Expr
cross v = Cell (v.0.0 ∷ v.1)

-- ---- the rules

-- factors with * and / between them
abbrev pub Term : Lang Expr → Lang Expr
Term Factor = Makes (Chain product_mark Factor) from_left

-- terms with + and - between them
abbrev pub Sum : Lang Expr → Lang Expr
Sum Factor = Makes (Chain sum_mark (Term Factor)) from_left

abbrev pub Names : Lang (List (List ℕ))
Names = Makes (Chain comma (One name)) names_of

-- two members or more, or a formula
abbrev pub Inside : Lang Expr → Lang Expr
Inside Factor = Or (Makes (Then (Then (One name) (One comma)) Names) cross) (Sum Factor)

abbrev pub Negative : Lang Expr → Lang Expr
Negative Factor = Makes (Then (One minus) Factor) negative

abbrev pub Nested : Lang Expr → Lang Expr
Nested Factor = Makes (Then (Then (One open_mark) (Inside Factor)) (One close_mark)) inner

-- a factor in which at most so many signs and parentheses nest
abbrev pub Factor : ℕ → Lang Expr
Factor zero = One atom
Factor (suc n) = Or (Negative (Factor n)) (Or (Nested (Factor n)) (One atom))

-- a formula: at most 64 nest
unfoldable pub Formula : Lang Expr
Formula = Sum (Factor 64)

-- ---- whole texts

-- a text spells a formula where its tokens, between which only white space stands, do
abbrev pub SpellsFormula : List ℕ → Expr → Type 0
SpellsFormula text e = Spells false Formula text e

-- where a text that spells none is at fault
abbrev pub IsFormulaFault : List ℕ → ℕ → Type 0
IsFormulaFault text at = IsFaultAt false Formula text at
