-- A text spells one formula at most.
use Rattle.std.proofs.Common.{◌≡◌, ℕ, List, false}
use Rattle.aso_token.specs.Reads.{tokens_of}
use Rattle.aso_token.specs.Cutting.{cut}
use Rattle.aso_token.proofs.Wholes.{text_one}
use Rattle.aso_outline.specs.declared.draft.Expr.{Expr}
use Rattle.aso_formula.specs.Formula.{Formula, SpellsFormula}
use Rattle.aso_formula.specs.Reading.{read_sum, read_factor}
use Rattle.aso_formula.proofs.Laws.{sum_goes, formula_law}

pub one_formula : (text : List ℕ) (e f : Expr) → SpellsFormula text e → SpellsFormula text f → e ≡ f
one_formula text e f s t = text_one Formula sum_goes (read_sum (read_factor 64)) formula_law (tokens_of (cut false text).placed) e f s.1 t.1
