-- A text that spells a formula has no fault.
use Rattle.std.proofs.Common.{◌≡◌, ◌∙◌, ℕ, true, false, List, [], ◌∷◌, ◌++◌, append_assoc, append-nil, sym, subst}
use Rattle.std.proofs.lemmas.List.{map-append}
use Rattle.aso_token.specs.declared.token.Placed.{Placed}
use Rattle.aso_token.specs.declared.cutting.Cut.{Cut}
use Rattle.aso_token.specs.Cutting.{cut}
use Rattle.aso_token.specs.Reads.{tokens_of}
use Rattle.aso_token.specs.Texts.{Stuck}
use Rattle.aso_outline.specs.declared.draft.Expr.{Expr}
use Rattle.aso_formula.specs.Formula.{Formula, IsFormulaFault, SpellsFormula}
use Rattle.aso_formula.proofs.Answered as answered

pub one_formula : (text : List ℕ) (e f : Expr) → SpellsFormula text e → SpellsFormula text f → e ≡ f
one_formula text e f h k = answered.one_formula text e f h k

-- the tokens up to the first that can't stand there, and those behind it
stuck_at : (c : Cut) (front rest : List Placed) (e : Expr) → Stuck Formula c front rest → c.whole ≡ true → Formula (tokens_of (front ++ rest)) e → ⊥
stuck_at c front [] e here whole spelled = here whole e (subst (λ ps. Formula (tokens_of ps) e) (append-nil front) spelled)
stuck_at c front (p ∷ ps) e here whole spelled =
    here (tokens_of ps, e, subst (λ ts. Formula ts e) (map-append (λ (q : Placed). q.token) front (p ∷ ps) ∙ sym (append_assoc (tokens_of front) (p.token ∷ []) (tokens_of ps))) spelled)

pub no_fault : (text : List ℕ) (at : ℕ) (e : Expr) → IsFormulaFault text at → SpellsFormula text e → ⊥
no_fault text at e fault spelled =
    stuck_at (cut false text) fault.front fault.rest e fault.here spelled.0 (subst (λ ps. Formula (tokens_of ps) e) fault.parts spelled.1)
