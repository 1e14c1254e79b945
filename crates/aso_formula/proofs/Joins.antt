-- Texts that are appended one behind the other.
use Rattle.std.proofs.Common.{◌≡◌, ℕ, ◌+◌, List, ◌++◌, sym, ◌∙◌, ap, append_assoc, nat_lt}
use Rattle.aso_outline.specs.declared.draft.Op.{Op}
use Rattle.aso_outline.specs.declared.draft.Expr.{Expr}
use Rattle.aso_outline.specs.declared.draft.Expr.TheVariants.{Bin}
use Rattle.aso_formula.specs.Printing.{level_of, op_text, only_if, shown_step, shown}
use Rattle.aso_formula.proofs.Trees.{fold_bin}

pub glued : (o p l m r q a b c d e : List ℕ) → a ≡ o ++ p → b ≡ a ++ l → c ≡ b ++ m → d ≡ c ++ r → e ≡ d ++ q → e ≡ o ++ (p ++ ((l ++ (m ++ r)) ++ q))
glued o p l m r q a b c d e at bt ct dt et =
    et
    ∙ ap (λ z. z ++ q) (dt ∙ ap (λ z. z ++ r) (ct ∙ ap (λ z. z ++ m) (bt ∙ ap (λ z. z ++ l) at)))
    ∙ ap (λ z. z ++ q) (append_assoc ((o ++ p) ++ l) m r ∙ append_assoc (o ++ p) l (m ++ r))
    ∙ append_assoc (o ++ p) (l ++ (m ++ r)) q
    ∙ append_assoc o p ((l ++ (m ++ r)) ++ q)

pub glued_shown : (o a b c d f : List ℕ) (e l r : Expr) (op : Op) (own least : ℕ) → e ≡ Bin op l r → own ≡ level_of op → a ≡ o ++ only_if (nat_lt own least) 40 → b ≡ a ++ shown l own → c ≡ b ++ op_text op → d ≡ c ++ shown r (own + 1) → f ≡ d ++ only_if (nat_lt own least) 41 → f ≡ o ++ shown e least
glued_shown o a b c d f e l r op own least is level at bt ct dt ft =
    glued o (only_if (nat_lt own least) 40) (shown l own) (op_text op) (shown r (own + 1)) (only_if (nat_lt own least) 41) a b c d f at bt ct dt ft
    ∙ ap (λ (k : ℕ). o ++ (only_if (nat_lt k least) 40 ++ ((shown l k ++ (op_text op ++ shown r (k + 1))) ++ only_if (nat_lt k least) 41))) level
    ∙ ap (λ (z : ℕ → List ℕ). o ++ z least) (sym (fold_bin (ℕ → List ℕ) shown_step op l r))
    ∙ ap (λ (z : Expr). o ++ shown z least) (sym is)
