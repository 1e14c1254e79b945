use Rattle.std.proofs.Common.{ap, ◌∙◌, ℕ, List}
use Rattle.aso_outtext.specs.Tables.{last_in}
use Rattle.aso_outtext.proofs.DraftLemmas.{last_in-longer}
use Rattle.aso_outtext.proofs.drafting.lengthen.Goals as goal

pub loop-last-preserved : goal.loop-last-preserved
loop-last-preserved c e = ap (λ (xs : List ℕ). last_in xs e) c.in_ok-push.ensures.items ∙ last_in-longer c.loop-last.last.items e ∙ c.loop-last.invariant e
