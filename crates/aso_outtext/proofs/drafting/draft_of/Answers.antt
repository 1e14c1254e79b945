use Rattle.std.proofs.Common.{◌∙◌}
use Rattle.aso_outtext.proofs.DraftLemmas.{draft_made}
use Rattle.aso_outtext.proofs.drafting.draft_of.Goals as goal

pub returns : goal.returns
returns c =
    draft_made c.in_ok-text_of.field-0 c.in_ok-text_of-2.field-0 c.of.result c.of-2.result c.args.said.now c.in_ok-text_of.ensures c.in_ok-text_of-2.ensures
    (c.of.ensures ∙ (rw c.deref.ensures.value at c.in_ok-dims.ensures)) (c.of-2.ensures ∙ c.new.ensures.items)
