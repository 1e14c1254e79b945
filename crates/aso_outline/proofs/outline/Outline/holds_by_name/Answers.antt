use Rattle.std.proofs.Common.{◌∙◌, List, ap, sym}
use Rattle.aso_outline.specs.declared.draft.DraftMember.{DraftMember}
use Rattle.aso_outline.specs.Members.{dim_at, has_under, tree}
use Rattle.aso_outline.proofs.HoldLemmas.{held_by_name}
use Rattle.aso_outline.proofs.outline.Outline.holds_by_name.Goals as goal

pub returns : goal.returns
returns c =
    let o = c.args.self.now in
    let d = c.args.dim in
    let h = c.args.hier in
    c.has_under.ensures ∙ (ap (λ (ms : List DraftMember). has_under ms c.args.at c.leaf_name.result.now) c.tree-members.ensures.value
    ∙ (ap (has_under (tree (dim_at o d) h) c.args.at) c.leaf_name.ensures ∙ sym (held_by_name o d c.args.leaf h c.args.at c.requires.leaf)))
