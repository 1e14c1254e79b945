use Rattle.std.specs.Prelude.{if◌then◌else◌}
use Rattle.std.specs.HashMap.{get_by_text}
use Rattle.std.proofs.Common.{◌∙◌, ℕ, List, Option, None, ap, map}
use Rattle.aso_tree.specs.Trees.{places_of}
use Rattle.aso_outline.specs.declared.draft.DraftMember.{DraftMember}
use Rattle.aso_outline.specs.Classes.{shared_leaf}
use Rattle.aso_outline.specs.Leaves.{name_in, shared_in}
use Rattle.aso_outline.specs.Members.{Name, dim_at, member_is, tree}
use Rattle.aso_outline.proofs.LeafNames.{map_same}
use Rattle.aso_outline.proofs.build.shared.Goals as goal

pub returns : goal.returns
returns c =
    let o = c.args.draft.now in
    let t : List DraftMember = tree (dim_at o c.args.dim) c.args.hier in
    let f : Name → Option ℕ = get_by_text c.args.names.now.map in
    c.in_ok-found.ensures
    ∙ (ap (λ (ms : List DraftMember). map (shared_in f ms) (places_of ms)) c.sound_tree-own.ensures.value
    ∙ map_same (shared_in f t) (shared_leaf o c.args.dim c.args.hier) (λ i. ap (λ (x : Option ℕ). if member_is (λ m. m.shared) t i then x else None) (c.requires.names (name_in t i))) (places_of t))
