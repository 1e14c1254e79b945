use Rattle.std.specs.List.{filter, position}
use Rattle.std.proofs.Common.{◌∙◌, List, ap}
use Rattle.aso_tree.specs.Trees.{places_of}
use Rattle.aso_outline.specs.declared.draft.DraftMember.{DraftMember}
use Rattle.aso_outline.specs.Leaves.{is_data_place}
use Rattle.aso_outline.specs.Members.{leaf_names, names_at, same_name}
use Rattle.aso_outline.proofs.build.dim_table.Goals as goal

pub tree_tables-requires-clause-names : goal.tree_tables-requires-clause-names
unfolding leaf_names
tree_tables-requires-clause-names c = λ q.
    c.in_ok-names.ensures q ∙ ap (λ (ms : List DraftMember). position (same_name q) (names_at ms (filter (is_data_place ms) (places_of ms)))) c.sound_tree-members.ensures.value
