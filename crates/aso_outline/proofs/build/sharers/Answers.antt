use Rattle.std.specs.HashMap.{get_by_text}
use Rattle.std.specs.List.{filter, position}
use Rattle.std.proofs.Common.{◌≡◌, ◌∙◌, ℕ, List, [], Option, ap, arith, length, map, sym}
use Rattle.aso_tree.specs.Trees.{places_of}
use Rattle.aso_outline.specs.declared.draft.DraftMember.{DraftMember}
use Rattle.aso_outline.specs.Classes.{leaf_count}
use Rattle.aso_outline.specs.Leaves.{is_data_place}
use Rattle.aso_outline.specs.Members.{Name, dim_at, leaf_names, names_at, tree}
use Rattle.aso_outline.specs.Rules.{shares}
use Rattle.aso_outline.proofs.LeafNames.{got, map_same, names_long}
use Rattle.aso_outline.proofs.build.sharers.Goals as goal

pub returns : goal.returns
unfolding leaf_names
returns c =
    let o = c.args.draft.now in
    let d = c.args.dim in
    let t0 : List DraftMember = tree (dim_at o d) 0 in
    let t : List DraftMember = tree (dim_at o d) c.args.hier in
    let f : Name → Option ℕ = get_by_text c.in_ok-names.names.map in
    let g : Name → Option ℕ = λ name. position (shares name) t in
    let xs : List Name = names_at t0 (filter (is_data_place t0) (places_of t0)) in
    let long : leaf_count o d ≡ length xs = sym (names_long t0 (is_data_place t0) (length t0) (omega arith)) in
    c.in_ok-found.ensures
    ∙ (ap (λ (ms : List DraftMember). map f (names_at ms (filter (is_data_place ms) (places_of ms)))) c.sound_tree-first.ensures.value
    ∙ (map_same f g (λ q. c.in_ok-names.ensures q ∙ ap (position (shares q)) c.sound_tree-own.ensures.value) xs
    ∙ got g xs [] (leaf_count o d) long))
