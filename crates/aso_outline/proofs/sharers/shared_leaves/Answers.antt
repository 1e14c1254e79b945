use Rattle.std.specs.Option.{option_and_then}
use Rattle.std.specs.HashMap.{get_by_text}
use Rattle.std.specs.List.{range_with_len}
use Rattle.std.proofs.Common.{◌≡◌, ◌∙◌, ◌++◌, ◌∷◌, [], ℕ, List, Option, ap, map, sym}
use Rattle.aso_tree.proofs.Paths.{map_push}
use Rattle.aso_outline.specs.Leaves.{name_in, shared_in}
use Rattle.aso_outline.specs.Members.{Name, member_is}
use Rattle.aso_outline.proofs.LeafNames.{found_in}
use Rattle.aso_outline.proofs.sharers.shared_leaves.Goals as goal

pub loop-place-preserved : goal.loop-place-preserved
loop-place-preserved c =
    let ms = c.args.members.now in
    let f : Name → Option ℕ = get_by_text c.args.names.now.map in
    let n = c.loop-place.place in
    let is : c.found_if.result ≡ shared_in f ms n = c.found_if.ensures ∙ (ap (option_and_then f) c.sharer_name.ensures ∙ found_in f (member_is (λ m. m.shared) ms n) (name_in ms n)) in
    c.in_ok-push.ensures.items
    ∙ (ap (λ (xs : List (Option ℕ)). xs ++ c.found_if.result ∷ []) c.loop-place.invariant
    ∙ (ap (λ (x : Option ℕ). map (shared_in f ms) (range_with_len 0 n) ++ x ∷ []) is ∙ sym (map_push (shared_in f ms) n)))
