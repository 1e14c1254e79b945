use Rattle.std.proofs.Common.{◌≡◌, ◌∙◌, ◌+◌, ◌<◌, ◌++◌, ◌∷◌, [], ℕ, Bool, List, false, length, map, sym, ap, arith, append_assoc, append-nil}
use Rattle.std.specs.List.{filter, range_with_len}
use Rattle.std.proofs.lemmas.List.{map-append}
use Rattle.aso_tree.specs.Trees.{is_under}
use Rattle.aso_tree.proofs.Paths.{filter_range_push}
use Rattle.aso_outline.specs.declared.draft.DraftMember.{DraftMember}
use Rattle.aso_outline.specs.Members.{parents_of, place_of, tree_of}
use Rattle.aso_outline.specs.Ranks.{is_child_place, number_in}
use Rattle.aso_outline.proofs.ChildPlaces.{all_found, none_yet}
use Rattle.aso_outline.proofs.needs.push_children.Goals as goal

pub loop-at-init : goal.loop-at-init
loop-at-init c =
    let o = c.args.draft.now in
    let s = c.args.seat in
    let before : List ℕ = c.args.needs.now.items in
    let none = none_yet o s c.requires.trees c.requires.placed (c.place_of-place.result + 1) (ap (λ (n : ℕ). n + 1) c.place_of-place.ensures) in
    sym (ap (λ (ks : List ℕ). before ++ map (number_in c.args.number s) ks) none ∙ append-nil before)

pub returns-then-not-is_under : goal.returns-then-not-is_under
returns-then-not-is_under c =
    let o = c.args.draft.now in
    let s = c.args.seat in
    let at = c.loop-at.at in
    let after : place_of s < at = omega (arith, c.loop-at.auto.at, c.place_of-place.ensures) in
    let fits : at < length (tree_of o s) = omega (arith, c.loop-at-test.true, ap length c.sound_tree-tree.ensures.value) in
    let out : is_under (parents_of (tree_of o s)) (place_of s) at ≡ false =
    ap (λ (ms : List DraftMember). is_under (parents_of ms) (place_of s) at) (sym c.sound_tree-tree.ensures.value)
    ∙ (ap (λ (top : ℕ). is_under (parents_of c.sound_tree-tree.result.now) top at) (sym c.place_of-place.ensures) ∙ (sym c.is_under.ensures ∙ c.if-not-is_under.true)) in
    c.loop-at.invariant
    ∙ ap (λ (ks : List ℕ). c.args.needs.now.items ++ map (number_in c.args.number s) ks) (sym (all_found o s c.requires.trees c.requires.placed at after (omega (arith, fits)) (λ _. out)))

pub loop-at-preserved : goal.loop-at-preserved
loop-at-preserved c =
    let o = c.args.draft.now in
    let s = c.args.seat in
    let at = c.loop-at.at in
    let child : ℕ → Bool = is_child_place o s in
    let number : ℕ → ℕ = number_in c.args.number s in
    let before : List ℕ = c.args.needs.now.items in
    let some : List ℕ = filter child (range_with_len 0 at) in
    let more : List ℕ = filter child (at ∷ []) in
    c.in_ok-push_child.ensures
    ∙ (ap (λ (xs : List ℕ). xs ++ map number more) c.loop-at.invariant
    ∙ (append_assoc before (map number some) (map number more)
    ∙ ap (λ (xs : List ℕ). before ++ xs) (sym (map-append number some more) ∙ ap (map number) (sym (filter_range_push child at)))))
