use Rattle.std.specs.Prelude.{option_to_list}
use Rattle.std.specs.Option.{option_map}
use Rattle.std.specs.HashMap.{get_by_text}
use Rattle.std.specs.List.{filter, range_with_len}
use Rattle.std.proofs.Common.{◌∙◌, ◌<◌, ◌++◌, ◌∷◌, [], ℕ, List, Bool, Option, ap, arith, cond, length, map, sym}
use Rattle.std.proofs.lemmas.List.{map-append}
use Rattle.aso_outline.specs.Leaves.{is_data_place, name_in}
use Rattle.aso_outline.specs.Members.{Name, names_at}
use Rattle.aso_outline.proofs.LeafNames.{listed, names_more}
use Rattle.aso_outline.proofs.sharers.leaf_sharers.Goals as goal

pub loop-place-preserved : goal.loop-place-preserved
loop-place-preserved c =
    let ms = c.args.members.now in
    let f : Name → Option ℕ = get_by_text c.args.names.now.map in
    let p : ℕ → Bool = is_data_place ms in
    let n = c.loop-place.place in
    let low : n < length ms = omega arith in
    let front : List Name = names_at ms (filter p (range_with_len 0 n)) in
    c.in_ok-push_found.ensures
    ∙ (ap (λ (xs : List (Option ℕ)). xs ++ map f (option_to_list (option_map (λ r. r.now) c.leaf_name.result))) c.loop-place.invariant
    ∙ (ap (λ (x : Option Name). map f front ++ map f (option_to_list x)) c.leaf_name.ensures
    ∙ (ap (λ (xs : List (Option ℕ)). map f front ++ xs) (listed f (p n) (name_in ms n))
    ∙ sym (ap (map f) (names_more ms p n low) ∙ map-append f front (cond (p n) (name_in ms n ∷ []) [])))))
