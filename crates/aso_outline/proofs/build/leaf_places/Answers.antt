use Rattle.std.proofs.Common.{◌∙◌, ◌++◌, ◌∷◌, [], Bool, List, ℕ, cond, sym, ap}
use Rattle.std.specs.List.{filter, range_with_len}
use Rattle.aso_outline.specs.Leaves.{is_data_place}
use Rattle.aso_outline.proofs.TableLemmas.{filter_more}
use Rattle.aso_outline.proofs.build.leaf_places.Goals as goal

pub loop-place-preserved : goal.loop-place-preserved
loop-place-preserved c =
    let p : ℕ → Bool = is_data_place c.args.members.now in
    let n = c.loop-place.place in
    c.in_ok-push_if.ensures
    ∙ (ap (λ (xs : List ℕ). xs ++ cond c.is_data_place.result (n ∷ []) []) c.loop-place.invariant
    ∙ (ap (λ (b : Bool). filter p (range_with_len 0 n) ++ cond b (n ∷ []) []) c.is_data_place.ensures ∙ sym (filter_more p n)))
