use Rattle.std.proofs.Common.{◌∙◌, ◌++◌, List, refl, sym, ap, arith, append_assoc, map}
use Rattle.aso_mdx.specs.declared.query.SetText.{SetText}
use Rattle.aso_axes.specs.Sets.{Path, paths_of}
use Rattle.aso_axes.proofs.CountLemmas.{flat_put}
use Rattle.aso_axes.proofs.SetSteps.{paths_crossjoin}
use Rattle.aso_axes.proofs.paths.+paths.Goals as goal

pub push_items-loop-item-preserved : goal.push_items-loop-item-preserved
push_items-loop-item-preserved t c =
    flat_put paths_of c.args.items.now c.loop-item.item-index c.item-item.result (map (λ a. a.now) c.args.all.now.items) (map (λ a. a.now) c.loop-item.all.items) (map (λ a. a.now) c.push_paths.new.all.items)
    (paths_of c.item-item.result) (omega arith) c.item-item.is c.loop-item.invariant c.in_ok-push_paths.ensures refl

pub push_paths-returns-in_ok-push_paths-in-Crossjoin-2 : goal.push_paths-returns-in_ok-push_paths-in-Crossjoin-2
push_paths-returns-in_ok-push_paths-in-Crossjoin-2 t c =
    let before : List Path = map (λ a. a.now) c.args.all.now.items in
    let left : SetText = c.in-Crossjoin.left in
    let right : SetText = c.in-Crossjoin.right in
    c.in_ok-push_paths-in-Crossjoin-2.ensures
    ∙ (ap (λ (xs : List Path). xs ++ paths_of c.get-in-Crossjoin.result.now) c.in_ok-push_paths-in-Crossjoin.ensures
    ∙ (append_assoc before (paths_of c.get.result.now) (paths_of c.get-in-Crossjoin.result.now)
    ∙ (ap (λ (s : SetText). before ++ (paths_of s ++ paths_of c.get-in-Crossjoin.result.now)) c.get.ensures
    ∙ (ap (λ (s : SetText). before ++ (paths_of left ++ paths_of s)) c.get-in-Crossjoin.ensures
    ∙ ap (λ (xs : List Path). before ++ xs) (sym (ap paths_of c.in-Crossjoin.is ∙ paths_crossjoin left right))))))
