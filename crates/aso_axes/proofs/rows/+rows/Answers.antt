use Rattle.std.proofs.Common.{◌≡◌, ◌∙◌, ◌++◌, [], ℕ, List, refl, sym, ap, arith, append-nil}
use Rattle.aso_mdx.specs.declared.query.SetText.{SetText}
use Rattle.aso_axes.specs.Sets.{crossed, rows_of}
use Rattle.aso_axes.proofs.CountLemmas.{flat_put}
use Rattle.aso_axes.proofs.SetSteps.{rows_crossjoin}
use Rattle.aso_axes.proofs.rows.+rows.Goals as goal

pub push_items-loop-item-preserved : goal.push_items-loop-item-preserved
push_items-loop-item-preserved t c =
    flat_put (rows_of c.args.outline.now c.args.own.now) c.args.items.now c.loop-item.item-index c.item-item.result c.args.rows.now.items c.loop-item.rows.items c.push_rows.new.rows.items
    (rows_of c.args.outline.now c.args.own.now c.item-item.result) (omega arith) c.item-item.is c.loop-item.invariant c.in_ok-push_rows.ensures refl

pub push_rows-returns-then-branch : goal.push_rows-returns-then-branch
push_rows-returns-then-branch t c =
    let rows : SetText → List (List ℕ) = rows_of c.args.outline.now c.args.own.now in
    let none : rows c.args.set.now ≡ [] =
    ap rows c.in-Crossjoin.is
    ∙ (rows_crossjoin c.args.outline.now c.args.own.now c.in-Crossjoin.left c.in-Crossjoin.right
    ∙ (ap (λ (s : SetText). crossed (rows s) (rows c.in-Crossjoin.right)) (sym c.get.ensures)
    ∙ (ap (λ (s : SetText). crossed (rows c.get.result.now) (rows s)) (sym c.get-in-Crossjoin.ensures)
    ∙ c.in_ok-is_empty_crossing-in-Crossjoin.ensures c.if-branch.true))) in
    sym (ap (λ (xs : List (List ℕ)). c.args.rows.now.items ++ xs) none ∙ append-nil c.args.rows.now.items)
