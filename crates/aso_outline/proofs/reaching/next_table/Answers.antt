use Rattle.std.proofs.Common.{◌≡◌, ◌∙◌, suc, ℕ, length, map, ap, arith}
use Rattle.std.specs.List.{range_with_len}
use Rattle.std.proofs.lemmas.Grind.{common_steps}
use Rattle.aso_tree.proofs.Paths.{map_push}
use Rattle.aso_outline.specs.Members.{seats}
use Rattle.aso_outline.specs.Ranks.{reaches}
use Rattle.aso_outline.proofs.GraphRows.{rows_long}
use Rattle.aso_outline.proofs.reaching.next_table.Goals as goal

pub loop-number-preserved : goal.loop-number-preserved
loop-number-preserved c = let push = map_push (reaches (suc c.args.turn) c.args.draft.now c.args.goal) c.loop-number.number in grind (arith, common_steps, push)

pub returns : goal.returns
returns c =
    let o = c.args.draft.now in
    let all : c.loop-number.number ≡ length (seats o) = omega (arith, rows_long o c.args.rows.now c.requires.rows, c.loop-number-test.false, c.loop-number.auto.number-end) in
    c.loop-number.invariant ∙ ap (λ (n : ℕ). map (reaches (suc c.args.turn) c.args.draft.now c.args.goal) (range_with_len 0 n)) all
