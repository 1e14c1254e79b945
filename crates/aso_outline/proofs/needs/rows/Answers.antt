use Rattle.std.proofs.Common.{◌≡◌, ◌∙◌, map, ℕ, length, ap, arith}
use Rattle.std.specs.List.{range_with_len}
use Rattle.std.proofs.lemmas.Grind.{common_steps}
use Rattle.aso_tree.proofs.Rows.{row_push}
use Rattle.aso_outline.specs.Graph.{row_at, row_of}
use Rattle.aso_outline.specs.Members.{seats}
use Rattle.aso_outline.proofs.needs.rows.Goals as goal

pub loop-number-preserved : goal.loop-number-preserved
loop-number-preserved c =
    let o = c.args.draft.now in
    let push = row_push (row_at o) row_of c.loop-number.rows.items c.loop-number.number c.loop-number.invariant c.in_ok-row.field-0 c.in_ok-row.ensures in
    grind (arith, common_steps, push)

pub returns : goal.returns
returns c =
    let o = c.args.draft.now in
    let all : c.loop-number.number ≡ length (seats o) = omega (arith, ap length c.requires.is, c.loop-number-test.false, c.loop-number.auto.number-end) in
    c.loop-number.invariant ∙ ap (λ (n : ℕ). map (row_at o) (range_with_len 0 n)) all
