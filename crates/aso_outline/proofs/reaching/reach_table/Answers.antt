use Rattle.std.proofs.Common.{◌≡◌, ◌∙◌, ◌≤◌, suc, ℕ, Bool, List, false, length, map, get_or, sym, ap, arith}
use Rattle.aso_tree.specs.Trees.{places_of}
use Rattle.aso_outline.specs.Members.{seats}
use Rattle.aso_outline.specs.Ranks.{reaches}
use Rattle.aso_outline.proofs.GraphRows.{rows_long}
use Rattle.aso_outline.proofs.RankTurns.{reach_stays}
use Rattle.aso_outline.proofs.Turns.{table_long}
use Rattle.aso_outline.proofs.reaching.reach_table.Goals as goal

pub returns-then-is_done : goal.returns-then-is_done
returns-then-is_done c =
    let o = c.args.draft.now in
    let t = c.loop-turn.turn in
    let low : t ≤ length (seats o) = omega (arith, rows_long o c.args.rows.now c.requires.rows, c.loop-turn-test.true) in
    let next : List (Bool) = c.in_ok-next.next.items in
    let here : c.as_slice-in-loop-turn.result.now ≡ next = c.as_slice-in-loop-turn.ensures.value in
    let long : length c.as_slice-in-loop-turn.result.now ≡ length (seats o) = ap length here ∙ table_long (reaches (suc c.loop-turn.turn) o c.args.goal) (length (seats o)) next c.in_ok-next.ensures in
    reach_stays o t c.args.goal c.loop-turn.reach.items next low c.loop-turn.invariant c.in_ok-next.ensures
    (λ k less. ap (λ (xs : List (Bool)). get_or xs k false) (sym here)
    ∙ (c.are_same-is_done.ensures c.if-is_done.true k (omega (arith, long, less)) ∙ ap (λ (xs : List (Bool)). get_or xs k false) c.as_slice-in-loop-turn-2.ensures.value))

pub returns : goal.returns
returns c =
    let o = c.args.draft.now in
    let all : c.loop-turn.turn ≡ length (seats o) = omega (arith, rows_long o c.args.rows.now c.requires.rows, c.loop-turn-test.false, c.loop-turn.auto.turn-end) in
    c.loop-turn.invariant ∙ ap (λ (n : ℕ). map (reaches n o c.args.goal) (places_of (seats o))) all
