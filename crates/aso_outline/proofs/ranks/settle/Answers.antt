use Rattle.std.proofs.Common.{◌≡◌, ◌∙◌, ◌<◌, ℕ, List, Option, true, length, sym, ap, arith}
use Rattle.aso_outline.specs.Graph.{rank_after}
use Rattle.std.specs.Prelude.{is_some}
use Rattle.aso_outline.proofs.GraphRows.{rows_long}
use Rattle.aso_outline.proofs.KnownRanks.{set_keeps, set_known, set_there}
use Rattle.aso_outline.proofs.ranks.settle.Goals as goal

pub index_mut-requires : goal.index_mut-requires
index_mut-requires c =
    omega (arith, c.requires.known.long, rows_long c.args.draft.now c.args.rows.now c.requires.rows, c.requires.within, c.args.ranks.now.ok)

pub returns-then-is_some-clause-known : goal.returns-then-is_some-clause-known
returns-then-is_some-clause-known c =
    let o = c.args.draft.now in
    let ranks = c.args.ranks.now.items in
    let low : c.args.number < length ranks = omega (arith, c.requires.known.long, rows_long o c.args.rows.now c.requires.rows, c.requires.within) in
    set_known o ranks c.requires.known c.args.number low c.rank_after-rank.result c.rank_after-rank.ensures.right

pub returns-then-is_some-clause-kept : goal.returns-then-is_some-clause-kept
returns-then-is_some-clause-kept c =
    let o = c.args.draft.now in
    let ranks = c.args.ranks.now.items in
    let low : c.args.number < length ranks = omega (arith, c.requires.known.long, rows_long o c.args.rows.now c.requires.rows, c.requires.within) in
    let some : is_some c.rank_after-rank.result ≡ true = sym c.is_some.ensures ∙ c.if-is_some.true in
    set_keeps o ranks c.requires.known c.args.number low c.rank_after-rank.result c.rank_after-rank.ensures.right some

pub returns-then-is_some-clause-found : goal.returns-then-is_some-clause-found
returns-then-is_some-clause-found c r e =
    let o = c.args.draft.now in
    let ranks = c.args.ranks.now.items in
    let low : c.args.number < length ranks = omega (arith, c.requires.known.long, rows_long o c.args.rows.now c.requires.rows, c.requires.within) in
    set_there o ranks c.requires.known c.args.number low c.rank_after-rank.result r (c.rank_after-rank.ensures.value ∙ (ap (λ (xs : List (Option ℕ)). rank_after o xs c.args.number) c.as_slice.ensures.value ∙ e))
