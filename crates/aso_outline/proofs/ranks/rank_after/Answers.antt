use Rattle.std.proofs.Common.{◌≡◌, ◌∙◌, ◌<◌, ◌^◌, ℕ, List, length, map, sym, ap, arith}
use Rattle.aso_outline.specs.declared.row.Standing.{Standing}
use Rattle.aso_outline.specs.Graph.{rank_in, row_at, row_of}
use Rattle.aso_outline.specs.Members.{seats}
use Rattle.aso_outline.specs.Ranks.{greatest_rank, rank_from}
use Rattle.aso_outline.proofs.GraphRows.{row_there, rows_long}
use Rattle.aso_outline.proofs.KnownRanks.{after_right, after_small}
use Rattle.aso_outline.proofs.ranks.rank_after.Goals as goal

pub rank_from-requires : goal.rank_from-requires
rank_from-requires c =
    let o = c.args._draft.now in
    let row = c.index-rows-number.result in
    let ranks = c.args.ranks.now in
    let there : row_of row ≡ row_at o c.args.number = row_there o c.args.rows.now c.requires.rows c.args.number row c.requires.within c.index-rows-number.is in
    let few : length (seats o) < 2 ^ 32 = omega (arith, rows_long o c.args.rows.now c.requires.rows, c.requires.short) in
    after_small o ranks c.requires.known c.args.number (rank_from row.standing c.greatest.result)
    (ap (rank_from row.standing) (c.greatest.ensures ∙ ap (λ (ks : List ℕ). greatest_rank (map (rank_in ranks) ks)) c.as_slice.ensures.value)
    ∙ ap (λ (r : Standing × List ℕ). rank_from r.0 (greatest_rank (map (rank_in ranks) r.1))) there) few

pub returns-clause-value : goal.returns-clause-value
returns-clause-value c =
    let o = c.args._draft.now in
    let row = c.index-rows-number.result in
    let ranks = c.args.ranks.now in
    let there : row_of row ≡ row_at o c.args.number = row_there o c.args.rows.now c.requires.rows c.args.number row c.requires.within c.index-rows-number.is in
    c.rank_from.ensures
    ∙ (ap (rank_from row.standing) (c.greatest.ensures ∙ ap (λ (ks : List ℕ). greatest_rank (map (rank_in ranks) ks)) c.as_slice.ensures.value)
    ∙ ap (λ (r : Standing × List ℕ). rank_from r.0 (greatest_rank (map (rank_in ranks) r.1))) there)

pub returns-clause-right : goal.returns-clause-right
returns-clause-right c r e =
    let o = c.args._draft.now in
    let row = c.index-rows-number.result in
    let ranks = c.args.ranks.now in
    let there : row_of row ≡ row_at o c.args.number = row_there o c.args.rows.now c.requires.rows c.args.number row c.requires.within c.index-rows-number.is in
    after_right o ranks c.requires.known c.args.number r
    (sym (c.rank_from.ensures
    ∙ (ap (rank_from row.standing) (c.greatest.ensures ∙ ap (λ (ks : List ℕ). greatest_rank (map (rank_in ranks) ks)) c.as_slice.ensures.value)
    ∙ ap (λ (r : Standing × List ℕ). rank_from r.0 (greatest_rank (map (rank_in ranks) r.1))) there)) ∙ e)
