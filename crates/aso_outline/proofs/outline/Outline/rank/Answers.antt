use Rattle.std.proofs.Common.{◌≡◌, ◌∙◌, ◌≤◌, ℕ, List, Option, length, get_or, sym, ap, arith}
use Rattle.std.specs.Prelude.{unwrap_or}
use Rattle.std.proofs.lemmas.List.FromFn.{get_or-map-range_with_len, length-map-range_with_len}
use Rattle.std.proofs.lemmas.Option.{none-some}
use Rattle.aso_outline.specs.Members.{seats}
use Rattle.aso_outline.specs.Ranks.{rank, rank_of}
use Rattle.aso_outline.proofs.outline.Outline.rank.Goals as goal

pub index-requires : goal.index-requires
index-requires c =
    let o = c.args.self.now in
    let long : length c.tables-tables.result.now.ranks.items ≡ length (seats o) = ap length c.tables-tables.ensures.ranks ∙ length-map-range_with_len (rank o) 0 (length (seats o)) in
    omega (arith, c.tables-tables.result.now.ranks.ok, long, c.requires)

pub unreachable-requires : goal.unreachable-requires
unreachable-requires c =
    let o = c.args.self.now in
    let r : Option ℕ = c.index.result.now in
    let is : r ≡ rank o c.args.m =
    c.index.ensures ∙ (ap (λ (xs : List (Option ℕ)). get_or xs c.args.m r) c.tables-tables.ensures.ranks ∙ get_or-map-range_with_len (rank o) 0 (length (seats o)) c.args.m c.args.m r c.requires (omega arith)) in
    none-some (rank_of o c.args.m) (sym c.in-None.is ∙ (is ∙ c.keeps_ranks.ensures.known c.args.m))

pub returns-clause-value : goal.returns-clause-value
returns-clause-value c =
    let o = c.args.self.now in
    let r : Option ℕ = c.index.result.now in
    let is : r ≡ rank o c.args.m =
    c.index.ensures ∙ (ap (λ (xs : List (Option ℕ)). get_or xs c.args.m r) c.tables-tables.ensures.ranks ∙ get_or-map-range_with_len (rank o) 0 (length (seats o)) c.args.m c.args.m r c.requires (omega arith)) in
    ap (λ (x : Option ℕ). unwrap_or x 0) (sym c.in-Some.is ∙ is)

pub returns-clause-bound : goal.returns-clause-bound
returns-clause-bound c =
    let o = c.args.self.now in
    let r : Option ℕ = c.index.result.now in
    let is : r ≡ rank o c.args.m =
    c.index.ensures ∙ (ap (λ (xs : List (Option ℕ)). get_or xs c.args.m r) c.tables-tables.ensures.ranks ∙ get_or-map-range_with_len (rank o) 0 (length (seats o)) c.args.m c.args.m r c.requires (omega arith)) in
    let same : c.in-Some.rank ≡ rank_of o c.args.m = ap (λ (x : Option ℕ). unwrap_or x 0) (sym c.in-Some.is ∙ is) in
    let most : rank_of o c.args.m ≤ 64 = c.keeps_ranks.ensures.bound c.args.m c.requires in
    omega (arith, same, most)
