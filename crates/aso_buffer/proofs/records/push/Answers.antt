use Rattle.std.proofs.Common.{◌≡◌, ◌∙◌, ◌∷◌, [], ◌++◌, ℕ, List, length, refl, ap, arith}
use Rattle.aso_buffer.specs.Rows.{leaves_in, records_of}
use Rattle.aso_buffer.specs.declared.row.Row.{Row}
use Rattle.aso_buffer.proofs.RowLemmas.{leaves_more, records_more}
use Rattle.aso_buffer.proofs.records.push.Goals as goal

pub returns-clause-added : goal.returns-clause-added
returns-clause-added c =
    let rows = c.args.rows.now.items in
    let leaves = c.args.leaves.now.items in
    let r : Row = record { leaves = length c.args.own.now; amount = c.args.amount } in
    ap (λ (xs : List Row). records_of xs c.extend_from_slice.new.self.items) c.in_ok-push.ensures.items
    ∙ (ap (λ (ls : List ℕ). records_of (rows ++ r ∷ []) ls) c.in_ok-extend_from_slice.ensures.items
    ∙ records_more rows leaves r c.args.own.now c.requires refl)

pub returns-clause-whole : goal.returns-clause-whole
returns-clause-whole c =
    let rows = c.args.rows.now.items in
    let r : Row = record { leaves = length c.args.own.now; amount = c.args.amount } in
    let more : leaves_in c.push.new.self.items ≡ leaves_in (rows ++ r ∷ []) = ap leaves_in c.in_ok-push.ensures.items in
    let count = leaves_more rows r in
    let long = c.in_ok-extend_from_slice.ensures.len in
    let whole = c.requires in
    omega (arith, more, count, long, whole)
