use Rattle.std.proofs.Common.{Option, pos, ◌≡◌, ◌∙◌, ℤ, ◌+ℤ◌, ap, rules, subst, sym, SFits}
use Rattle.std.specs.Prelude.{unwrap_or}
use Rattle.std.specs.Int.{w128}
use Rattle.std.specs.BTreeMap.{insert_entry}
use Rattle.std.proofs.Math.Facts.{to_z-of_z}
use Rattle.aso_eval.specs.Entries.{vec_order}
use Rattle.aso_eval.proofs.CellLemmas.{put_is}
use Rattle.aso_eval.proofs.cells.add.Goals as goal

pub returns : goal.returns
returns c =
    let z = c.args.amount in
    let es = c.args.cells.now.entries in
    let new = c.insert.new.self.entries in
    let v = c.in-Some.sum in
    let fits : SFits w128 v = subst (SFits w128) (sym c.in-Some.ensures.1) c.in-Some.ensures.0 in
    let entries : new ≡ insert_entry vec_order es c.args.key v = c.in_ok-insert.ensures.entries ∙ ap (λ (x : ℤ). insert_entry vec_order es c.args.key x) (to_z-of_z fits) in
    let sum : v ≡ c.amount_at-before.result +ℤ z = search rules in
    put_is c.args.key z v es new c.in_ok-insert.field-0 entries (sym c.in_ok-insert.ensures.old) c.in_ok-insert.ensures.keys_stay
    (sum ∙ ap (λ (x : ℤ). x +ℤ z) c.amount_at-before.ensures ∙ ap (λ (o : Option ℤ). unwrap_or o (pos 0) +ℤ z) (sym c.in_ok-insert.ensures.old))
