use Rattle.std.proofs.Common.{◌≡◌, ◌∙◌, ◌<◌, ℕ, List, Some, length, sym, ap, arith}
use Rattle.std.specs.Prelude.{Option, if◌then◌else◌}
use Rattle.std.specs.Str.{bytes_eq}
use Rattle.std.proofs.lemmas.Option.{slice_get-get_or, slice_get_within}
use Rattle.aso_num.specs.declared.value.Val.{Val}
use Rattle.aso_outline.specs.declared.draft.Tuple.{Tuple}
use Rattle.aso_calc.specs.Keys.{key_of}
use Rattle.aso_calc.specs.Tables.{at}
use Rattle.aso_calc.proofs.StoredLemmas.{given_more}
use Rattle.aso_calc.proofs.stored.StoredValues.new.Goals as goal

pub loop-at-preserved : goal.loop-at-preserved
loop-at-preserved c =
    let t : Tuple = c.index-tuple.result.now in
    let v : Val = c.index.result.now in
    let low : c.loop-at.at < length c.args.tuples.items = omega (arith, c.loop-at-test.true, c.len-at-end.ensures) in
    given_more c.args.tuples.items c.args.values.items c.requires.once (at c.loop-at.table) (at c.add.new.self) c.loop-at.at t v
    (slice_get-get_or c.args.tuples.items c.loop-at.at t low ∙ ap Some (sym c.index-tuple.ensures))
    (slice_get-get_or c.args.values.items c.loop-at.at v (omega (arith, low, c.requires.each)) ∙ ap Some (sym c.index.ensures))
    (λ q. c.in_ok-add.ensures q ∙ ap (λ (k : List ℕ). if bytes_eq k q then Some v else at c.loop-at.table q) (c.in_ok-key.ensures ∙ (ap (λ (b : List ℕ). key_of b c.items-in-loop-at.result.now) c.items.ensures ∙ ap (λ (a : List (Option ℕ)). key_of t.base a) c.items-in-loop-at.ensures)))
    c.loop-at.invariant

pub returns : goal.returns
returns c k t v is value = c.loop-at.invariant k t v (omega (arith, slice_get_within c.args.tuples.items k t is, c.loop-at-test.false, c.len-at-end.ensures)) is value
