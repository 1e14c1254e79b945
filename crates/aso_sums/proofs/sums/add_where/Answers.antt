use Rattle.std.proofs.Common.{◌∙◌, ◌<◌, arith, rules, sym, ap, length}
use Rattle.std.specs.Global.{Vec}
use Rattle.aso_num.specs.declared.value.Val.{Val}
use Rattle.aso_num.specs.declared.value.Val.TheVariants.{Missing}
use Rattle.aso_sums.specs.Summing.{row_passes}
use Rattle.aso_sums.proofs.Summing.{all_rows, all_within, next_passes, next_stays, value_there}
use Rattle.aso_sums.proofs.sums.add_where.Goals as goal
use Rattle.aso_sums.proofs.sums.add_where.Goals.{then-row_passes, else-row_passes}

pub plus-requires : goal.plus-requires
plus-requires c =
    value_there c.args.count c.args.marks.now c.args.amount c.args.rows.now c.args.values.now.items c.loop-at.values.items c.loop-at.at c.index.result.now c.index.result.now (search rules) c.requires.within c.requires.room (omega (arith, c.requires.each)) c.loop-at.invariant c.index.ensures

pub loop-at-preserved : goal.loop-at-preserved
loop-at-preserved c =
    let rows = c.args.rows.now in
    let start = c.args.values.now.items in
    let old = c.loop-at.values.items in
    let i = c.loop-at.at in
    let r = c.index-rows-at.result in
    let low : i < length start = omega (arith, c.requires.each) in
    elim c.if-row_passes.branch [
      | then-row_passes w ↦
          next_passes c.args.marks.now c.args.amount rows start old c.if-row_passes.values.items i r w.index.result.now w.plus.result c.loop-at-test.true low
          (ap (row_passes c.args.marks.now) (sym c.index-rows-at.is) ∙ sym c.row_passes.ensures ∙ w.if-row_passes.true) c.loop-at.invariant (search (rules, w.plus.ensures.value, w.index.ensures)) (search rules)
      | else-row_passes w ↦
          ap (λ (v : Vec Val). v.items) w.values-is ∙ next_stays c.args.marks.now c.args.amount rows start old i r Missing c.loop-at-test.true low
          (ap (row_passes c.args.marks.now) (sym c.index-rows-at.is) ∙ sym c.row_passes.ensures ∙ w.if-row_passes.false) c.loop-at.invariant
    ]

pub returns-clause-within : goal.returns-clause-within
returns-clause-within c =
    all_within c.args.count c.args.marks.now c.args.amount c.args.rows.now c.args.values.now.items c.loop-at.values.items (search rules) c.requires.within
    (all_rows c.args.marks.now c.args.amount c.args.rows.now c.args.values.now.items c.loop-at.values.items c.loop-at.at c.loop-at-test.false c.loop-at.invariant)
