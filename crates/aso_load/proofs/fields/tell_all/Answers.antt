use Rattle.std.proofs.Common.{◌∙◌, ◌++◌, rules, ap, drop, sym}
use Rattle.std.proofs.lemmas.List.{append-nil}
use Rattle.csv.specs.Records.{fields_of}
use Rattle.aso_load.specs.Records.{told_all}
use Rattle.aso_load.proofs.Steps.{no_field, told_more, told_none}
use Rattle.aso_load.proofs.fields.tell_all.Goals as goal

pub returns-in-None : goal.returns-in-None
returns-in-None c =
    let o = c.args.outline.now in
    let cs = drop c.loop-i.i c.args.columns.now in
    let done = c.loop-i.told_so_far.items in
    sym (c.loop-i.invariant
    ∙ (ap (λ fs. done ++ told_all o cs fs) (no_field (fields_of c.args.row.now) c.loop-i.i c.in-None.ensures.value)
    ∙ (ap (λ ts. done ++ ts) (told_none o cs) ∙ append-nil done)))

pub loop-i-preserved : goal.loop-i-preserved
loop-i-preserved c =
    rw (c.in_ok-push-in-Some.ensures.items, c.in_ok-told-in-Some.ensures)
    (told_more c.args.outline.now c.args.columns.now (fields_of c.args.row.now) c.loop-i.i c.index-columns-i.result c.in-Some.field.now c.loop-i.told_so_far.items _
    c.loop-i-test.true (search rules) c.in-Some.ensures.value c.loop-i.invariant)
