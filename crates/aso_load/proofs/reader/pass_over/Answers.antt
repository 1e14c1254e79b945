use Rattle.std.proofs.Common.{◌∙◌, arith, sym}
use Rattle.csv.specs.Records.{fields_of}
use Rattle.aso_load.specs.Csv.{left_of}
use Rattle.aso_load.proofs.Steps.{drop_more, drop_past}
use Rattle.aso_load.proofs.reader.pass_over.Goals as goal

pub returns-then-not-branch-clause-end : goal.returns-then-not-branch-clause-end
returns-then-not-branch-clause-end c _ =
    drop_past (left_of c.args.reader.now) c.loop-passed.passed c.args.count (omega (arith, c.loop-passed-test.true))
    (sym c.loop-passed.invariant.left ∙ c.in_ok-next.ensures.end c.if-not-branch.true)

pub loop-passed-preserved : goal.loop-passed-preserved
loop-passed-preserved c = record {
  reading = c.in_ok-next.ensures.reading c.if-not-branch.false;
  left =
      sym (drop_more (left_of c.args.reader.now) c.loop-passed.passed (fields_of c.next.new.row) (left_of c.next.new.reader)
      (sym c.loop-passed.invariant.left ∙ c.in_ok-next.ensures.next c.if-not-branch.false));
}
