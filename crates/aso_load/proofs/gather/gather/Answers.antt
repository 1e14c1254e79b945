use Rattle.std.proofs.Common.{map}
use Rattle.csv.specs.Records.{fields_of}
use Rattle.aso_load.specs.Csv.{left_of}
use Rattle.aso_load.specs.Records.{outcome}
use Rattle.aso_load.proofs.Steps.{one_record_more}
use Rattle.aso_load.proofs.gather.gather.Goals as goal

pub loop-row-preserved : goal.loop-row-preserved
loop-row-preserved c = record {
  reading = c.in_ok-next.ensures.reading c.if-not-branch.false;
  fixed = c.loop-row.invariant.fixed;
  so_far =
      one_record_more c.args.outline.now c.args.rules.now (map (outcome c.args.outline.now c.args.rules.now) (left_of c.args.reader.now)) c.args.first c.loop-row.row
      c.loop-row.gathered c.add_record.new.gathered (left_of c.loop-row.reader) (left_of c.next.new.reader) (fields_of c.next.new.row)
      (c.in_ok-next.ensures.next c.if-not-branch.false) c.in_ok-add_record.ensures c.loop-row.invariant.so_far;
}
