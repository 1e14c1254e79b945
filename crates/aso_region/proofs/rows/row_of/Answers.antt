use Rattle.std.proofs.Common.{arith}
use Rattle.aso_region.specs.declared.chosen.Chosen.{Chosen}
use Rattle.aso_region.specs.Kept.{IsChosen}
use Rattle.aso_region.proofs.CoverLemmas.{all_more, put_number}
use Rattle.aso_region.proofs.rows.row_of.Goals as goal

pub loop-m-preserved : goal.loop-m-preserved
loop-m-preserved c = record {
  members = put_number (λ (x : Chosen). x.member) c.args.members.now c.loop-m.m-index c.loop-m.row.items c.push.new.self.items c.chosen_of-chosen.result (omega arith) c.loop-m.invariant.members c.in_ok-push.ensures.items c.chosen_of-chosen.ensures.member;
  exact = all_more (IsChosen c.args.outline.now) c.loop-m.row.items c.push.new.self.items c.chosen_of-chosen.result c.loop-m.invariant.exact c.in_ok-push.ensures.items c.chosen_of-chosen.ensures.exact;
}
