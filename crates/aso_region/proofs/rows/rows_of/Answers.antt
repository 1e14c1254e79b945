use Rattle.std.specs.List.{list_all}
use Rattle.std.proofs.Common.{◌∙◌, ap, arith}
use Rattle.aso_axes.specs.Members.{may_have}
use Rattle.aso_axes.specs.declared.part.Purpose.TheVariants.{Region as Covers}
use Rattle.aso_region.specs.Kept.{AreChosen, members_of}
use Rattle.aso_region.proofs.CoverLemmas.{all_at, all_more, put_more}
use Rattle.aso_region.proofs.rows.rows_of.Goals as goal

pub row_of-requires : goal.row_of-requires
row_of-requires c =
    ap (list_all (may_have c.args.outline.now Covers)) c.items.ensures
    ∙ all_at (list_all (may_have c.args.outline.now Covers)) c.args.tuples.now c.loop-members.members-index c.members-item.result c.requires (omega arith) c.members-item.is

pub loop-members-preserved : goal.loop-members-preserved
loop-members-preserved c = record {
  members = put_more members_of c.args.tuples.now c.loop-members.members-index c.members-item.result c.loop-members.rows.items c.push.new.self.items c.in_ok-row.row (omega arith) c.members-item.is c.loop-members.invariant.members c.in_ok-push.ensures.items (c.in_ok-row.ensures.members ∙ c.items.ensures);
  exact = all_more (AreChosen c.args.outline.now) c.loop-members.rows.items c.push.new.self.items c.in_ok-row.row c.loop-members.invariant.exact c.in_ok-push.ensures.items c.in_ok-row.ensures.exact;
}
