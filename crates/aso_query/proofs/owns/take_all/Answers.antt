use Rattle.std.proofs.Common.{sym}
use Rattle.aso_query.proofs.Takings.{refused_later, taken_more}
use Rattle.aso_query.proofs.owns.take_all.Goals as goal

pub loop-member-preserved : goal.loop-member-preserved
loop-member-preserved c =
    let o = c.args.outline.now in
    let before = c.loop-member.extra.members.items in
    let next = c.take.new.extra.members.items in
    let ws = c.args.own.now in
    let i = c.loop-member.member-index in
    let w = c.member-item.result in
    let kept = c.loop-member.invariant in
    record {
      taken = taken_more o before ws i w c.loop-member-test.true (sym c.member-item.is) next c.in_ok-take.ensures.next kept.taken;
      refused = refused_later o before ws i w c.loop-member-test.true (sym c.member-item.is) next c.in_ok-take.ensures.next kept.refused;
    }
