use Rattle.std.proofs.Common.{rules, arith}
use Rattle.aso_sums.proofs.Asking.{extends_further}
use Rattle.aso_sums.proofs.Placing.{no_coordinate, none_covers, placed_more, still_placed}
use Rattle.aso_sums.proofs.rows.places_of.Goals as goal

pub returns-in-None-clause-places : goal.returns-in-None-clause-places
returns-in-None-clause-places c =
    none_covers c.args.outline.now c.place_of.new.asked.members.items c.args.coordinates.now c.loop-dim.dim-index no_coordinate (omega arith) (search (rules, c.in_ok-place.ensures.place, c.in-None.is))

pub loop-dim-preserved : goal.loop-dim-preserved
loop-dim-preserved c = record {
  asking = c.in_ok-place.ensures.asking;
  extends = extends_further c.args.asked.now.members.items c.loop-dim.asked.members.items c.place_of.new.asked.members.items c.loop-dim.invariant.extends c.in_ok-place.ensures.extends;
  placed = placed_more c.args.outline.now c.place_of.new.asked.members.items c.loop-dim.places.items c.push.new.self.items c.args.coordinates.now c.loop-dim.dim-index c.in-Some.place no_coordinate (omega arith) c.in_ok-push-in-Some.ensures.items
      (search (rules, c.in_ok-place.ensures.place, c.in-Some.is))
      (still_placed c.args.outline.now c.loop-dim.asked.members.items c.place_of.new.asked.members.items c.loop-dim.places.items _ c.in_ok-place.ensures.extends c.loop-dim.invariant.placed);
}
