use Rattle.std.proofs.Common.{rules}
use Rattle.aso_grid.specs.Places.{attr_place_of}
use Rattle.aso_grid.proofs.Turns.{mapped_put}
use Rattle.aso_grid.proofs.places.attr_places.Goals as goal

pub loop-attr-preserved : goal.loop-attr-preserved
loop-attr-preserved c = mapped_put (attr_place_of c.args.dims.now) c.loop-attr.attr c.loop-attr.places.items c.push.new.self.items c.place_in.result c.loop-attr.invariant (search rules) c.place_in.ensures
