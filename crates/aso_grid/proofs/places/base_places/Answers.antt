use Rattle.std.proofs.Common.{rules}
use Rattle.aso_grid.specs.Places.{base_place_of}
use Rattle.aso_grid.proofs.Turns.{mapped_put}
use Rattle.aso_grid.proofs.places.base_places.Goals as goal

pub loop-dim-preserved : goal.loop-dim-preserved
loop-dim-preserved c = mapped_put (base_place_of c.args.outline.now c.args.dims.now) c.loop-dim.dim c.loop-dim.places.items c.push.new.self.items c.base_place.result c.loop-dim.invariant (search rules) c.base_place.ensures
