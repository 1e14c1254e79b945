use Rattle.std.proofs.lemmas.Grind.{common_steps}
use Rattle.std.proofs.Common.{arith}
use Rattle.aso_tree.proofs.Paths.{filter_range_push}
use Rattle.aso_outline.specs.Leaves.{is_data_place}
use Rattle.aso_outline.proofs.leaves.data_places.Goals as goal

pub loop-place-preserved : goal.loop-place-preserved
loop-place-preserved c = let push = filter_range_push (is_data_place c.args.members.now) c.loop-place.place in grind (arith, common_steps, push)
