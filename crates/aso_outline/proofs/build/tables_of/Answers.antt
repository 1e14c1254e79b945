use Rattle.std.proofs.Common.{◌≤◌, arith, length}
use Rattle.aso_outline.specs.Members.{seats}
use Rattle.aso_outline.proofs.Kept.{has_trees, is_small}
use Rattle.aso_outline.proofs.KeptRules.{kept_counts}
use Rattle.aso_outline.proofs.build.tables_of.Goals as goal

pub sound_tables-requires-clause-trees : goal.sound_tables-requires-clause-trees
sound_tables-requires-clause-trees c = has_trees c.args.draft.now c.requires.kept

pub sound_tables-requires-clause-small : goal.sound_tables-requires-clause-small
sound_tables-requires-clause-small c = is_small c.args.draft.now c.requires.kept

pub sound_tables-requires-clause-few : goal.sound_tables-requires-clause-few
sound_tables-requires-clause-few c =
    let most : length (seats c.args.draft.now) ≤ 1048576 = (kept_counts c.args.draft.now c.requires.kept).few_members in
    omega (arith, most)
