use Rattle.aso_load.proofs.Standing.{stands_if}
use Rattle.aso_load.proofs.load_file.load.Goals as goal

pub returns-clause-leaves : goal.returns-clause-leaves
returns-clause-leaves c = stands_if c.args.outline.now c.args.rules.now c.args.csv.now c.load_records.result c.keeps_leaves.ensures c.load_records.ensures
