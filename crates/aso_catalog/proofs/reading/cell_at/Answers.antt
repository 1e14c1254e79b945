use Rattle.std.proofs.Common.{refl, rules}
use Rattle.aso_catalog.proofs.Fields.{bad_weaker, short_cell, no_amount, cell_found}
use Rattle.aso_catalog.proofs.reading.cell_at.Goals as goal

pub returns-in-Err-clause-bad : goal.returns-in-Err-clause-bad
returns-in-Err-clause-bad c = bad_weaker c.in-Err.fault _ _ c.in-Err.ensures.bad (λ short cell front rest is. short_cell c.args.dimensions cell front rest c.args.bytes.now short is)

pub returns-in_default-clause-bad : goal.returns-in_default-clause-bad
returns-in_default-clause-bad c =
    let leaves = c.in-Ok.found.0.items in
    let found = c.in-Ok.ensures in
    (refl, no_amount c.args.dimensions leaves c.in-Ok.found.1.now c.args.bytes.now found.count found.small found.found c.in_default.ensures.none)

pub returns-clause-found : goal.returns-clause-found
returns-clause-found c =
    let found = c.in-Ok.ensures in
    cell_found c.args.dimensions c.in-Ok.found.0.items c.in-Ok.found.1.now c.args.bytes.now c.in-Some.size c.leaf_cell.result found.count found.small found.found c.in-Some.ensures.size
    c.leaf_cell.ensures.leaves c.leaf_cell.ensures.fits (search rules)
