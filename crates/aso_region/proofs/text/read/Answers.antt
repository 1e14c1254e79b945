use Rattle.aso_region.proofs.text.read.Goals as goal

pub returns-in-Err-clause-refused : goal.returns-in-Err-clause-refused
returns-in-Err-clause-refused c = c.of_syntax.ensures c.args.outline.now c.args.text.now c.in-Err.ensures.fault

pub returns-in-Err-tuples_of-clause-refused : goal.returns-in-Err-tuples_of-clause-refused
returns-in-Err-tuples_of-clause-refused c = c.of_axis.ensures c.args.outline.now c.args.text.now c.in-Ok.set c.in-Ok.ensures.found c.in-Err-tuples_of.ensures.refused
