use Rattle.aso_buffer.proofs.LeafLemmas.{have_keys}
use Rattle.aso_buffer.proofs.buffer.Buffer.keeps_keys.Goals as goal

pub returns : goal.returns
returns c = have_keys c.args.outline.now c.args.view.now.choices c.args.layout.now c.args.self.now.records c.requires.base c.requires.own c.requires.leaves
