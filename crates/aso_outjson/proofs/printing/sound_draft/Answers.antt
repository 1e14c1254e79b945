use Rattle.aso_outjson.proofs.Sound.{sound_attrs, sound_dims}
use Rattle.aso_outjson.proofs.printing.sound_draft.Goals as goal

pub returns-clause-dims : goal.returns-clause-dims
returns-clause-dims c = sound_dims c.args.outline.now c.sound_draft.ensures.trees c.keeps_roots.ensures

pub returns-clause-attrs : goal.returns-clause-attrs
returns-clause-attrs c = sound_attrs c.args.outline.now c.sound_draft.ensures.trees c.keeps_roots.ensures
