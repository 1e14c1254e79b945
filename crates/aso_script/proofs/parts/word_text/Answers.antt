use Rattle.aso_script.proofs.ByteLemmas.{word_is_text}
use Rattle.aso_script.proofs.parts.word_text.Goals as goal

pub unreachable-requires : goal.unreachable-requires
unreachable-requires c = c.in_default.ensures.cases.0 (word_is_text c.args.word.now c.requires)
