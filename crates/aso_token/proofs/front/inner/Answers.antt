use Rattle.std.proofs.lemmas.Str.{IsCharBoundary-after_ascii}
use Rattle.aso_token.proofs.front.inner.Goals as goal

pub bytes_after-requires : goal.bytes_after-requires
bytes_after-requires c = IsCharBoundary-after_ascii c.args.text.now 0 c.utf8.text c.requires.some c.requires.ascii
