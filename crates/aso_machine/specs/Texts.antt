-- Texts that the code makes, if it makes them.
use Rattle.std.specs.Prelude.{ℕ, List, Option}
use Rattle.std.specs.Option.{option_map}
use Rattle.std.specs.Global.{Vec}

abbrev pub text_of : Option (Vec ℕ) → Option (List ℕ)
text_of found = option_map (λ (v : Vec ℕ). v.items) found
