-- Members of the outline and those behind them.
use Rattle.std.proofs.Common.{◌≡◌, ℕ, ◌<◌, length, refl}
use Rattle.std.proofs.lemmas.Bool.{lt-ltb}
use Rattle.aso_outline.specs.declared.draft.Draft.{Draft}
use Rattle.aso_outline.specs.Members.{seats}
use Rattle.aso_outline.specs.Numbers.{seat_of}
use Rattle.aso_outline.specs.Ranks.{children}
use Rattle.aso_calc.specs.Values.{children_at}

pub children_inside : (o : Draft) (n : ℕ) → n < length (seats o) → children_at o n ≡ children o n (seat_of o n)
children_inside o n low = rw (lt-ltb _ _ low) refl
