-- Members by their numbers, and the leaves that names name.
use Rattle.std.proofs.Common.{◌≡◌, ℕ, zero, suc, ◌<◌, List, [], ◌∷◌, length, Some, refl, arith}
use Rattle.std.specs.Prelude.{slice_get, unwrap_or}
use Rattle.aso_outline.specs.declared.seat.Seat.{Seat}
use Rattle.aso_outline.specs.declared.seat.Seat.TheVariants.{Whole}

pub got_some : (xs : List Seat) (i : ℕ) → i < length xs → Some (unwrap_or (slice_get xs i) (Whole 0)) ≡ slice_get xs i
got_some [] i low = absurd (omega (arith, low))
got_some (x ∷ xs) zero low = refl
got_some (x ∷ xs) (suc i) low = got_some xs i (omega (arith, low))
