-- The number of a name is that of a member.
use Rattle.std.specs.Prelude.{slice_get, unwrap_or}
use Rattle.std.specs.Option.{option_map}
use Rattle.std.proofs.Common.{◌≡◌, ◌∙◌, ◌<◌, ℕ, Option, Some, get_or, length, ap, sym}
use Rattle.std.proofs.lemmas.Option.{slice_get-get_or}
use Rattle.aso_outline.specs.declared.draft.Draft.{Draft}
use Rattle.aso_outline.specs.declared.seat.Seat.{Seat}
use Rattle.aso_outline.specs.declared.seat.Seat.TheVariants.{Whole}
use Rattle.aso_outline.specs.Members.{Name, find, own_name, same_name, seats}
use Rattle.aso_outline.specs.Numbers.{seat_of}
use Rattle.aso_outline.proofs.Nexts.{position_within}
use Rattle.std.proofs.Common.{false}

pub number_within : (o : Draft) (q : Name) (n : ℕ) → find o q ≡ Some n → n < length (seats o)
unfolding find
number_within o q n is = position_within (λ s. unwrap_or (option_map (same_name q) (own_name o s)) false) (seats o) n (sym is)

pub seat_there : (o : Draft) (n : ℕ) → n < length (seats o) → slice_get (seats o) n ≡ Some (seat_of o n)
seat_there o n low =
    let is : slice_get (seats o) n ≡ Some (get_or (seats o) n (Whole 0)) = slice_get-get_or (seats o) n (Whole 0) low in
    is ∙ ap (λ (s : Seat). Some s) (sym (ap (λ (x : Option Seat). unwrap_or x (Whole 0)) is))
