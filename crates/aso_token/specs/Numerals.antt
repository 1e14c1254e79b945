-- The number that a token writes.
use Rattle.std.specs.Prelude.{ℕ, ◌+◌, List, length, ℤ, Option, None, nat_le, if◌then◌else◌}
use Rattle.std.specs.Result.{result_ok}
use Rattle.aso_num.specs.AmountText.{digits_len, amount_of}

-- an amount in range, of whose text a point and at most four decimals stand behind the whole part
abbrev pub number_of : List ℕ → Option ℤ
number_of text = if nat_le (length text) (digits_len text + 5) then result_ok (amount_of text) else None
