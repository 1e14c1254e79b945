-- What a field of a record comes to under its column.
use Rattle.std.specs.Prelude.{ℕ, zero, suc, ◌+◌, ◌==◌, ◌||◌, ◌&&◌, not, Bool, true, false, List, [], ◌∷◌, ◌++◌, take, drop, length, map, ℤ, Option, Some, None, Result, Ok, Err, if◌then◌else◌, codes, unwrap_or}
use Rattle.std.specs.Option.{option_map}
use Rattle.std.specs.List.{find as first, prefix_len}
use Rattle.std.specs.Str.{is_utf8}
use Rattle.aso_num.specs.AmountText.{amount_of}
use Rattle.aso_num.specs.declared.amount.NumberFault.{NumberFault}
use Rattle.aso_num.specs.declared.amount.NumberFault.TheVariants.{NotNumber, Decimals, Range}
use Rattle.aso_outline.specs.declared.draft.Draft.{Draft}
use Rattle.aso_outline.specs.Classes.{leaf_of}
use Rattle.aso_outline.specs.Members.{Name, dim_of, find, is_data_leaf, same_name}
use Rattle.aso_outline.specs.Numbers.{seat_of}
use Rattle.aso_rules.specs.declared.rules.Column.{Column}
use Rattle.aso_rules.specs.declared.rules.Column.TheVariants.{Ignore, Dimension, Amounts}
use Rattle.aso_load.specs.declared.told.Told.{Told}
use Rattle.aso_load.specs.declared.told.Told.TheVariants.{Nothing, Fault, Leaf, Amount}

-- ---- spaces

abbrev pub is_space : ℕ → Bool
is_space b = b == 32

-- how many bytes stand before the spaces at the end
abbrev pub end_of : List ℕ → ℕ
end_of [] = 0
end_of (b ∷ bs) = if (end_of bs == 0) && is_space b then 0 else suc (end_of bs)

abbrev pub without_end : List ℕ → List ℕ
without_end field = take (end_of field) field

abbrev pub without_start : List ℕ → List ℕ
without_start field = drop (prefix_len is_space field) field

-- a field without the spaces at its ends
abbrev pub trimmed : List ℕ → List ℕ
trimmed field = without_start (without_end field)

-- ---- members

-- what the first pair of this text replaces it by, or the text itself
abbrev pub replaced : List (Name × Name) → Name → Name
replaced pairs text = unwrap_or (option_map (λ p. p.1) (first (λ p. same_name p.0 text) pairs)) text

-- the data leaf that a member is, if it is one of the dimension
abbrev pub leaf_in : Draft → ℕ → ℕ → Option ℕ
leaf_in o d m = if is_data_leaf o (seat_of o m) && (dim_of (seat_of o m) == d) then leaf_of o (seat_of o m) else None

abbrev pub told_leaf : ℕ → Option ℕ → Told
told_leaf d None = Fault 4
told_leaf d (Some leaf) = Leaf d leaf

abbrev pub told_member : Draft → ℕ → Option ℕ → Told
told_member o d None = Fault 3
told_member o d (Some m) = told_leaf d (leaf_in o d m)

-- ---- amounts

abbrev pub is_missing : List ℕ → Bool
is_missing text = same_name text [] || same_name text (codes "#Mi") || same_name text (codes "#Missing")

abbrev pub told_number : Result ℤ NumberFault → Told
told_number (Ok units) = Amount units
told_number (Err (NotNumber at)) = Fault 5
told_number (Err Decimals) = Fault 5
told_number (Err Range) = Fault 6

abbrev pub told_amount : List ℕ → Told
told_amount text = if is_missing text then Nothing else told_number (amount_of text)

-- ---- fields

abbrev pub told_text : Draft → Column → List ℕ → Told
told_text o Ignore text = Nothing
told_text o (Dimension d prefix suffix replace) text = told_member o d (find o (prefix ++ (replaced replace text ++ suffix)))
told_text o (Amounts members) text = told_amount text

abbrev pub is_ignored : Column → Bool
is_ignored Ignore = true
is_ignored (Dimension d prefix suffix replace) = false
is_ignored (Amounts members) = false

-- what a field comes to: nothing, a reason to reject its record, a data leaf, or an amount
abbrev pub told : Draft → Column → List ℕ → Told
told o column field = if is_ignored column || is_utf8 (trimmed field) then told_text o column (trimmed field) else Fault 2
