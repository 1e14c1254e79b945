-- What a rules file says before an outline is asked.
use Rattle.std.specs.Prelude.{ℕ, ◌==◌, ◌||◌, ◌&&◌, not, nat_le, nat_lt, Bool, List, [], ◌∷◌, length, Option, Some, None, option_and_then, if◌then◌else◌, codes}
use Rattle.std.specs.Option.{option_map}
use Rattle.serde_json.specs.Data.{Data}
use Rattle.serde_json.specs.Find.{as_array, as_number, as_str, as_u64, get}
use Rattle.aso_outline.specs.Members.{Name, same_name}
use Rattle.aso_rules.specs.Json.{has_only, is_true, list_of, listed, or_default}
use Rattle.aso_rules.specs.declared.fields.Fields.{Fields}
use Rattle.aso_rules.specs.declared.fields.Fields.TheVariants.{OfFile, OfDimension, OfAmounts, OfIgnored}
use Rattle.aso_rules.specs.declared.written.WrittenColumn.{WrittenColumn}
use Rattle.aso_rules.specs.declared.written.WrittenColumn.TheVariants.{Ignored, Dimension, Amounts}

-- ---- the names of fields

-- the fields of a file, of a column of names, of a column of amounts, and of a column that is passed over
abbrev pub is_field : Fields → Name → Bool
is_field OfFile k = same_name k (codes "delimiter") || same_name k (codes "header_records") || same_name k (codes "columns") || same_name k (codes "fixed")
is_field OfDimension k = same_name k (codes "dimension") || same_name k (codes "prefix") || same_name k (codes "suffix") || same_name k (codes "replace")
is_field OfAmounts k = same_name k (codes "data")
is_field OfIgnored k = same_name k (codes "ignore")

-- ---- the head of a file

-- an ASCII character that is no quote and ends no line
abbrev pub is_delimiter : ℕ → Bool
is_delimiter b = nat_lt b 128 && not (b == 34 || b == 13 || b == 10)

abbrev pub delimiter_in : List ℕ → Option ℕ
delimiter_in [] = None
delimiter_in (b ∷ []) = if is_delimiter b then Some b else None
delimiter_in (b ∷ c ∷ rest) = None

-- a comma where none is written
abbrev pub delimiter_of : Data → Option ℕ
delimiter_of d = or_default (λ v. option_and_then delimiter_in (as_str v)) 44 (get (codes "delimiter") d)

abbrev pub up_to_1000 : ℕ → Option ℕ
up_to_1000 n = if nat_le n 1000 then Some n else None

-- no header record where none is written
abbrev pub header_records_of : Data → Option ℕ
header_records_of d = or_default (λ v. option_and_then up_to_1000 (option_and_then as_u64 (as_number v))) 0 (get (codes "header_records") d)

-- ---- columns

abbrev pub texts_of : Data → Option (List Name)
texts_of d = list_of as_str d

abbrev pub both_texts : Data → Data → Option (Name × Name)
both_texts a b = option_and_then (λ x. option_map (λ y. (x, y)) (as_str b)) (as_str a)

abbrev pub pair_in : List Data → Option (Name × Name)
pair_in [] = None
pair_in (a ∷ []) = None
pair_in (a ∷ b ∷ []) = both_texts a b
pair_in (a ∷ b ∷ c ∷ ds) = None

-- a list of two texts
abbrev pub pair_of : Data → Option (Name × Name)
pair_of d = option_and_then (λ items. pair_in (listed items)) (as_array d)

-- what stands before or behind each name; nothing where it isn't written
abbrev pub affix_of : Option Data → Option Name
affix_of d = or_default as_str [] d

abbrev pub replace_of : Option Data → Option (List (Name × Name))
replace_of d = or_default (list_of pair_of) [] d

abbrev pub dimension_column : Data → Data → Option WrittenColumn
dimension_column d said =
    option_and_then (λ name.
    option_and_then (λ prefix.
    option_and_then (λ suffix.
    option_map (λ replace. Dimension name prefix suffix replace)
    (replace_of (get (codes "replace") d)))
    (affix_of (get (codes "suffix") d)))
    (affix_of (get (codes "prefix") d)))
    (as_str said)

-- the column that a `dimension`, else a `data`, else an `ignore` makes
abbrev pub column_ignored : Data → Option Data → Option WrittenColumn
column_ignored d None = None
column_ignored d (Some said) = if has_only (is_field OfIgnored) d && is_true said then Some Ignored else None

abbrev pub column_of_amounts : Data → Option Data → Option WrittenColumn
column_of_amounts d None = column_ignored d (get (codes "ignore") d)
column_of_amounts d (Some said) = if has_only (is_field OfAmounts) d then option_map Amounts (texts_of said) else None

abbrev pub column_of_dimension : Data → Option Data → Option WrittenColumn
column_of_dimension d None = column_of_amounts d (get (codes "data") d)
column_of_dimension d (Some said) = if has_only (is_field OfDimension) d then dimension_column d said else None

abbrev pub column_of : Data → Option WrittenColumn
column_of d = column_of_dimension d (get (codes "dimension") d)

-- 1 to 256 of them
abbrev pub counted : List WrittenColumn → Option (List WrittenColumn)
counted columns = if nat_lt 0 (length columns) && nat_le (length columns) 256 then Some columns else None

abbrev pub columns_of : Data → Option (List WrittenColumn)
columns_of d = option_and_then (λ said. option_and_then counted (list_of column_of said)) (get (codes "columns") d)

-- no fixed member where none is written
abbrev pub fixed_of : Data → Option (List Name)
fixed_of d = or_default texts_of [] (get (codes "fixed") d)
