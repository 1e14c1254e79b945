-- The rules that a rules file gives for an outline, or the first rule of rules files that it breaks.
use Rattle.std.specs.Prelude.{ℕ, ◌+◌, ◌==◌, ◌||◌, ◌&&◌, Bool, true, false, List, [], ◌∷◌, ◌++◌, length, map, Option, Some, None, Result, Ok, Err, option_and_then, if◌then◌else◌}
use Rattle.std.specs.Option.{option_map}
use Rattle.std.specs.List.{filter_map, list_all, list_any, position_from}
use Rattle.serde_json.specs.Data.{Data}
use Rattle.aso_tree.specs.Trees.{places_of}
use Rattle.aso_outline.specs.declared.draft.Draft.{Draft}
use Rattle.aso_outline.specs.declared.draft.DraftDim.{DraftDim}
use Rattle.aso_outline.specs.Members.{Name, dim_of, find, is_data_leaf, same_name}
use Rattle.aso_outline.specs.Numbers.{seat_of}
use Rattle.aso_rules.specs.Json.{all_found, has_only}
use Rattle.aso_rules.specs.Written.{columns_of, delimiter_of, fixed_of, header_records_of, is_field}
use Rattle.aso_rules.specs.declared.written.WrittenColumn.{WrittenColumn}
use Rattle.aso_rules.specs.declared.written.WrittenColumn.TheVariants as written
use Rattle.aso_rules.specs.declared.rules.Column.{Column}
use Rattle.aso_rules.specs.declared.rules.Column.TheVariants.{Ignore, Dimension, Amounts}
use Rattle.aso_rules.specs.declared.rules.Rules.{Rules}
use Rattle.aso_rules.specs.declared.fields.Fields.TheVariants.{OfFile}

-- ---- names

-- the base dimension of a name
abbrev pub dim_named : Draft → Name → Option ℕ
dim_named o name = position_from (λ (d : DraftDim). same_name d.name name) 0 o.dims

-- the number of the data leaf of a name
abbrev pub leaf_named : Draft → Name → Option ℕ
leaf_named o name = option_and_then (λ m. if is_data_leaf o (seat_of o m) then Some m else None) (find o name)

abbrev pub column_in : Draft → WrittenColumn → Option Column
column_in o written.Ignored = Some Ignore
column_in o (written.Dimension name prefix suffix replace) = option_map (λ d. Dimension d prefix suffix replace) (dim_named o name)
column_in o (written.Amounts names) = option_map Amounts (all_found (leaf_named o) names)

-- ---- how the dimensions are covered

-- the dimension of a column's names
abbrev pub column_dim : Column → Option ℕ
column_dim Ignore = None
column_dim (Dimension d prefix suffix replace) = Some d
column_dim (Amounts members) = None

-- the members of a column of amounts
abbrev pub column_members : Column → Option (List ℕ)
column_members Ignore = None
column_members (Dimension d prefix suffix replace) = None
column_members (Amounts members) = Some members

abbrev pub dims_of : Draft → List ℕ → List ℕ
dims_of o members = map (λ m. dim_of (seat_of o m)) members

abbrev pub has : List ℕ → ℕ → Bool
has dims d = list_any (λ e. e == d) dims

-- the two lists have each base dimension once: together as many as there are, and every one
abbrev pub cover : Draft → List ℕ → List ℕ → Bool
cover o shared own = (length shared + length own == length o.dims) && list_all (λ d. has shared d || has own d) (places_of o.dims)

-- the dimensions that each column of amounts shares: those of the other columns, and of the fixed members
abbrev pub shared_dims : Draft → List Column → List ℕ → List ℕ
shared_dims o columns fixed = filter_map column_dim columns ++ dims_of o fixed

abbrev pub is_covered : Draft → List ℕ → Column → Bool
is_covered o shared Ignore = true
is_covered o shared (Dimension d prefix suffix replace) = true
is_covered o shared (Amounts members) = cover o shared (dims_of o members)

abbrev pub is_of_amounts : Column → Bool
is_of_amounts Ignore = false
is_of_amounts (Dimension d prefix suffix replace) = false
is_of_amounts (Amounts members) = true

-- there is a column of amounts, and each covers the dimensions
abbrev pub are_covered : Draft → List Column → List ℕ → Bool
are_covered o columns fixed = list_any is_of_amounts columns && list_all (is_covered o (shared_dims o columns fixed)) columns

-- ---- the rules

-- goes on with what was read, or breaks the rule of this number
abbrev pub or_rule : {A B : Type 0} → ℕ → Option A → (A → Result B ℕ) → Result B ℕ
or_rule rule None more = Err rule
or_rule rule (Some x) more = more x

-- the rules that a JSON value gives, or the first of the rules 1 to 6 that it breaks
abbrev pub rules_of : Draft → Data → Result Rules ℕ
rules_of o d =
    if has_only (is_field OfFile) d then
    or_rule 2 (delimiter_of d) (λ delimiter.
    or_rule 3 (header_records_of d) (λ header_records.
    or_rule 4 (columns_of d) (λ said.
    or_rule 4 (fixed_of d) (λ names.
    or_rule 5 (all_found (column_in o) said) (λ columns.
    or_rule 5 (all_found (leaf_named o) names) (λ fixed.
    if are_covered o columns fixed then Ok (record { delimiter = delimiter; header_records = header_records; columns = columns; fixed = fixed }) else Err 6))))))
    else Err 1
