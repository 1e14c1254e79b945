-- What the records of a data file come to.
use Rattle.std.specs.Prelude.{ℕ, ◌+◌, ◌==◌, min, Bool, true, false, List, [], ◌∷◌, ◌++◌, drop, length, map, set, replicate, ℤ, Option, Some, None, Result, Ok, Err, if◌then◌else◌, unwrap_or}
use Rattle.std.specs.Option.{option_map}
use Rattle.std.specs.List.{cons_option, filter, filter_map, flat_map, fold}
use Rattle.aso_outline.specs.declared.draft.Draft.{Draft}
use Rattle.aso_outline.specs.Classes.{leaf_of}
use Rattle.aso_outline.specs.Members.{dim_of}
use Rattle.aso_outline.specs.Numbers.{seat_of}
use Rattle.aso_rules.specs.declared.rules.Column.{Column}
use Rattle.aso_rules.specs.declared.rules.Column.TheVariants.{Ignore, Dimension, Amounts}
use Rattle.aso_rules.specs.declared.rules.Rules.{Rules}
use Rattle.aso_load.specs.Csv.{records_of}
use Rattle.aso_load.specs.Fields.{told}
use Rattle.aso_load.specs.declared.loaded.Loaded.{Loaded}
use Rattle.aso_load.specs.declared.loaded.Reject.{Reject}
use Rattle.aso_load.specs.declared.told.Told.{Told}
use Rattle.aso_load.specs.declared.told.Told.TheVariants.{Nothing, Fault, Leaf, Amount}

-- what each field comes to under its column
abbrev pub told_all : Draft → List Column → List (List ℕ) → List Told
told_all o [] fields = []
told_all o (c ∷ cs) [] = []
told_all o (c ∷ cs) (f ∷ fs) = told o c f ∷ told_all o cs fs

-- ---- reasons to reject a record

abbrev pub fault_of : Told → Option ℕ
fault_of Nothing = None
fault_of (Fault reason) = Some reason
fault_of (Leaf d leaf) = None
fault_of (Amount units) = None

-- the lesser of two, where there are two
abbrev pub lesser : Option ℕ → Option ℕ → Option ℕ
lesser None b = b
lesser (Some a) None = Some a
lesser (Some a) (Some b) = Some (min a b)

abbrev pub least : List ℕ → Option ℕ
least [] = None
least (n ∷ ns) = lesser (Some n) (least ns)

-- the first reason that holds of some field
abbrev pub first_reason : List Told → Option ℕ
first_reason ts = least (filter_map fault_of ts)

-- ---- the data leaves of an amount

-- a dimension with its data leaf
abbrev pub leaf_pair : Told → Option (ℕ × ℕ)
leaf_pair Nothing = None
leaf_pair (Fault reason) = None
leaf_pair (Leaf d leaf) = Some (d, leaf)
leaf_pair (Amount units) = None

abbrev pub member_pair : Draft → ℕ → ℕ × ℕ
member_pair o m = (dim_of (seat_of o m), unwrap_or (leaf_of o (seat_of o m)) 0)

abbrev pub put_leaf : List ℕ → ℕ × ℕ → List ℕ
put_leaf leaves p = set leaves p.0 p.1

-- the leaves of these pairs, each at its dimension
abbrev pub put_leaves : List ℕ → List (ℕ × ℕ) → List ℕ
put_leaves leaves pairs = fold put_leaf leaves pairs

abbrev pub put_members : Draft → List ℕ → List ℕ → List ℕ
put_members o leaves members = put_leaves leaves (map (member_pair o) members)

-- one entry for each base dimension, with the leaves of the fixed members
abbrev pub fixed_leaves : Draft → List ℕ → List ℕ
fixed_leaves o fixed = put_members o (replicate (length o.dims) 0) fixed

-- ---- a record

-- with those that its fields name: what all amounts of a record share
abbrev pub shared_leaves : List ℕ → List Told → List ℕ
shared_leaves leaves ts = put_leaves leaves (filter_map leaf_pair ts)

abbrev pub amount_in : Draft → List ℕ → Column → Told → Option (List ℕ × ℤ)
amount_in o shared Ignore t = None
amount_in o shared (Dimension d prefix suffix replace) t = None
amount_in o shared (Amounts members) Nothing = None
amount_in o shared (Amounts members) (Fault reason) = None
amount_in o shared (Amounts members) (Leaf d leaf) = None
amount_in o shared (Amounts members) (Amount units) = Some (put_members o shared members, units)

-- the amounts in the order of the fields
abbrev pub amounts_in : Draft → List ℕ → List Column → List Told → List (List ℕ × ℤ)
amounts_in o shared [] ts = []
amounts_in o shared (c ∷ cs) [] = []
amounts_in o shared (c ∷ cs) (t ∷ ts) = cons_option (amount_in o shared c t) (amounts_in o shared cs ts)

abbrev pub judged : Draft → Rules → List Told → Option ℕ → Result (List (List ℕ × ℤ)) ℕ
judged o rules ts (Some reason) = Err reason
judged o rules ts None = Ok (amounts_in o (shared_leaves (fixed_leaves o rules.fixed) ts) rules.columns ts)

-- the amounts of a record, or the first reason to reject it; 1 where it has more or fewer fields than there are columns
abbrev pub outcome : Draft → Rules → List (List ℕ) → Result (List (List ℕ × ℤ)) ℕ
outcome o rules fields =
    let ts = told_all o rules.columns fields in
    if length fields == length rules.columns then judged o rules ts (first_reason ts) else Err 1

-- ---- a data file

abbrev pub given : Result (List (List ℕ × ℤ)) ℕ → List (List ℕ × ℤ)
given (Ok amounts) = amounts
given (Err reason) = []

-- it isn't rejected and gives no amount
abbrev pub is_skipped : Result (List (List ℕ × ℤ)) ℕ → Bool
is_skipped (Ok amounts) = length amounts == 0
is_skipped (Err reason) = false

abbrev pub reject_at : ℕ → Result (List (List ℕ × ℤ)) ℕ → Option Reject
reject_at row (Ok amounts) = None
reject_at row (Err reason) = Some (record { row = row; reason = reason })

-- the rejects among these, the first of which is the record of this number
abbrev pub rejects_from : ℕ → List (Result (List (List ℕ × ℤ)) ℕ) → List Reject
rejects_from row [] = []
rejects_from row (x ∷ xs) = cons_option (reject_at row x) (rejects_from (row + 1) xs)

-- what the records behind the header records come to, in order
abbrev pub outcomes : Draft → Rules → List ℕ → List (Result (List (List ℕ × ℤ)) ℕ)
outcomes o rules text = map (outcome o rules) (drop rules.header_records (records_of rules.delimiter text))

-- records are numbered from 1, the header records too
abbrev pub loaded : Draft → Rules → List ℕ → Loaded
loaded o rules text = record {
  amounts = flat_map given (outcomes o rules text);
  rejects = rejects_from (rules.header_records + 1) (outcomes o rules text);
  skipped = length (filter is_skipped (outcomes o rules text));
}
