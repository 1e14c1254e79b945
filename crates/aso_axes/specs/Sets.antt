-- What sets say: the tuples that they have, and which of their names is wrong.
use Rattle.std.specs.Prelude.{ℕ, ◌+◌, ◌-◌, Bool, true, false, not, ◌||◌, ◌&&◌, List, [], ◌∷◌, ◌++◌, length, map, drop, take, Option, Some, None, is_some, is_none, nat_lt, if◌then◌else◌, slice_get, unwrap_or}
use Rattle.std.specs.Option.{option_map, option_or}
use Rattle.std.specs.List.{flat_map, list_any, find as first}
use Rattle.aso_outline.specs.declared.draft.Draft.{Draft}
use Rattle.aso_outline.specs.declared.seat.DimRef.{DimRef}
use Rattle.aso_outline.specs.Members.{Name}
use Rattle.aso_mdx.specs.declared.query.SetText.{SetText, fold-SetText}
use Rattle.aso_mdx.specs.declared.query.SetText.TheOpen.{SetText-F}
use Rattle.aso_axes.specs.declared.part.Part.{Part}
use Rattle.aso_axes.specs.declared.part.Part.TheVariants.{Itself, Children, Members, Descendants, Leaves}
use Rattle.aso_axes.specs.declared.part.Purpose.{Purpose}
use Rattle.aso_axes.specs.Members.{Own, can_give, dim_of_member, given, may_have, member_named, name_of, same_dim}

-- the parts of a member as it is written
abbrev pub Path : Type 0
Path = List Name

-- ---- the names

-- the members of a set in text order, each by its parts
abbrev pub paths_step : SetText-F (List Path) → List Path
paths_step (SetText-F.Braced all) = flat_map (λ ps. ps) all
paths_step (SetText-F.Member p) = p ∷ []
paths_step (SetText-F.Tuple ps) = ps
paths_step (SetText-F.Children p) = p ∷ []
paths_step (SetText-F.Members p) = p ∷ []
paths_step (SetText-F.Descendants p) = p ∷ []
paths_step (SetText-F.Leaves p) = p ∷ []
paths_step (SetText-F.Crossjoin left right) = left ++ right

unfoldable pub paths_of : SetText → List Path
paths_of = fold-SetText (List Path) paths_step

-- the first name, in text order, that no member has
abbrev pub first_unknown : Draft → Own → List Path → Option Name
first_unknown o own paths = first (λ name. is_none (member_named o own name)) (flat_map (λ p. p) paths)

-- ---- members

-- a member is the last of its parts
abbrev pub last_part : Path → Name
last_part p = unwrap_or (slice_get p (length p - 1)) []

abbrev pub member_of_name : Draft → Own → Name → ℕ
member_of_name o own name = unwrap_or (member_named o own name) 0

abbrev pub member_at : Draft → Own → Path → ℕ
member_at o own p = member_of_name o own (last_part p)

abbrev pub dim_of_name : Draft → Own → Name → DimRef
dim_of_name o own name = dim_of_member o own (member_of_name o own name)

abbrev pub dim_at : Draft → Own → Path → DimRef
dim_at o own p = dim_of_member o own (member_at o own p)

-- ---- tuples

abbrev pub alone : ℕ → List ℕ
alone n = n ∷ []

-- each tuple of the left set with each of the right one, which is run over fastest
abbrev pub crossed : List (List ℕ) → List (List ℕ) → List (List ℕ)
crossed left right = flat_map (λ x. map (λ y. x ++ y) right) left

abbrev pub given_rows : Draft → Own → Part → Path → List (List ℕ)
given_rows o own part p = map alone (given o part (member_at o own p))

abbrev pub rows_step : Draft → Own → SetText-F (List (List ℕ)) → List (List ℕ)
rows_step o own (SetText-F.Braced all) = flat_map (λ rows. rows) all
rows_step o own (SetText-F.Member p) = given_rows o own Itself p
rows_step o own (SetText-F.Tuple ps) = map (member_at o own) ps ∷ []
rows_step o own (SetText-F.Children p) = given_rows o own Children p
rows_step o own (SetText-F.Members p) = given_rows o own Members p
rows_step o own (SetText-F.Descendants p) = given_rows o own Descendants p
rows_step o own (SetText-F.Leaves p) = given_rows o own Leaves p
rows_step o own (SetText-F.Crossjoin left right) = crossed left right

-- the tuples of a set, in order
unfoldable pub rows_of : Draft → Own → SetText → List (List ℕ)
rows_of o own = fold-SetText (List (List ℕ)) (rows_step o own)

-- ---- dimensions

-- the first part of a member that is one of another dimension
abbrev pub strange_part : Draft → Own → Path → Option Name
strange_part o own p = first (λ name. not (same_dim (dim_of_name o own name) (dim_at o own p))) p

-- the name that is told of a member: that part, or else its own
abbrev pub told : Draft → Own → Path → Name
told o own p = unwrap_or (strange_part o own p) (last_part p)

-- the dimension is the first of those that are wanted, where some are
abbrev pub is_wanted : Option (List DimRef) → DimRef → Bool
is_wanted None d = true
is_wanted (Some []) d = false
is_wanted (Some (e ∷ es)) d = same_dim e d

-- what is wanted behind so many dimensions
abbrev pub past : ℕ → Option (List DimRef) → Option (List DimRef)
past n wanted = option_map (drop n) wanted

-- A member may not stand where its dimension was named before, where another one is wanted, or where it can't give what is asked.
abbrev pub is_misplaced : Draft → Own → Part → Path → List DimRef → Option (List DimRef) → Bool
is_misplaced o own part p before wanted =
    is_some (strange_part o own p)
    || (list_any (same_dim (dim_at o own p)) before || (not (is_wanted wanted (dim_at o own p)) || not (can_give o part (member_at o own p))))

-- the first member that is given and may not be
abbrev pub first_refused : Draft → Own → Purpose → Part → Path → Option Name
first_refused o own purpose part p = option_map (name_of o own) (first (λ n. not (may_have o purpose n)) (given o part (member_at o own p)))

abbrev pub wrong_member : Draft → Own → Purpose → Part → Path → List DimRef → Option (List DimRef) → Option Name
wrong_member o own purpose part p before wanted =
    if is_misplaced o own part p before wanted then Some (told o own p) else first_refused o own purpose part p

-- each member of a tuple stands behind the dimensions of those before it
abbrev pub wrong_tuple : Draft → Own → Purpose → List Path → List DimRef → Option (List DimRef) → Option Name
wrong_tuple o own purpose [] before wanted = None
wrong_tuple o own purpose (p ∷ ps) before wanted =
    option_or (wrong_member o own purpose Itself p before wanted) (wrong_tuple o own purpose ps (before ++ dim_at o own p ∷ []) (past 1 wanted))

-- Of a set its list of dimensions, its first member, and the first name in text order that is wrong behind the dimensions that
-- were named before, where a list is wanted of it.
pub record Said : Type 0 where
  pub dims : List DimRef
  pub first : Path
  pub wrong : List DimRef → Option (List DimRef) → Option Name

abbrev pub said_of_member : Draft → Own → Purpose → Part → Path → Said
said_of_member o own purpose part p = record { dims = dim_at o own p ∷ []; first = p; wrong = wrong_member o own purpose part p }

abbrev pub said_of_tuple : Draft → Own → Purpose → List Path → Said
said_of_tuple o own purpose ps = record { dims = map (dim_at o own) ps; first = unwrap_or (slice_get ps 0) []; wrong = wrong_tuple o own purpose ps }

abbrev pub is_beginning : List DimRef → List DimRef → Bool
is_beginning [] wanted = true
is_beginning (d ∷ ds) [] = false
is_beginning (d ∷ ds) (e ∷ es) = same_dim d e && is_beginning ds es

-- a list that is a mere beginning of the wanted one is too short, and its first member is told
abbrev pub too_short : Draft → Own → List DimRef → Said → Option Name
too_short o own wanted s = if nat_lt (length s.dims) (length wanted) && is_beginning s.dims wanted then Some (told o own s.first) else None

-- the later items of braces have the list of the first
abbrev pub wrong_items : Draft → Own → List DimRef → List DimRef → List Said → Option Name
wrong_items o own before wanted [] = None
wrong_items o own before wanted (s ∷ ss) = option_or (too_short o own wanted s) (option_or (s.wrong before (Some wanted)) (wrong_items o own before wanted ss))

abbrev pub said_of_items : Draft → Own → List Said → Said
said_of_items o own [] = record { dims = []; first = []; wrong = λ before wanted. None }
said_of_items o own (s ∷ ss) =
    record { dims = s.dims; first = s.first; wrong = λ before wanted. option_or (s.wrong before wanted) (wrong_items o own before s.dims ss) }

-- a crossing's lists are joined, and name no dimension twice
abbrev pub said_of_both : Said → Said → Said
said_of_both left right =
    record {
      dims = left.dims ++ right.dims;
      first = left.first;
      wrong = λ before wanted. option_or (left.wrong before wanted) (right.wrong (before ++ left.dims) (past (length left.dims) wanted));
    }

abbrev pub said_step : Draft → Own → Purpose → SetText-F Said → Said
said_step o own purpose (SetText-F.Braced all) = said_of_items o own all
said_step o own purpose (SetText-F.Member p) = said_of_member o own purpose Itself p
said_step o own purpose (SetText-F.Tuple ps) = said_of_tuple o own purpose ps
said_step o own purpose (SetText-F.Children p) = said_of_member o own purpose Children p
said_step o own purpose (SetText-F.Members p) = said_of_member o own purpose Members p
said_step o own purpose (SetText-F.Descendants p) = said_of_member o own purpose Descendants p
said_step o own purpose (SetText-F.Leaves p) = said_of_member o own purpose Leaves p
said_step o own purpose (SetText-F.Crossjoin left right) = said_of_both left right

unfoldable pub said_of : Draft → Own → Purpose → SetText → Said
said_of o own purpose = fold-SetText Said (said_step o own purpose)
