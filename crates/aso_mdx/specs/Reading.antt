-- How sets and queries are read.
use Rattle.std.specs.Prelude.{ℕ, Bool, zero, suc, List, [], ◌∷◌, ◌++◌, length, codes, Option, None, option_map, Ok}
use Rattle.aso_token.specs.declared.token.Token.{Token}
use Rattle.aso_token.specs.declared.token.Token.TheVariants.{Mark}
use Rattle.aso_token.specs.declared.token.Mark.TheVariants.{Open}
use Rattle.aso_token.specs.Reads.{with_rest, Read, read_one, read_then, read_as, read_if, read_if_two, read_many, read_chain, read_empty, read_upto, read_maybe, passes, ◌▸◌, ◌◂◌}
use Rattle.aso_token.specs.Marks.{comma, open_mark, close_mark, name}
use Rattle.aso_token.specs.Words.{key, part, whole, dot, open_set, close_set, equals}
use Rattle.aso_mdx.specs.declared.query.SetText.{SetText}
use Rattle.aso_mdx.specs.declared.query.SetText.TheVariants.{Braced, Tuple, Crossjoin}
use Rattle.aso_mdx.specs.declared.query.Own.{Own}
use Rattle.aso_mdx.specs.declared.query.Axis.{Axis}
use Rattle.aso_mdx.specs.declared.query.Query.{Query}
use Rattle.aso_mdx.specs.Grammar.{filtered, unfiltered, axis, own, in_front, quoted, plain_name, cut_name, pointless, alone, query, Name, Rest, all_of, later_part, function, method, applied, plain, last, longer, ended, crossed}

abbrev pub read_key : List ℕ → List Token → Read (Unit {0})
read_key w = read_one (key w)

abbrev pub read_listed : {A : Type 0} → (List Token → Read A) → List Token → Read (List A)
read_listed r = read_as (read_chain comma r) all_of

unfoldable pub read_path : List Token → Read (List Name)
read_path = read_as (read_then (read_one part) (read_many (passes dot) (read_then (read_one dot) (read_one later_part)))) all_of

unfoldable pub read_paths : List Token → Read (List (List Name))
read_paths = read_one open_mark ▸ (read_listed read_path ◂ read_one close_mark)

unfoldable pub read_call : List Token → Read SetText
read_call = read_as (read_then (read_one function ◂ read_one open_mark) (read_path ◂ read_one close_mark)) applied

abbrev pub read_step : (List Token → Read Rest) → List Token → Read Rest
read_step tail = read_if (passes method) (read_as (read_one method) last) (read_as (read_then (read_one later_part) tail) longer)

unfoldable pub read_tail : ℕ → List Token → Read Rest
read_tail zero = read_empty plain
read_tail (suc n) = read_if (passes dot) (read_one dot ▸ read_step (read_tail n)) (read_empty plain)

abbrev pub read_tails : List Token → Read Rest
read_tails ts = read_tail (length ts) ts

unfoldable pub read_dotted : List Token → Read SetText
read_dotted = read_as (read_then (read_one part) read_tails) ended

unfoldable pub read_leaf : List Token → Read SetText
read_leaf = read_if (passes open_mark) (read_as read_paths Tuple) (read_if_two (passes function) (passes open_mark) read_call read_dotted)

abbrev pub read_braces : (List Token → Read SetText) → List Token → Read SetText
read_braces r = read_as (read_one open_set ▸ (read_listed r ◂ read_one close_set)) Braced

abbrev pub read_crossing : (List Token → Read SetText) → List Token → Read SetText
read_crossing r = read_as (read_then (read_key (codes "crossjoin") ◂ read_one open_mark) (read_then (r ◂ read_one comma) r ◂ read_one close_mark)) crossed

unfoldable pub read_nested : ℕ → List Token → Read SetText
read_nested zero = read_leaf
read_nested (suc n) = read_if (passes open_set) (read_braces (read_nested n)) (read_if_two (passes (key (codes "crossjoin"))) (passes open_mark) (read_crossing (read_nested n)) read_leaf)

-- ---- what stands behind tokens that were taken

abbrev pub read_tuple_rest : List Token → Read SetText
read_tuple_rest = read_as (read_listed read_path ◂ read_one close_mark) Tuple

abbrev pub read_applied : (List Name → SetText) → List Token → Read SetText
read_applied m = read_as (read_path ◂ read_one close_mark) m

abbrev pub read_braces_rest : (List Token → Read SetText) → List Token → Read SetText
read_braces_rest r = read_as (read_listed r ◂ read_one close_set) Braced

abbrev pub pair_crossed : SetText × SetText → SetText
pair_crossed v = Crossjoin v.0 v.1

abbrev pub read_crossing_rest : (List Token → Read SetText) → List Token → Read SetText
read_crossing_rest r = read_as (read_then (r ◂ read_one comma) r ◂ read_one close_mark) pair_crossed

-- a token's meaning where an opening parenthesis follows it
abbrev pub opened : {A : Type 0} → (Token → Option A) → List Token → Option (A × List Token)
opened f (t ∷ Mark Open ∷ ts) = option_map (with_rest ts) (f t)
opened f _ = None

abbrev pub grown : {A : Type 0} → List A → Unit {0} × A → List A
grown all x = all ++ x.1 ∷ []

-- a member's first parts, and what follows them
abbrev pub finish : List Name → Rest × List Token → Read SetText
finish parts x = Ok (x.0.1 (parts ++ x.0.0), x.1)

-- ---- queries

abbrev pub read_filtered : List Token → Read (Bool × SetText)
read_filtered = read_as (read_then (read_key (codes "non") ◂ read_key (codes "empty")) (read_nested 32)) filtered

abbrev pub read_axis_set : List Token → Read (Bool × SetText)
read_axis_set = read_if_two (passes (key (codes "non"))) (passes (key (codes "empty"))) read_filtered (read_as (read_nested 32) unfiltered)

unfoldable pub read_axis : List ℕ → List Token → Read Axis
read_axis w = read_as (read_axis_set ◂ (read_key (codes "on") ◂ read_key w)) axis

abbrev pub read_solve : List Token → Read ℕ
read_solve = (read_one comma ◂ read_key (codes "solve_order")) ▸ (read_one equals ▸ read_one (whole 0 127))

abbrev pub read_own_path : List Token → Read (Name × Name)
read_own_path = read_key (codes "member") ▸ read_then (read_one part ◂ read_one dot) (read_one later_part)

abbrev pub read_formula : List Token → Read (List ℕ)
read_formula = read_key (codes "as") ▸ read_one quoted

unfoldable pub read_own : List Token → Read Own
read_own = read_as (read_then read_own_path (read_then read_formula (read_maybe (passes comma) read_solve))) own

abbrev pub read_own_list : List Token → Read (List Own)
read_own_list = read_as (read_then read_own (read_upto (passes (key (codes "member"))) read_own 15)) in_front

unfoldable pub read_owns : List Token → Read (List Own)
read_owns = read_key (codes "with") ▸ read_own_list

abbrev pub read_bracketed : List Token → Read (Name × Name)
read_bracketed = read_then (read_one pointless ◂ read_one dot) (read_one name)

abbrev pub read_plain : List Token → Read (Name × Name)
read_plain = read_then (read_one plain_name ◂ read_one dot) (read_one plain_name)

unfoldable pub read_base : List Token → Read (Name × Name)
read_base = read_if (passes cut_name) (read_one cut_name) (read_if (passes pointless) read_bracketed read_plain)

abbrev pub read_place : List Token → Read (List (List Name))
read_place = read_if (passes open_mark) read_paths (read_as read_path alone)

unfoldable pub read_slicer : List Token → Read (List (List Name))
read_slicer = read_key (codes "where") ▸ read_place

abbrev pub read_columns : List Token → Read Axis
read_columns = read_key (codes "select") ▸ read_axis (codes "columns")

abbrev pub read_rows : List Token → Read Axis
read_rows = read_one comma ▸ read_axis (codes "rows")

abbrev pub read_source : List Token → Read (Name × Name)
read_source = read_key (codes "from") ▸ read_base

-- the own members that follow, at most so many, behind those that stand already
abbrev pub put_behind : List Own → List Own × List Token → Read (List Own)
put_behind all x = Ok (all ++ x.0, x.1)

unfoldable pub read_query : List Token → Read Query
read_query = read_as (read_then (read_maybe (passes (key (codes "with"))) read_owns) (read_then read_columns (read_then (read_maybe (passes comma) read_rows) (read_then read_source (read_maybe (passes (key (codes "where"))) read_slicer))))) query
