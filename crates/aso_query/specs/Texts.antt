-- Refusals as they are printed, behind the number of their statement.
use Rattle.std.specs.Prelude.{ℕ, List, ◌++◌, codes}
use Rattle.std.specs.Fmt.{decimal}
use Rattle.aso_spec.specs.Grid.{label, shown}
use Rattle.aso_query.specs.declared.refusal.QueryRefusal.{QueryRefusal}
use Rattle.aso_query.specs.declared.refusal.QueryRefusal.TheVariants.{UnknownMember, Dimension, Formula, TooLarge, Range}

abbrev pub refusal_text : QueryRefusal → List ℕ
refusal_text (UnknownMember name) = codes "203 unknown member: " ++ shown name
refusal_text (TooLarge cells) = codes "209 grid too large: " ++ decimal cells ++ codes " cells"
refusal_text (Range names) = codes "211 value range: " ++ label names
refusal_text (Formula name at) = codes "212 formula: " ++ shown name ++ codes " byte " ++ decimal at
refusal_text (Dimension name) = codes "216 wrong dimension: " ++ shown name
