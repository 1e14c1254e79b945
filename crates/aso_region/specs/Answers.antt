-- What the text of a region stands for.
use Rattle.std.specs.Prelude.{◌≡◌, ℕ, ◌==◌, List, [], length, Option, slice_get}
use Rattle.std.specs.Option.{option_and_then}
use Rattle.std.specs.List.{find as first}
use Rattle.aso_outline.specs.declared.draft.Draft.{Draft}
use Rattle.aso_outline.specs.Members.{dim_of}
use Rattle.aso_outline.specs.Numbers.{seat_of}
use Rattle.aso_mdx.specs.declared.query.SetText.{SetText}
use Rattle.aso_mdx.specs.Grammar.{IsSetFault, SpellsSet}
use Rattle.aso_axes.specs.declared.fault.AxisFault.{AxisFault}
use Rattle.aso_axes.specs.declared.fault.AxisFault.TheVariants as axis
use Rattle.aso_axes.specs.declared.part.Purpose.TheVariants.{Region as Covers}
use Rattle.aso_axes.specs.Answers.{IsSetRefusal, IsTaken}
use Rattle.aso_axes.specs.Sets.{rows_of}
use Rattle.aso_region.specs.declared.fault.RegionFault.{RegionFault}
use Rattle.aso_region.specs.declared.fault.RegionFault.TheVariants.{Syntax, UnknownMember, Dimension, TooLarge, NoMemory}
use Rattle.aso_region.specs.declared.region.Cover.{Cover}
use Rattle.aso_region.specs.Covers.{AreLeaves, covers}
use Rattle.aso_region.specs.Kept.{covers_kept, tuple_member}

-- the member of a tuple in a base dimension, if it names one
abbrev pub named_in : Draft → List ℕ → ℕ → Option ℕ
named_in o members d = first (λ m. dim_of (seat_of o m) == d) members

-- The region of these tuples: so many, with these members, and it holds the cells that they cover.
pub record IsRegion (o : Draft) (tuples : List (List ℕ)) (r : Cover) : Type 0 where
  pub count : length r.rows ≡ length tuples
  pub member : (tuple d : ℕ) → tuple_member r tuple d ≡ option_and_then (λ (members : List ℕ). named_in o members d) (slice_get tuples tuple)
  pub exactly : (leaves : List ℕ) → AreLeaves o leaves → covers_kept r leaves ≡ covers o tuples leaves

-- the text spells a set of stored members of base dimensions, and the region is that of its tuples
abbrev pub IsRead : Draft → List ℕ → Cover → Type 0
IsRead o text r = (set : SetText) × SpellsSet text set × IsTaken o [] Covers set × IsRegion o (rows_of o [] set) r

-- the text spells a set that isn't taken, for this reason
abbrev pub IsSetRead : Draft → List ℕ → AxisFault → Type 0
IsSetRead o text fault = (set : SetText) × SpellsSet text set × IsSetRefusal o [] Covers set fault

-- why a text is no region
abbrev pub IsReadRefusal : Draft → List ℕ → RegionFault → Type 0
IsReadRefusal o text (Syntax at) = IsSetFault text at
IsReadRefusal o text (UnknownMember name) = IsSetRead o text (axis.UnknownMember name)
IsReadRefusal o text (Dimension name) = IsSetRead o text (axis.Dimension name)
IsReadRefusal o text (TooLarge cells) = IsSetRead o text (axis.TooLarge cells)
IsReadRefusal o text (NoMemory e) = Unit {0}
