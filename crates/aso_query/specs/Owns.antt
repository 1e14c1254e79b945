-- A query's own members: which of them can be taken, each beside those before it, and why one can't.
use Rattle.std.specs.Prelude.{◌≡◌, ◌⊎◌, ℕ, List, [], ◌∷◌, ◌++◌, Option, Some, None, slice_get, unwrap_or}
use Rattle.std.specs.List.{position}
use Rattle.aso_outline.specs.declared.draft.Draft.{Draft}
use Rattle.aso_outline.specs.declared.draft.DraftDim.{DraftDim}
use Rattle.aso_outline.specs.declared.draft.ExtraMember.{ExtraMember}
use Rattle.aso_outline.specs.declared.extend.ExtraFault.TheVariants.{InUse, Ranks}
use Rattle.aso_outline.specs.Extend.{IsExtraFault, IsOwn}
use Rattle.aso_outline.specs.Members.{Name, same_name}
use Rattle.aso_formula.specs.declared.fault.FormulaFault.TheVariants.{Syntax, Unknown, Foreign}
use Rattle.aso_formula.specs.Answer.{IsRefusal}
use Rattle.aso_formula.specs.Formula.{SpellsFormula}
use Rattle.aso_mdx.specs.declared.query.Own.{Own as Written}
use Rattle.aso_query.specs.declared.refusal.QueryRefusal.{QueryRefusal}
use Rattle.aso_query.specs.declared.refusal.QueryRefusal.TheVariants.{UnknownMember, Dimension, Formula, TooLarge, Range}

-- ---- the path of a member as it is written: its dimension and its name

abbrev pub part : Written → ℕ → Name
part w at = unwrap_or (slice_get w.path at) []

abbrev pub dim_written : Written → Name
dim_written w = part w 0

abbrev pub name_written : Written → Name
name_written w = part w 1

-- the base dimension of a name
abbrev pub base_named : Draft → Name → Option ℕ
base_named o name = position (λ (d : DraftDim). same_name name d.name) o.dims

abbrev pub dim_of : Draft → Written → Option ℕ
dim_of o w = base_named o (dim_written w)

-- ---- members that are taken

-- the member, in this dimension and with this formula
abbrev pub written_as : Written → ExtraMember → Type 0
written_as w m = m ≡ record { name = name_written w; dim = m.dim; formula = m.formula; solve = w.solve }

-- its dimension is a base dimension, its text spells its formula, and it can stand beside the members before it
pub record Takes (o : Draft) (before : List ExtraMember) (w : Written) (m : ExtraMember) : Type 0 where
  pub dim : dim_of o w ≡ Some m.dim
  pub formula : SpellsFormula w.formula m.formula
  pub is : written_as w m
  pub own : IsOwn o before m

-- these are the members before, and this member behind them
abbrev pub IsNext : Draft → List ExtraMember → Written → List ExtraMember → Type 0
IsNext o before w all = (m : ExtraMember) × Takes o before w m × (all ≡ before ++ m ∷ [])

-- the members behind some, one by one
abbrev pub AreTaken : Draft → List ExtraMember → List Written → List ExtraMember → Type 0
AreTaken o before [] all = all ≡ before
AreTaken o before (w ∷ ws) all = (next : List ExtraMember) × IsNext o before w next × AreTaken o next ws all

-- ---- why a member isn't taken

-- a member like this, but for a name that is in use or a rank that is too great
pub record IsMisfit (o : Draft) (before : List ExtraMember) (d : ℕ) (w : Written) : Type 0 where
  pub m : ExtraMember
  pub dim : m.dim ≡ d
  pub formula : SpellsFormula w.formula m.formula
  pub is : written_as w m
  pub wrong : IsExtraFault o before m InUse ⊎ IsExtraFault o before m Ranks

-- the byte at which its formula is at fault: where the text spells none, or names what the dimension can't have; 0 for a misfit
abbrev pub IsFormulaByte : Draft → List ExtraMember → ℕ → Written → ℕ → Type 0
IsFormulaByte o before d w at = IsRefusal o d w.formula (Syntax at) ⊎ (IsRefusal o d w.formula (Foreign at) ⊎ ((at ≡ 0) × IsMisfit o before d w))

-- The first of these: its dimension, its formula's text, the first name there that no member has, another fault of its formula.
abbrev pub IsOwnRefusal : Draft → List ExtraMember → Written → QueryRefusal → Type 0
IsOwnRefusal o before w (Dimension name) = (dim_of o w ≡ None) × (name ≡ dim_written w)
IsOwnRefusal o before w (UnknownMember name) = (d : ℕ) × (dim_of o w ≡ Some d) × (at : ℕ) × IsRefusal o d w.formula (Unknown name at)
IsOwnRefusal o before w (Formula name at) = (d : ℕ) × (dim_of o w ≡ Some d) × (name ≡ name_written w) × IsFormulaByte o before d w at
IsOwnRefusal o before w (TooLarge cells) = ⊥
IsOwnRefusal o before w (Range names) = ⊥

-- the refusal of the first that isn't taken, where those before it are
abbrev pub IsOwnsRefusal : Draft → List ExtraMember → List Written → QueryRefusal → Type 0
IsOwnsRefusal o before [] r = ⊥
IsOwnsRefusal o before (w ∷ ws) r = IsOwnRefusal o before w r ⊎ ((next : List ExtraMember) × IsNext o before w next × IsOwnsRefusal o next ws r)
