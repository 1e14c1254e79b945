-- Members that a query defines beside those of the outline. Each has a formula in one base dimension.
use Rattle.std.specs.Prelude.{◌≡◌, ◌<◌, ◌≤◌, ℕ, ◌+◌, Bool, true, false, not, ◌||◌, List, map, length, take, Option, Some, None, is_none, is_some, slice_get}
use Rattle.std.specs.List.{flat_map, list_all, list_any, position, find as first}
use Rattle.aso_tree.specs.Trees.{greatest}
use Rattle.aso_outline.specs.declared.draft.Draft.{Draft}
use Rattle.aso_outline.specs.declared.draft.ExtraMember.{ExtraMember}
use Rattle.aso_outline.specs.declared.extend.ExtraFault.{ExtraFault}
use Rattle.aso_outline.specs.declared.extend.ExtraFault.TheVariants.{Unknown, Foreign, InUse, Ranks, NoMemory}
use Rattle.aso_outline.specs.Atoms.{Atom, atoms}
use Rattle.aso_outline.specs.Members.{Name, same_name, find}
use Rattle.aso_outline.specs.Ranks.{own_operands, rank_of}
use Rattle.aso_outline.specs.Rules.{is_atom}

-- the names in a formula, from left to right
abbrev pub names_in : List Atom → List Name
names_in all = flat_map (λ names. names) all

-- the first name that no member has
abbrev pub first_unknown : Draft → List Atom → Option Name
first_unknown o all = first (λ name. is_none (find o name)) (names_in all)

-- the first atom that isn't one of a formula in the dimension
abbrev pub first_foreign : Draft → ℕ → List Atom → Option ℕ
first_foreign o d all = position (λ names. not (is_atom o d names)) all

-- a member of the outline, or one of the query's, has the name
abbrev pub is_used : Draft → List ExtraMember → Name → Bool
is_used o others name = is_some (find o name) || list_any (λ (m : ExtraMember). same_name name m.name) others

-- one more than the greatest rank of the members of its own dimension that the formula names; 1 where it names none
abbrev pub own_rank : Draft → ℕ → List Atom → ℕ
own_rank o d all = greatest (map (rank_of o) (own_operands o d all)) + 1

-- the formula keeps the rule on formulas, and the name is that of no other member
pub record IsOwn (o : Draft) (others : List ExtraMember) (m : ExtraMember) : Type 0 where
  pub dim : m.dim < length o.dims
  pub formula : list_all (is_atom o m.dim) (atoms m.formula) ≡ true
  pub unused : is_used o others m.name ≡ false
  pub rank : own_rank o m.dim (atoms m.formula) ≤ 64

-- each is so beside those before it
abbrev pub AreOwn : Draft → List ExtraMember → Type 0
AreOwn o all = (k : ℕ) (m : ExtraMember) → slice_get all k ≡ Some m → IsOwn o (take k all) m

-- the place of an atom; one past the greatest number is past all memory
abbrev pub IsForeign : ℕ → ExtraFault → Type 0
IsForeign at (Foreign atom) = at ≡ atom
IsForeign at (NoMemory e) = Unit {0}
IsForeign at fault = ⊥

-- what is wrong with the atoms of its formula
abbrev pub IsAtomFault : Draft → ExtraMember → ExtraFault → Type 0
IsAtomFault o m (Unknown name) = first_unknown o (atoms m.formula) ≡ Some name
IsAtomFault o m (Foreign atom) = (first_unknown o (atoms m.formula) ≡ None) × (first_foreign o m.dim (atoms m.formula) ≡ Some atom)
IsAtomFault o m (NoMemory e) = Unit {0}
IsAtomFault o m fault = ⊥

-- why a member isn't taken: the first of these that holds
abbrev pub IsExtraFault : Draft → List ExtraMember → ExtraMember → ExtraFault → Type 0
IsExtraFault o others m (Unknown name) = IsAtomFault o m (Unknown name)
IsExtraFault o others m (Foreign atom) = IsAtomFault o m (Foreign atom)
IsExtraFault o others m InUse = (list_all (is_atom o m.dim) (atoms m.formula) ≡ true) × (is_used o others m.name ≡ true)
IsExtraFault o others m Ranks = (list_all (is_atom o m.dim) (atoms m.formula) ≡ true) × (is_used o others m.name ≡ false) × (64 < own_rank o m.dim (atoms m.formula))
IsExtraFault o others m (NoMemory e) = Unit {0}
