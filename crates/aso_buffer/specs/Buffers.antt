-- What the records of a load buffer combine to.
use Rattle.std.specs.Prelude.{◌≡◌, ℕ, ◌<◌, ℤ, List, map, Option, Some, All, IfSome, ⊤}
use Rattle.aso_num.specs.Amount.{IsAmount}
use Rattle.aso_keys.specs.declared.axis.Axis.{Axis}
use Rattle.aso_keys.specs.Axes.{AreClasses, key_of}
use Rattle.aso_runs.specs.Runs.{Entries, amounts_at, latest, total}
use Rattle.aso_buffer.specs.declared.fault.BufferFault.{BufferFault}
use Rattle.aso_buffer.specs.declared.fault.BufferFault.TheVariants.{Range, NoMemory}
use Rattle.aso_buffer.specs.declared.kind.Kind.{Kind}
use Rattle.aso_buffer.specs.declared.kind.Kind.TheVariants.{Sum, Last}

-- what the amounts of one key, in their order, combine to, if there are any
abbrev pub combined : Kind → List ℤ → Option ℤ
combined Sum amounts = total amounts
combined Last amounts = latest amounts

-- the records in order, each at the key of its leaves
abbrev pub keyed : List Axis → List (List ℕ × ℤ) → Entries
keyed axes records = map (λ (r : List ℕ × ℤ). (key_of axes r.0, r.1)) records

-- what the records of a key combine to, if there are any
abbrev pub combined_at : Kind → List Axis → List (List ℕ × ℤ) → ℕ → Option ℤ
combined_at kind axes records key = combined kind (amounts_at key (keyed axes records))

-- each record has one leaf of each dimension
abbrev pub HaveKeys : List Axis → List (List ℕ × ℤ) → Type 0
HaveKeys axes records = All (λ (r : List ℕ × ℤ). AreClasses axes r.0) records

-- at the key of these leaves, and at no lesser key, the records combine to what is no amount
pub record IsLeastPast (kind : Kind) (axes : List Axis) (records : List (List ℕ × ℤ)) (leaves : List ℕ) (units : ℤ) : Type 0 where
  pub each : AreClasses axes leaves
  pub there : combined_at kind axes records (key_of axes leaves) ≡ Some units
  pub past : IsAmount units → ⊥
  pub least : (key : ℕ) → key < key_of axes leaves → IfSome (combined_at kind axes records key) IsAmount

-- why there are no cells
abbrev pub IsFault : Kind → List Axis → List (List ℕ × ℤ) → BufferFault → Type 0
IsFault kind axes records (Range leaves sum) = IsLeastPast kind axes records leaves sum
IsFault kind axes records (NoMemory e) = ⊤
