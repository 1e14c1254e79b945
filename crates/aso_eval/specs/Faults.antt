-- Why there is no grid: a refusal of some kind, or want of memory.
use Rattle.std.specs.Prelude.{⊤}
use Rattle.aso_eval.specs.declared.refusal.EvalFault.{EvalFault}
use Rattle.aso_eval.specs.declared.refusal.EvalFault.TheVariants.{Refused, NoMemory}
use Rattle.aso_eval.specs.declared.refusal.SheetRefusal.{SheetRefusal}

-- a refusal of this kind, unless memory ran out
abbrev pub HasRefusal : (SheetRefusal → Type 0) → EvalFault → Type 0
HasRefusal P (Refused r) = P r
HasRefusal P (NoMemory e) = ⊤
