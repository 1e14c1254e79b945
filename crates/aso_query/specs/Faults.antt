-- Why there is no answer: a refusal of some kind, or want of memory.
use Rattle.aso_query.specs.declared.refusal.AskFault.{AskFault}
use Rattle.aso_query.specs.declared.refusal.AskFault.TheVariants.{Refused, NoMemory}
use Rattle.aso_query.specs.declared.refusal.QueryRefusal.{QueryRefusal}

-- a refusal of this kind, unless memory ran out
abbrev pub HasRefusal : (QueryRefusal → Type 0) → AskFault → Type 0
HasRefusal P (Refused r) = P r
HasRefusal P (NoMemory e) = Unit {0}
