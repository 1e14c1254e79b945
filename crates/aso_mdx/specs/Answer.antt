-- What the reading of a text answers.
use Rattle.std.specs.Prelude.{◌≡◌, ℕ, Result, Ok, Err}
use Rattle.aso_mdx.specs.declared.fault.SyntaxFault.{SyntaxFault}
use Rattle.aso_mdx.specs.declared.fault.SyntaxFault.TheVariants.{Syntax, NoMemory}

-- this value, unless memory ran out
abbrev pub Reads : {A : Type 0} → Result A SyntaxFault → A → Type 0
Reads (Ok a) b = a ≡ b
Reads (Err (Syntax at)) b = ⊥
Reads (Err (NoMemory n)) b = Unit {0}

-- a place of such a fault, unless memory ran out
abbrev pub HasFault : (ℕ → Type 0) → SyntaxFault → Type 0
HasFault fault (Syntax at) = fault at
HasFault fault (NoMemory n) = Unit {0}
