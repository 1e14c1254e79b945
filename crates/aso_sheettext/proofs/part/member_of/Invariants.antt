use denote.Shadow.{shadow}
use denote.Text.{Utf8}
use Rattle.std.proofs.Common.{◌≡◌, ◌++◌, ◌+◌, ℕ, length, replicate}
use Rattle.aso_sheettext.proofs.part.member_of.Given as goal

abbrev pub invariant-loop-deeper : goal.invariant-loop-deeper
invariant-loop-deeper l = ((n : ℕ) × (l.depth ≡ n + 1) × (l.fn.text ≡ replicate n 46 ++ l.name)) × shadow (Utf8 l.name)

abbrev pub decreases-loop-deeper : goal.decreases-loop-deeper
decreases-loop-deeper l = length l.name
