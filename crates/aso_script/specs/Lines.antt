-- Lines as the code takes them.
use Rattle.std.specs.Prelude.{ℕ, suc, List, [], ◌∷◌, ◌==◌, if◌then◌else◌}
use Rattle.aso_script.specs.Script.{Line}
use Rattle.aso_script.specs.declared.cutting.Line.{Line as Taken}

-- the line that a value stands for
abbrev pub line : Taken → Line
line l = record { at = l.at; bytes = l.bytes.now }

-- how many bytes the first line of a text has, with its LF
abbrev pub first_len : List ℕ → ℕ
first_len [] = 0
first_len (b ∷ bs) = if b == 10 then 1 else suc (first_len bs)
