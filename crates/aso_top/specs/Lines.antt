-- The lines that the program prints by itself.
use Rattle.std.specs.Prelude.{ℕ, List, ◌++◌, ◌∷◌, [], codes}
use Rattle.aso_spec.specs.Grid.{shown}

abbrev pub usage_line : List ℕ
usage_line = codes "usage: aso eval SHEET, create DIR OUTLINE, run DIR SCRIPT, check DIR, sample DIR NUMBER CELLS, serve DIR [--rounds N] SCRIPT...\n"

abbrev pub no_text_line : List ℕ → List ℕ
no_text_line name = codes "ERROR 0 206 no such text: " ++ shown name ++ 10 ∷ []

abbrev pub library_line : List ℕ
library_line = codes "ERROR 0 304 library fault\n"

abbrev pub memory_line : List ℕ
memory_line = codes "ERROR 0 401 no memory\n"
