-- The definitions of scripts, computed on one script.
use Rattle.std.proofs.Common.{◌≡◌, ℕ, List, [], ◌∷◌, ◌++◌, true, false, refl, codes, map}
use Rattle.std.specs.List.{flat_map, list_all}
use Rattle.std.specs.Str.{is_utf8, chars}
use Rattle.aso_script.specs.Script.{Addition, Line, is_addition, is_amount, is_listed, addition_text, lines_of, script_lines}

abbrev to_basic : List (List ℕ) → List ℕ → Addition
to_basic names amount = record { app = codes "Sample"; db = codes "Basic"; names = names; amount = amount }

abbrev row : List Addition
row = to_basic (codes "Jan" ∷ codes "NY" ∷ []) (codes "10.5") ∷ to_basic (codes "NY" ∷ codes "Jan" ∷ []) (codes "10.5") ∷ to_basic (codes "Year" ∷ []) (codes "-0.0001") ∷ []

abbrev line : Addition → List ℕ
line a = addition_text a ++ 10 ∷ []

row_text : flat_map line row ≡ codes "alter database Sample.Basic add cell ([Jan],[NY]) 10.5;\nalter database Sample.Basic add cell ([NY],[Jan]) 10.5;\nalter database Sample.Basic add cell ([Year]) -0.0001;\n"
row_text = refl

row_is_whole : list_all is_addition row ≡ true
unfolding is_utf8 chars lib.Utf8.encode
row_is_whole = refl

-- the additions, and a line behind them that spells none
abbrev script : List ℕ
script = flat_map line row ++ codes "select {[Jan]} on columns from Sample.Basic;\n"

script_bytes : map (λ (l : Line). l.bytes) (script_lines script) ≡ map line row ++ codes "select {[Jan]} on columns from Sample.Basic;\n" ∷ []
unfolding script_lines lines_of
script_bytes = refl

script_places : map (λ (l : Line). l.at) (script_lines script) ≡ (0 ∷ 56 ∷ 112 ∷ 167 ∷ [])
unfolding script_lines lines_of
script_places = refl

-- an empty line, and a last line without its end
faulty_lines : lines_of (codes "exit;\n\nexit") ≡ (codes "exit;\n" ∷ codes "\n" ∷ codes "exit" ∷ [])
unfolding lines_of
faulty_lines = refl

amounts : map is_amount (codes "5" ∷ codes "-0.0001" ∷ codes "+007.25" ∷ codes "5." ∷ codes ".5" ∷ codes "1.00000" ∷ codes "--1" ∷ codes "" ∷ codes "100000000000000" ∷ codes "99999999999999.9999" ∷ [])
    ≡ (true ∷ true ∷ true ∷ false ∷ false ∷ false ∷ false ∷ false ∷ false ∷ true ∷ [])
amounts = refl

names : map is_listed (codes "N Y, (1)" ∷ codes "" ∷ codes "a[" ∷ codes "a]" ∷ (90 ∷ 195 ∷ 188 ∷ []) ∷ (255 ∷ []) ∷ []) ≡ (true ∷ false ∷ false ∷ false ∷ true ∷ false ∷ [])
unfolding is_utf8 chars lib.Utf8.encode
names = refl
