-- The machine that a store is: what a line of a script comes to on a state.
use Rattle.std.specs.Prelude.{◌≡◌, ◌⊎◌, ℕ, ◌+◌, ◌-◌, ◌^◌, Bool, ◌&&◌, List, [], ◌∷◌, ◌++◌, length, Option, Some, None, ℤ, pos, unsigned_abs, nat_eq, nat_lt, nat_le, ◌==◌, if◌then◌else◌, unwrap_or, codes}
use Rattle.std.specs.Option.{option_map, option_or}
use Rattle.std.specs.Result.{result_unwrap_or}
use Rattle.std.specs.Cmp.Lexicographic.{pointwise}
use Rattle.std.specs.List.{find}
use Rattle.std.specs.Fmt.{decimal}
use Rattle.aso_num.specs.declared.status.Status.{Status}
use Rattle.aso_num.specs.declared.status.Status.TheVariants.{Done, Refused, Disk, NoMemory}
use Rattle.aso_num.specs.declared.value.Val.TheVariants.{Num}
use Rattle.aso_num.specs.Numbers.{value_text}
use Rattle.aso_num.specs.AmountText.{amount_of}
use Rattle.aso_outline.specs.declared.draft.Draft.{Draft}
use Rattle.aso_outline.specs.Members.{Name}
use Rattle.aso_spec.specs.Cells.{Key, Cells, amount_at, add_at}
use Rattle.aso_spec.specs.Named.{key_named}
use Rattle.aso_spec.specs.Grid.{error_line, grid_head, label, shown}
use Rattle.aso_script.specs.Script.{Addition, Line}
use Rattle.aso_mdx.specs.declared.query.Query.{Query}
use Rattle.aso_cellnames.specs.Names.{cell_names, is_unknown, wrong_in_cell}
use Rattle.aso_sums.specs.Stored.{stored_value}
use Rattle.aso_query.specs.declared.refusal.QueryRefusal.{QueryRefusal}
use Rattle.aso_query.specs.Answers.{IsGridOf, IsRefused, Stored}
use Rattle.aso_query.specs.Texts.{refusal_text}
use Rattle.aso_machine.specs.State.{State, committed}
use Rattle.aso_machine.specs.Lines.{Reading, Adds, Asks, Faulty, IsRead}

-- what a line comes to
pub data Said : Type 0 where
  -- refused, with this number and text
  Refuses : (text : List ℕ) → Said
  -- a grid of so many rows and columns
  Shows : (rows columns : ℕ) → (grid : List ℕ) → Said
  -- a commit that makes these the cells
  Changes : (cells : Cells) → Said

-- ---- the database

-- two texts are the same
abbrev pub is : List ℕ → List ℕ → Bool
is text other = pointwise nat_eq text other

-- the refusal for a database that isn't the outline's
abbrev pub other_database : Draft → List ℕ → List ℕ → Option (List ℕ)
other_database o app db = if is app o.app && is db o.db then None else Some (codes "202 database: " ++ shown (app ++ 46 ∷ db))

-- ---- additions

-- for the first name that is unknown, or else for the name that keeps them from being those of a cell
abbrev pub names_refusal : Draft → List Name → Option (List ℕ)
names_refusal o names =
    option_or (option_map (λ n. codes "203 unknown member: " ++ shown n) (find (is_unknown o) names))
    (option_map (λ n. codes "216 wrong dimension: " ++ shown n) (wrong_in_cell o names))

-- the first refusal, for the database or for the names
abbrev pub addition_refusal : Draft → Addition → Option (List ℕ)
addition_refusal o a = option_or (other_database o a.app a.db) (names_refusal o a.names)

-- the amount that the cell has once the amount is added to it
abbrev pub sum_at : Cells → Key → ℤ → ℤ
sum_at cells key z = unwrap_or (amount_at (add_at key z cells) key) z

abbrev pub added_to : Draft → Cells → Key → ℤ → Said
added_to o cells key z =
    if nat_le (10 ^ 18) (unsigned_abs (sum_at cells key z))
    then Refuses (codes "210 amount range: " ++ label (cell_names o key) ++ codes ", " ++ value_text (Num (sum_at cells key z)))
    else (if nat_lt 1000 (length (add_at key z cells)) then Refuses (codes "213 too many cells: " ++ decimal (length (add_at key z cells))) else Changes (add_at key z cells))

-- behind the last layout there is none that a change could make
abbrev pub unless_ended : State → Said → Said
unless_ended s said = if s.layout == 2 ^ 64 - 1 then Refuses (codes "215 sequence end") else said

-- an addition that isn't refused for its database or its names
abbrev pub changed : State → Addition → Said
changed s a = unless_ended s (added_to s.outline s.cells (key_named s.outline a.names) (result_unwrap_or (amount_of a.amount) (pos 0)))

abbrev pub unless_refused : Option (List ℕ) → Said → Said
unless_refused None said = said
unless_refused (Some text) said = Refuses text

abbrev pub added : State → Addition → Said
added s a = unless_refused (addition_refusal s.outline a) (changed s a)

-- ---- queries

-- the stored values of the state
abbrev pub values_of : State → Stored
values_of s = stored_value s.outline s.cells

-- A query of another database is refused for that, and any other is what it comes to over the state's stored values.
abbrev pub IsAnswer : State → Query → Said → Type 0
IsAnswer s q (Refuses text) =
    (other_database s.outline q.app q.db ≡ Some text)
    ⊎ ((other_database s.outline q.app q.db ≡ None) × ((r : QueryRefusal) × IsRefused s.outline (values_of s) q r × (text ≡ refusal_text r)))
IsAnswer s q (Shows rows columns grid) = (other_database s.outline q.app q.db ≡ None) × IsGridOf s.outline (values_of s) q rows columns grid
IsAnswer s q (Changes cells) = ⊥

-- ---- lines

-- what a line comes to that begins at a byte of the script and says this
abbrev pub Says : State → ℕ → Reading → Said → Type 0
Says s at (Adds a) said = said ≡ added s a
Says s at (Asks q) said = IsAnswer s q said
Says s at (Faulty byte) said = said ≡ Refuses (codes "201 syntax: byte " ++ decimal (at + byte))

-- What a line of the script comes to.
pub record Comes (s : State) (line : Line) (said : Said) : Type 0 where
  pub reading : Reading
  pub reads : IsRead line.bytes reading
  pub says : Says s line.at reading said

-- ---- replies and next states

-- a store, and what a publish that ended in doubt would have left, until a later publish has closed its gate
pub record Held : Type 0 where
  pub state : State
  pub doubt : Option State

abbrev pub held : State → Option State → Held
held s doubt = record { state = s; doubt = doubt }

abbrev pub ok_line : ℕ → ℕ → List ℕ
ok_line i commit = codes "OK " ++ decimal i ++ codes " commit " ++ decimal commit ++ 10 ∷ []

abbrev pub doubt_text : ℕ → List ℕ
doubt_text commit = codes "302 disk fault: commit " ++ decimal commit ++ codes " in doubt"

-- the statement is answered
abbrev pub Accepts : Said → Held → ℕ → List ℕ → Held → Type 0
Accepts (Refuses text) h i reply after = ⊥
Accepts (Shows rows columns grid) h i reply after = (reply ≡ grid_head i h.state.commit rows columns ++ grid) × (after ≡ h)
Accepts (Changes cells) h i reply after = (reply ≡ ok_line i (h.state.commit + 1)) × (after ≡ held (committed h.state cells) None)

abbrev pub Declines : Said → ℕ → List ℕ → Type 0
Declines (Refuses text) i reply = reply ≡ error_line i text
Declines _ i reply = ⊥

-- the statement's publish failed, and the commit is in doubt or it is not
abbrev pub Fails : Said → Held → ℕ → List ℕ → Held → Type 0
Fails (Changes cells) h i reply after =
    ((reply ≡ error_line i (codes "301 disk fault")) × (after ≡ h))
    ⊎ ((reply ≡ error_line i (doubt_text (h.state.commit + 1))) × (after ≡ held h.state (Some (committed h.state cells))))
Fails _ h i reply after = ⊥

-- What statement i may come to: its reply, its status, and the store afterwards. `failed` is that the device failed
-- meanwhile. Only an accepted change, and a doubt, change anything.
abbrev pub Outcome : Type 0 → Held → ℕ → Line → List ℕ → Status → Held → Type 0
Outcome failed h i line reply Done after = (said : Said) × Comes h.state line said × Accepts said h i reply after
Outcome failed h i line reply Refused after = (said : Said) × Comes h.state line said × Declines said i reply × (after ≡ h)
Outcome failed h i line reply Disk after = failed × ((said : Said) × Comes h.state line said × Fails said h i reply after)
Outcome failed h i line reply NoMemory after = (reply ≡ error_line i (codes "401 no memory")) × (after ≡ h)
Outcome failed h i line reply _ after = ⊥

-- what the publish of a line that is a commit would leave
abbrev pub IsUnderWay : State → Line → State → Type 0
IsUnderWay s line next = (cells : Cells) × Comes s line (Changes cells) × (next ≡ committed s cells)
