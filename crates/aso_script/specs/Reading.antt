-- How an addition's text is read: a value and what follows it, or none.
use Rattle.std.specs.Prelude.{ℕ, zero, suc, ◌+◌, ◌-◌, Bool, not, List, [], ◌∷◌, length, take, drop, Option, Some, None, nat_eq, nat_lt, ◌==◌, if◌then◌else◌, codes}
use Rattle.std.specs.List.{starts_with, ends_with, prefix_len}
use Rattle.aso_outline.specs.Members.{Name}
use Rattle.aso_outline.specs.Rules.{is_word_byte, is_word}
use Rattle.aso_script.specs.Script.{Addition, is_listed, is_amount}

abbrev pub Read : Type 0 → Type 0
Read A = Option (A × List ℕ)

infixl 10 ◌>>=◌
abbrev pub ◌>>=◌ : {A B : Type 0} → Option A → (A → Option B) → Option B
None >>= f = None
(Some a) >>= f = f a

-- ---- pieces

-- what follows a fixed text, and what stands before one
abbrev pub after : List ℕ → List ℕ → Option (List ℕ)
after word text = if starts_with nat_eq text word then Some (drop (length word) text) else None

abbrev pub before : List ℕ → List ℕ → Option (List ℕ)
before word text = if ends_with nat_eq text word then Some (take (length text - length word) text) else None

-- a front of so many bytes, if it passes
abbrev pub front_if : (List ℕ → Bool) → ℕ → ℕ → List ℕ → Read (List ℕ)
front_if test n m text = if test (take n text) then Some (take n text, drop m text) else None

abbrev pub word_len : List ℕ → ℕ
word_len text = prefix_len is_word_byte text

-- the longest word
abbrev pub read_word : List ℕ → Read (List ℕ)
read_word text = front_if is_word (word_len text) (word_len text) text

abbrev pub until_close : List ℕ → ℕ
until_close text = prefix_len (λ b. not (b == 93)) text

-- a name behind its opening bracket, and the closing one
abbrev pub read_closed : List ℕ → Read Name
read_closed text = if nat_lt (until_close text) (length text) then front_if is_listed (until_close text) (until_close text + 1) text else None

abbrev pub read_name : List ℕ → Read Name
read_name text = after (codes "[") text >>= read_closed

-- ---- parts

abbrev pub with_db : List ℕ → List ℕ × List ℕ → Read (List ℕ × List ℕ)
with_db app x = Some ((app, x.0), x.1)

abbrev pub with_app : List ℕ × List ℕ → Read (List ℕ × List ℕ)
with_app x = after (codes ".") x.1 >>= read_word >>= with_db x.0

abbrev pub read_database : List ℕ → Read (List ℕ × List ℕ)
read_database text = read_word text >>= with_app

abbrev pub put_before : Name → List Name × List ℕ → Read (List Name)
put_before name x = Some (name ∷ x.0, x.1)

-- further names, at most so many, each behind a comma
unfoldable pub read_further : ℕ → List ℕ → Read (List Name)
read_further zero text = Some ([], text)
read_further (suc n) text = elim (after (codes ",") text) [
  | None ↦ Some ([], text)
  | Some rest ↦ read_name rest >>= λ x. read_further n x.1 >>= put_before x.0
]

abbrev pub followed : Name × List ℕ → Read (List Name)
followed x = read_further 63 x.1 >>= put_before x.0

abbrev pub read_list : List ℕ → Read (List Name)
read_list text = read_name text >>= followed

-- ---- additions, without their ends

abbrev pub read_amount : List ℕ → Option (List ℕ)
read_amount text = if is_amount text then Some text else None

abbrev pub addition_to : List ℕ × List ℕ → List Name → List ℕ → Addition
addition_to d names amount = record { app = d.0; db = d.1; names = names; amount = amount }

abbrev pub with_amount : List ℕ × List ℕ → List Name → List ℕ → Option Addition
with_amount d names text = read_amount text >>= λ amount. Some (addition_to d names amount)

abbrev pub with_names : List ℕ × List ℕ → List Name × List ℕ → Option Addition
with_names d x = after (codes ") ") x.1 >>= with_amount d x.0

abbrev pub with_cell : (List ℕ × List ℕ) × List ℕ → Option Addition
with_cell d = after (codes " add cell (") d.1 >>= read_list >>= with_names d.0

-- an addition behind its first two words
abbrev pub read_behind : List ℕ → Option Addition
read_behind text = read_database text >>= with_cell

abbrev pub read_body : List ℕ → Option Addition
read_body text = after (codes "alter database ") text >>= read_behind

abbrev pub read_line : List ℕ → Option Addition
read_line line = before (codes ";\n") line >>= read_body
