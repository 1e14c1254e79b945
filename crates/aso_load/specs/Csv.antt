-- The records of a data file, and those that a reader has still to give.
use Rattle.std.specs.Prelude.{◌≡◌, ℕ, ◌+◌, List, length, Some, unwrap_or, []}
use Rattle.std.specs.Borrow.{Bor}
use Rattle.csv.specs.Reading.{Ready, default_config, reader_config, reader_state, reader_trim, records, records_from, source_of, strip_bom}
use Rattle.csv.specs.declared.parser.Config.{Config}
use Rattle.csv.specs.declared.parser.State.{State}
use Rattle.csv.specs.declared.reader.Reader.{Reader}
use Rattle.csv.specs.declared.reader.Trim.TheVariants as trim

-- the defaults of `csv` but for the byte between fields
abbrev pub config_of : ℕ → Config
config_of delimiter = record default_config { delimiter = delimiter }

-- the records of a text, behind a byte order mark
abbrev pub records_of : ℕ → List ℕ → List (List (List ℕ))
records_of delimiter text = records (config_of delimiter) (strip_bom text)

-- the records that are left of a text in a state
abbrev pub records_left : Config → State → List ℕ → List (List (List ℕ))
records_left cfg s xs = records_from cfg (length xs + 1) s xs

abbrev pub text_left : Reader (Bor (List ℕ)) → List ℕ
text_left rdr = unwrap_or (source_of (λ s. Some s.now) rdr) []

-- the records that a reader has still to give
abbrev pub left_of : Reader (Bor (List ℕ)) → List (List (List ℕ))
left_of rdr = records_left (reader_config rdr) (reader_state rdr) (text_left rdr)

-- the reader gives whole fields, takes no record for a header, and has not failed
abbrev pub IsReading : Reader (Bor (List ℕ)) → Type 0
IsReading rdr = (reader_trim rdr ≡ trim.None) × Ready rdr × (source_of (λ s. Some s.now) rdr ≡ Some (text_left rdr))
