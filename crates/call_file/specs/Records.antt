-- The records of a text, as a reader goes through them.
use Rattle.std.specs.Prelude.{◌≡◌, ◌≢◌, ℕ, ◌+◌, false, List, [], ◌∷◌, length, Option, Some, None, IsSomeAnd}
use Rattle.std.specs.Borrow.{Bor}
use Rattle.csv.specs.Machine.{ends_at_end}
use Rattle.csv.specs.Reading.{Ready, default_config, records, records_from, source_of, strip_bom, is_flexible, reader_config, reader_state, reader_trim}
use Rattle.csv.specs.declared.parser.State.{State}
use Rattle.csv.specs.declared.reader.Reader.{Reader}
use Rattle.csv.specs.declared.reader.Trim.TheVariants as trim
use Rattle.house_base.specs.Text.{Text}
use Rattle.call_file.specs.declared.fault.OpenFault.{OpenFault}
use Rattle.call_file.specs.declared.fault.OpenFault.TheVariants as open_fault
use Rattle.call_file.specs.declared.records.RowFault.{RowFault}
use Rattle.call_file.specs.declared.records.RowFault.TheVariants as row_fault
use Rattle.call_file.specs.Register.{Fields}

-- the records of a register, without the byte order mark that a text may begin with
unfoldable pub rows_of : Text → List Fields
rows_of register = records default_config (strip_bom register)

-- a reader of bytes in memory
abbrev pub Reading : Type 0
Reading = Reader (Bor (List ℕ))

-- the bytes that it has left, where it has not failed
abbrev pub left_of : Reading → Option (List ℕ)
left_of reader = source_of (λ bytes. Some bytes.now) reader

-- the records of bytes from a state on
abbrev pub rows_from : State → Option (List ℕ) → List Fields
rows_from state None = []
rows_from state (Some bytes) = records_from default_config (length bytes + 1) state bytes

-- the records that it has still to give
unfoldable pub rows_left : Reading → List Fields
rows_left reader = rows_from (reader_state reader) (left_of reader)

-- a reader between two records of a text
pub record IsReading (reader : Reading) : Type 0 where
  pub trims_nothing : reader_trim reader ≡ trim.None
  pub ready : Ready reader
  pub config : reader_config reader ≡ default_config
  pub uneven_is_refused : is_flexible reader ≡ false
  pub left : List ℕ
  pub left_is : left_of reader ≡ Some left
  pub at_border : ends_at_end (reader_state reader) ≡ false

-- a first record is of another length than expected
abbrev pub BeginsUneven : Option ℕ → List Fields → Type 0
BeginsUneven expected [] = ⊥
BeginsUneven expected (fields ∷ rows) = IsSomeAnd expected (λ n. n ≢ length fields)

-- what a fault is at the record of a number
abbrev pub fault_at : ℕ → RowFault → OpenFault
fault_at number row_fault.Off = open_fault.BadRegister number
fault_at number row_fault.Memory = open_fault.Memory
