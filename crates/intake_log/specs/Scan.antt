-- What is read in the file of a journal.
use Rattle.std.specs.Prelude.{◌≡◌, ◌≢◌, ℕ, zero, suc, ◌+◌, ◌==◌, ◌&&◌, ◌||◌, not, nat_le, nat_lt, Bool, List, [], ◌∷◌, ◌++◌, length, take, drop, bytes_eq, Option, Some, None, if◌then◌else◌}
use Rattle.std.specs.List.{list_any}
use Rattle.std.specs.Int.{to_be_bytes, from_be_bytes, w32}
use Rattle.house_model.specs.declared.limits.TheConstants.{MOST_BYTES, MOST_LINES}
use Rattle.intake_log.specs.declared.limits.TheConstants.{MOST_LINE_BYTES}
use Rattle.intake_log.specs.declared.fault.StartFault.{StartFault}
use Rattle.intake_log.specs.declared.fault.StartFault.TheVariants.{Failed, BadJournal, Full, Memory}
use Rattle.intake_log.specs.Journal.{AreRecords, IsJournalLine, records_size}
use Rattle.intake_log.specs.Limits.{AreWithin, IsFull, text_size}

-- the lines up to a closed gate, the place of the first gate that is off the form, or that the limits are passed
pub data Scanned : Type 0 where
  Ended : List (List ℕ) → Scanned
  OffForm : ℕ → Scanned
  Over : Scanned

-- whether bytes begin with this size, and a line of it
unfoldable pub is_record : ℕ → List ℕ → Bool
is_record size bytes = bytes_eq (take 4 bytes) (to_be_bytes w32 size) && nat_le size MOST_LINE_BYTES
    && nat_le size (length (drop 4 bytes)) && not (list_any (λ byte. byte == 10) (take size (drop 4 bytes)))

-- the line behind an open gate, where there is a record
unfoldable pub line_at_front : List ℕ → Option (List ℕ)
line_at_front bytes =
    let size = from_be_bytes w32 (take 4 bytes) in if is_record size bytes then Some (take size (drop 4 bytes)) else None

-- whether one line more passes the limits
unfoldable pub is_full : List (List ℕ) → List ℕ → Bool
is_full lines line = nat_le MOST_LINES (length lines) || nat_lt MOST_BYTES (text_size lines + (length line + 1))

-- The scan of the bytes behind the records of these lines, gate by gate. Each record takes more than one byte, so that
-- fuel for each byte is enough.
unfoldable pub scan_behind : ℕ → List (List ℕ) → List ℕ → Scanned
scan_behind zero lines bytes = OffForm (records_size lines)
scan_behind (suc fuel) lines [] = OffForm (records_size lines)
scan_behind (suc fuel) lines (zero ∷ bytes) = Ended lines
scan_behind (suc fuel) lines (suc gate ∷ bytes) = elim (line_at_front bytes) [
  | None ↦ OffForm (records_size lines)
  | Some line ↦ if is_full lines line then Over else scan_behind fuel (lines ++ line ∷ []) (drop (4 + length line) bytes)
]

-- the scan of a file
abbrev pub scan : List ℕ → Scanned
scan bytes = scan_behind (length bytes) [] bytes

-- what a file reads as once it was started: a closed gate where it had at most one byte
abbrev pub settled : List ℕ → List ℕ
settled bytes = if nat_le (length bytes) 1 then 0 ∷ [] else bytes

-- what a start finds in a file
abbrev pub found : List ℕ → Scanned
found bytes = scan (settled bytes)

-- bytes begin with the record of a line
abbrev pub BeginsWith : List ℕ → List ℕ → Type 0
BeginsWith bytes line = (gate : ℕ) × (rest : List ℕ) × (gate ≢ 0) × IsJournalLine line
    × (bytes ≡ gate ∷ (to_be_bytes w32 (length line) ++ line ++ rest))

-- bytes begin with no closed gate and no record
pub record IsOffForm (bytes : List ℕ) : Type 0 where
  pub not_closed : (rest : List ℕ) → bytes ≢ 0 ∷ rest
  pub no_record : (line : List ℕ) → BeginsWith bytes line → ⊥

-- the records of lines within the limits, and what stands behind them
pub record AreRead (bytes : List ℕ) (lines : List (List ℕ)) (rest : List ℕ) : Type 0 where
  pub records : List ℕ
  pub within : AreWithin lines
  pub hold : AreRecords records lines
  pub parts : bytes ≡ records ++ rest

-- what the scan is to say
abbrev pub Finds : List ℕ → Scanned → Type 0
Finds bytes (Ended lines) = (rest : List ℕ) × AreRead bytes lines (0 ∷ rest)
Finds bytes (OffForm place) = (lines : List (List ℕ)) × (rest : List ℕ) × AreRead bytes lines rest × IsOffForm rest × (place ≡ records_size lines)
Finds bytes Over = (lines : List (List ℕ)) × (rest line : List ℕ) × AreRead bytes lines rest × BeginsWith rest line × IsFull lines line

-- the cause that a start names is the one that its bytes give; a failing disk and want of memory say nothing of them
abbrev pub Explains : Scanned → StartFault → Type 0
Explains scanned Failed = Unit {0}
Explains scanned (BadJournal place) = scanned ≡ OffForm place
Explains scanned Full = scanned ≡ Over
Explains scanned Memory = Unit {0}
