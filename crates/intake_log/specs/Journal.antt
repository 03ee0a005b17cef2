-- What the file of a journal stands for.
use Rattle.std.specs.Prelude.{◌≡◌, ◌≢◌, ◌≤◌, ◌⊎◌, ℕ, ◌+◌, List, [], ◌∷◌, ◌++◌, length, sum_by, Option, Some}
use Rattle.std.specs.Int.{to_be_bytes, w32}
use Rattle.command_text.specs.Held.{HasNoFeed}
use Rattle.disk_io.specs.Disk.{Only}
use Rattle.intake_log.specs.declared.limits.TheConstants.{MOST_LINE_BYTES}

-- a line that the journal takes
pub record IsJournalLine (line : List ℕ) : Type 0 where
  pub short : length line ≤ MOST_LINE_BYTES
  pub no_feed : HasNoFeed line

-- bytes are the records of these lines, one behind the other: an open gate, the length, the line
abbrev pub AreRecords : List ℕ → List (List ℕ) → Type 0
AreRecords bytes [] = bytes ≡ []
AreRecords bytes (line ∷ lines) = (gate : ℕ) × (rest : List ℕ) × (gate ≢ 0) × IsJournalLine line
    × (bytes ≡ gate ∷ (to_be_bytes w32 (length line) ++ line ++ rest)) × AreRecords rest lines

-- records, a closed gate at this place, and anything behind it
pub record IsClosedAt (gate : ℕ) (bytes : List ℕ) (lines : List (List ℕ)) : Type 0 where
  pub records : List ℕ
  pub behind : List ℕ
  pub hold : AreRecords records lines
  pub gate_is : gate ≡ length records
  pub parts : bytes ≡ records ++ 0 ∷ behind

-- what a file stands for
abbrev pub StandsFor : List ℕ → List (List ℕ) → Type 0
StandsFor bytes lines = ((length bytes ≤ 1) × (lines ≡ [])) ⊎ ((gate : ℕ) × IsClosedAt gate bytes lines)

-- where a disk tells, its file is closed at the gate, and a crash leaves that alone
pub record IsKept {D : Type 0} (content : D → Option (List ℕ)) (images : D → List ℕ → Type 0) (disk : D) (gate : ℕ) (lines : List (List ℕ)) : Type 0 where
  pub closed : (bytes : List ℕ) → content disk ≡ Some bytes → IsClosedAt gate bytes lines
  pub durable : (bytes : List ℕ) → content disk ≡ Some bytes → Only bytes (images disk)

-- an image that stands for lines, with one more or without it
abbrev pub IsBeforeOrAfter : List (List ℕ) → List ℕ → List ℕ → Type 0
IsBeforeOrAfter lines line image = StandsFor image lines ⊎ StandsFor image (lines ++ line ∷ [])

-- the length of a line, the line, and a closed gate behind it
abbrev pub entry : List ℕ → List ℕ
entry line = to_be_bytes w32 (length line) ++ line ++ 0 ∷ []

-- how many bytes the records of lines have
abbrev pub records_size : List (List ℕ) → ℕ
records_size lines = sum_by (λ line. length line + 5) lines
