-- A log as contracts see it.
use Rattle.std.specs.Prelude.{◌≡◌, ◌⊎◌, ℕ, Bool, true, List, Option, is_some, Result, Ok, Err, IsTrue}
use Rattle.intake_log.specs.Journal.{IsKept, StandsFor, records_size}
use Rattle.intake_log.specs.Limits.{AreWithin}
use Rattle.intake_log.specs.declared.fault.Stopped.{Stopped}
use Rattle.intake_log.specs.declared.fault.PutFault.{PutFault}
use Rattle.intake_log.specs.declared.fault.PutFault.TheVariants.{Broken, Long, Full, Memory, Failed}

-- the disk, the lines, the place of the closed gate, and whether a put has failed
pub record Logged (D : Type 0) : Type 0 where
  pub disk : D
  pub lines : List (List ℕ)
  pub gate : ℕ
  pub broken : Bool

-- The gate stands behind the records of the lines, which are within the limits. Unless a put has failed, the disk has
-- them, and a crash leaves that alone.
pub record IsLog {D : Type 0} (content : D → Option (List ℕ)) (images : D → List ℕ → Type 0) (log : Logged D) : Type 0 where
  pub gate : log.gate ≡ records_size log.lines
  pub within : AreWithin log.lines
  pub kept : (log.broken ≡ true) ⊎ IsKept content images log.disk log.gate log.lines

-- where a disk tells, each image that a crash now may leave stands for these lines
abbrev pub LeavesLines : {D : Type 0} → (D → Option (List ℕ)) → (D → List ℕ → Type 0) → D → List (List ℕ) → Type 0
LeavesLines content images disk lines = IsTrue (is_some (content disk)) → (image : List ℕ) → images disk image → StandsFor image lines

-- a fact for each answer but Ok and Failed
abbrev pub OnRefusal : {T : Type 0} → Result T PutFault → Type 0 → Type 0
OnRefusal (Ok done) P = Unit {0}
OnRefusal (Err Broken) P = P
OnRefusal (Err Long) P = P
OnRefusal (Err Full) P = P
OnRefusal (Err Memory) P = P
OnRefusal (Err Failed) P = Unit {0}

-- a fact of the disk that is in a log, or was handed back
abbrev pub OnDisk : {D : Type 0} → Result (Logged D) (Stopped D) → (D → Type 0) → Type 0
OnDisk (Ok log) P = P log.disk
OnDisk (Err stopped) P = P stopped.disk
