-- A disk in memory, replayed from what it has recorded.
use Rattle.std.specs.Prelude.{◌≡◌, ℕ, ◌≤◌, List, [], ◌∷◌, ◌++◌, length, take, fold, Contains, if◌then◌else◌}
use Rattle.house_io.specs.Faults.{next_count}
use Rattle.disk_io.specs.Disk.{written}
use Rattle.disk_io.specs.Images.{OnDisk, IsImage, with_range, with_synced}
use Rattle.disk_io.specs.declared.step.Step.{Step}
use Rattle.disk_io.specs.declared.step.Step.TheVariants.{Write, Sync}

-- The disk after one more step. A write that failed has torn its range, and a sync that failed has ended nothing.
abbrev pub after_step : OnDisk → Step → OnDisk
after_step disk (Write at piece is_done) =
    with_range disk at (length piece) (if is_done then written disk.seen at piece else disk.seen)
after_step disk (Sync is_done) = if is_done then with_synced disk.seen else disk

-- the disk after these steps, from bytes that were synced
abbrev pub replayed : List ℕ → List Step → OnDisk
replayed first steps = fold after_step (with_synced first) steps

-- the bytes at first, each write and sync since, the numbers of the calls that fail, how many calls there were, how
-- many faults, and how many writes and syncs found no memory
pub record Recorded : Type 0 where
  pub first : List ℕ
  pub steps : List Step
  pub fails : List ℕ
  pub calls : ℕ
  pub faults : ℕ
  pub refused : ℕ

-- what a read gives
abbrev pub seen_now : Recorded → List ℕ
seen_now disk = (replayed disk.first disk.steps).seen

-- what a crash now may leave
abbrev pub IsImageNow : Recorded → List ℕ → Type 0
IsImageNow disk image = IsImage (replayed disk.first disk.steps) image

-- what a crash might have left after some number of steps, from this number on
abbrev pub IsImageSince : Recorded → ℕ → List ℕ → Type 0
IsImageSince disk t image = (k : ℕ) × (t ≤ k) × (k ≤ length disk.steps) × IsImage (replayed disk.first (take k disk.steps)) image

-- no call yet, and the bytes are synced
abbrev pub nothing_recorded : List ℕ → List ℕ → Recorded
nothing_recorded first fails = record { first = first; steps = []; fails = fails; calls = 0; faults = 0; refused = 0 }

-- the script lets the next call fail
abbrev pub FailsNext : Recorded → Type 0
FailsNext disk = Contains disk.fails (next_count disk.calls)

-- one more call
abbrev pub after_call : Recorded → Recorded
after_call disk = record disk { calls = next_count disk.calls }

-- one more call, and one more fault
abbrev pub after_failed_call : Recorded → Recorded
after_failed_call disk = record disk { calls = next_count disk.calls; faults = next_count disk.faults }

-- one more call, which found no memory for its record
abbrev pub after_refused_call : Recorded → Recorded
after_refused_call disk =
    record disk { calls = next_count disk.calls; faults = next_count disk.faults; refused = next_count disk.refused }

-- one more write or sync
abbrev pub with_step : Recorded → Step → Recorded
with_step disk step = record disk { steps = disk.steps ++ step ∷ [] }

-- a write begins at most at the end of what reads then
abbrev pub IsWithin : OnDisk → Step → Type 0
IsWithin disk (Write at piece is_done) = at ≤ length disk.seen
IsWithin disk (Sync is_done) = Unit {0}

-- each write of the steps began so
abbrev pub AreWithin : OnDisk → List Step → Type 0
AreWithin disk [] = Unit {0}
AreWithin disk (step ∷ steps) = IsWithin disk step × AreWithin (after_step disk step) steps

-- how the parts of a disk in memory stand to one another
pub record IsReplayed (first : List ℕ) (steps : List Step) (size : ℕ) : Type 0 where
  pub size_is : size ≡ length (replayed first steps).seen
  pub within : AreWithin (with_synced first) steps
