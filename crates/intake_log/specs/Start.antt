-- What the start of a journal does to its disk.
use Rattle.std.specs.Prelude.{◌≡◌, ◌≤◌, ◌⊎◌, ℕ, List, Option, length}
use Rattle.disk_io.specs.Disk.{AreAmong, GoesOn}

-- an image from before, or of at most one byte where the file had no more
abbrev pub IsEarlierOrShort : List ℕ → (List ℕ → Type 0) → List ℕ → Type 0
IsEarlierOrShort bytes images image = images image ⊎ ((length bytes ≤ 1) × (length image ≤ 1))

-- calls that leave the content, and after which and while which a crash leaves no other image than before
pub record OnlyReads {D : Type 0} (content : D → Option (List ℕ)) (images : D → List ℕ → Type 0) (moment : D → ℕ) (since : D → ℕ → List ℕ → Type 0) (old new : D) : Type 0 where
  pub same : content new ≡ content old
  pub after : AreAmong (images new) (images old)
  pub during : AreAmong (since new (moment old)) (images old)
  pub time : GoesOn (moment old) (moment new) (since old) (since new)
