-- What the calls of a disk do to its file, and what a crash may leave.
use Rattle.std.specs.Prelude.{◌≡◌, ◌⊎◌, ◌≤◌, ℕ, ◌+◌, max, List, ◌++◌, length, take, drop}

-- old with these bytes at this place
abbrev pub written : List ℕ → ℕ → List ℕ → List ℕ
written old at piece = take at old ++ piece ++ drop (at + length piece) old

-- any bytes in a range of n and past the old end, the same elsewhere, and an end anywhere up to the greater one
pub record Torn (at n : ℕ) (old new : List ℕ) : Type 0 where
  pub before : take at new ≡ take at old
  pub after : drop (at + n) new ≡ drop (at + n) old
  pub no_shorter : length old ≤ length new
  pub no_longer : length new ≤ max (length old) (at + n)

-- each image now is an earlier one after a step
abbrev pub Follows : (List ℕ → List ℕ → Type 0) → (List ℕ → Type 0) → (List ℕ → Type 0) → Type 0
Follows step old new = (image : List ℕ) → new image → (earlier : List ℕ) × old earlier × step earlier image

-- each image now is an earlier one
abbrev pub AreAmong : (List ℕ → Type 0) → (List ℕ → Type 0) → Type 0
AreAmong new old = (image : List ℕ) → new image → old image

-- a crash leaves this and nothing else
abbrev pub Only : List ℕ → (List ℕ → Type 0) → Type 0
Only bytes images = (image : List ℕ) → images image → image ≡ bytes

-- The clock does not run back. An image since an earlier time was one before the call, or is one since the call began.
pub record GoesOn (before now : ℕ) (past since : ℕ → List ℕ → Type 0) : Type 0 where
  pub later : before ≤ now
  pub joins : (t : ℕ) (image : List ℕ) → t ≤ before → since t image → past t image ⊎ since before image

-- A crash at any moment since old leaves an image that has P.
pub record LeavesOnly {D : Type 0} (moment : D → ℕ) (since : D → ℕ → List ℕ → Type 0) (old new : D) (P : List ℕ → Type 0) : Type 0 where
  pub later : moment old ≤ moment new
  pub each : (image : List ℕ) → since new (moment old) image → P image
  -- for a run that began earlier
  pub before : (t : ℕ) (image : List ℕ) → t ≤ moment old → since new t image → since old t image ⊎ P image
