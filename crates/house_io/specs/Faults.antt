-- Counts of faults.
use Rattle.std.specs.Prelude.{◌≡◌, ℕ, ◌+◌, ◌-◌, ◌^◌, ◌<◌, ◌⊎◌, min}

-- the number at which a counter stops
abbrev pub greatest_count : ℕ
greatest_count = 2 ^ 64 - 1

-- one more, as far as a counter goes
abbrev pub next_count : ℕ → ℕ
next_count count = min (count + 1) greatest_count

-- the count is greater than before, or stands where a counter stops
abbrev pub Rose : ℕ → ℕ → Type 0
Rose before now = (before < now) ⊎ (now ≡ greatest_count)
