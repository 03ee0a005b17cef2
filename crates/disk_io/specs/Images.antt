-- What a crash may leave of a file between two syncs.
use Rattle.std.specs.Prelude.{◌≡◌, ℕ, ◌+◌, ◌≤◌, ◌<◌, ◌&&◌, max, nat_le, nat_lt, Bool, false, List, [], ◌∷◌, length, get_or}
use Rattle.std.specs.List.{list_any}

-- the bytes at the last sync, the bytes as they read, and the ranges written since, each by its place and length
pub record OnDisk : Type 0 where
  pub synced : List ℕ
  pub seen : List ℕ
  pub ranges : List (ℕ × ℕ)

-- whether a place is in one of the ranges
abbrev pub is_inside : ℕ → List (ℕ × ℕ) → Bool
is_inside i ranges = list_any (λ r. nat_le r.0 i && nat_lt i (r.0 + r.1)) ranges

-- the greatest end of the old content and of the ranges
abbrev pub end_of : ℕ → List (ℕ × ℕ) → ℕ
end_of old [] = old
end_of old (r ∷ ranges) = max (r.0 + r.1) (end_of old ranges)

-- any bytes in the ranges and past the old end, the same elsewhere, and an end anywhere from the old one on
pub record IsImage (disk : OnDisk) (image : List ℕ) : Type 0 where
  pub no_shorter : length disk.synced ≤ length image
  pub no_longer : length image ≤ end_of (length disk.synced) disk.ranges
  pub same : (i : ℕ) → i < length disk.synced → is_inside i disk.ranges ≡ false → get_or image i 0 ≡ get_or disk.synced i 0

-- right after a sync of these bytes
abbrev pub with_synced : List ℕ → OnDisk
with_synced bytes = record { synced = bytes; seen = bytes; ranges = [] }

-- a write in this range has begun, and the bytes now read so
abbrev pub with_range : OnDisk → ℕ → ℕ → List ℕ → OnDisk
with_range disk at n seen = record { synced = disk.synced; seen = seen; ranges = (at, n) ∷ disk.ranges }
