use Rattle.std.specs.Prelude.{◌≡◌, ℕ, ◌+◌, ◌*◌, ◌%◌, ◌<◌, ◌≤◌, Bool, List, length, map, filter, position, slice_index, All, AllPairs, ◌≢◌, ◌==◌, if◌then◌else◌}
use Rattle.std.specs.Option.{option_map_or}
use Rattle.house_base.specs.declared.limits.TheConstants.{DOLLAR, MOST_OWN, MOST_REVIEWS}
use Rattle.house_base.specs.Setting.{Setting, IsSetting, size, cluster_at}
use Rattle.peer_selection.specs.Counting.{sum_below, numbers_below}
use Rattle.peer_selection.specs.Profile.{Pairs, Profile, denominator, score, cluster_cents}

-- The scores of the applicants by place, the cents of the clusters, and the common denominator.
pub record Shares : Type 0 where
  pub scores : List ℕ
  pub clusters : List ℕ
  pub den : ℕ

-- the sum of the numbers of the first so many places that are in a cluster
abbrev pub cluster_sum : Setting → (ℕ → ℕ) → ℕ → ℕ → ℕ
cluster_sum s numbers j n = sum_below (λ p. if cluster_at s p == j then numbers p else 0) n

-- the totals have a number for each applicant and each cluster of a setting, and the cents of the clusters sum to
-- the denominator
pub record HoldsTotals (s : Setting) (t : Shares) : Type 0 where
  pub scores : length t.scores ≡ size s
  pub clusters : length t.clusters ≡ s.clusters
  pub den : t.den ≡ denominator s
  pub whole : sum_below (slice_index t.clusters) s.clusters ≡ t.den

-- the totals are those of a profile
pub record IsTotals (f : Profile) (t : Shares) : Type 0 where
  pub score : (p : ℕ) → p < size f.setting → slice_index t.scores p ≡ score f p
  pub cents : (j : ℕ) → j < f.setting.clusters → slice_index t.clusters j ≡ cluster_cents f (j + 1)

-- the proposals of a reviewer among so many places, in the order of rising distance
unfoldable pub row_among : ℕ → Pairs → ℕ → List ℕ
row_among n pairs r = filter (pairs r) (map (λ d. (r + 1 + d) % n) (numbers_below n))

-- of so many places from one on, those that a test takes
abbrev pub among_places : (ℕ → Bool) → ℕ → ℕ → List ℕ
among_places test from many = filter test (map (λ k. from + k) (numbers_below many))

-- a row of different proposals that one person may have, as places below a number
pub record IsRow (n : ℕ) (row : List ℕ) : Type 0 where
  pub few : length row ≤ MOST_REVIEWS * MOST_OWN
  pub below : All (λ p. p < n) row
  pub differ : AllPairs (λ p q. p ≢ q) row

-- what a list of numbers has at the index at which a place stands in a row; 0 where it does not stand there
abbrev pub found_in : List ℕ → List ℕ → ℕ → ℕ
found_in numbers row p = option_map_or (slice_index numbers) (position (λ q. q == p) row) 0

-- the cents of each cluster are the sum of its members' scores
pub record IsSummed (s : Setting) (t : Shares) : Type 0 where
  pub scores : length t.scores ≡ size s
  pub clusters : length t.clusters ≡ s.clusters
  pub sums : (j : ℕ) → j < s.clusters → slice_index t.clusters j ≡ cluster_sum s (slice_index t.scores) (j + 1) (size s)

-- Along a row of proposals the cents that they had from one person can be exchanged for others.
pub record IsExchange (s : Setting) (t : Shares) (row before after : List ℕ) : Type 0 where
  pub setting : IsSetting s
  pub summed : IsSummed s t
  pub places : IsRow (size s) row
  pub had : length row ≤ length before
  pub given : length row ≤ length after
  pub enough : (i : ℕ) → i < length row → slice_index before i ≤ slice_index t.scores (slice_index row i)
  pub few : (i : ℕ) → i < length row → slice_index after i ≤ DOLLAR
  pub most : (p : ℕ) → p < size s → slice_index t.scores p ≤ size s * DOLLAR
