use Rattle.std.specs.Prelude.{ℕ, ◌+◌, ◌*◌, ◌%◌, Bool, not, ◌==◌, ◌&&◌, ◌||◌, nat_lt, List, length, map, filter, position, if◌then◌else◌}
use Rattle.std.specs.Option.{option_map_or}
use Rattle.house_base.specs.declared.limits.TheConstants.{DOLLAR}
use Rattle.house_base.specs.Setting.{Setting, size, cluster_at, need, may}
use Rattle.peer_selection.specs.Counting.{count_below, sum_below, all_below, numbers_below}
use Rattle.peer_selection.specs.Split.{cents_at}

-- Pairs of a person's place and an applicant's place, and points for such pairs.
abbrev pub Pairs : Type 0
Pairs = ℕ → ℕ → Bool

abbrev pub Points : Type 0
Points = ℕ → ℕ → ℕ

-- A valid assignment: each pair may be, each person stands in as many pairs as it owes reviews, and each
-- applicant gets the call's number of reviews.
unfoldable pub is_valid : Setting → Pairs → Bool
is_valid s pairs =
    all_below (λ r. all_below (λ p. not (pairs r p) || may s r p) (size s)) (size s)
    && all_below (λ r. count_below (pairs r) (size s) == need s r) (size s)
    && all_below (λ p. count_below (λ r. pairs r p) (size s) == s.reviews) (size s)

-- A profile: a setting, who reviews whom, and the points that the reviewers gave.
pub record Profile : Type 0 where
  pub setting : Setting
  pub pairs : Pairs
  pub points : Points

-- the profile of a setting with these pairs and points
abbrev pub profile_on : Setting → Pairs → Points → Profile
profile_on s pairs points = record { setting = s; pairs = pairs; points = points }

-- the common denominator of all quotas: a dollar, in cents, for each person
unfoldable pub denominator : Setting → ℕ
denominator s = length s.owners * DOLLAR

-- the proposals of a reviewer, in the order of rising distance
abbrev pub proposals_of : Setting → Pairs → ℕ → List ℕ
proposals_of s pairs r = filter (pairs r) (map (λ d. (r + 1 + d) % size s) (numbers_below (size s)))

unfoldable pub row : Profile → ℕ → List ℕ
row f r = proposals_of f.setting f.pairs r

-- the points that a reviewer gave them
unfoldable pub row_points : Profile → ℕ → List ℕ
row_points f r = map (f.points r) (row f r)

-- the cents that a reviewer gives an applicant: 0 where it doesn't review it
unfoldable pub cents : Profile → ℕ → ℕ → ℕ
cents f r p = option_map_or (cents_at (row_points f r)) (position (λ q. q == p) (row f r)) 0

-- the score of an applicant: the cents that it gets from all its reviewers
unfoldable pub score : Profile → ℕ → ℕ
score f p = sum_below (λ r. cents f r p) (size f.setting)

-- how many members a cluster has
unfoldable pub cluster_size : Setting → ℕ → ℕ
cluster_size s j = count_below (λ p. cluster_at s p == j) (size s)

-- the cents that a cluster gets: the sum of its members' scores
unfoldable pub cluster_cents : Profile → ℕ → ℕ
cluster_cents f j = sum_below (λ p. if cluster_at f.setting p == j then score f p else 0) (size f.setting)

-- the quota of a cluster, over the denominator: its share of the seats
unfoldable pub quota : Profile → ℕ → ℕ
quota f j = f.setting.seats * cluster_cents f j

-- the quotas of the clusters 1 to j together
unfoldable pub cumulative_quota : Profile → ℕ → ℕ
cumulative_quota f j = sum_below (λ i. quota f (i + 1)) j

-- the rank of an applicant in its cluster: 1 more than the members with a greater score, or with an equal
-- one and a smaller place
unfoldable pub rank : Profile → ℕ → ℕ
rank f p = 1 + count_below (λ q. cluster_at f.setting q == cluster_at f.setting p
    && (nat_lt (score f p) (score f q) || (score f q == score f p && nat_lt q p))) (size f.setting)
