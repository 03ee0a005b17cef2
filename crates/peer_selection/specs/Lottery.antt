use Rattle.std.specs.Prelude.{ℕ, ◌+◌, ◌-◌, ◌*◌, Bool, ◌&&◌, nat_lt, nat_le, min}
use Rattle.house_base.specs.Setting.{cluster_at}
use Rattle.peer_selection.specs.Counting.{count_below, sum_below}
use Rattle.peer_selection.specs.Profile.{Profile, denominator, cluster_size, cumulative_quota, rank}

-- Systematic sampling. The clusters' quotas lie end to end on a line. A draw v below the denominator D sets
-- sampling points at v, v + D, v + 2 * D and so on, one for each seat.

-- the seats of a cluster at a draw: the sampling points in its stretch of the line
unfoldable pub seats : Profile → ℕ → ℕ → ℕ
seats f j v = count_below (λ t. nat_le (cumulative_quota f (j - 1)) (v + t * denominator f.setting)
    && nat_lt (v + t * denominator f.setting) (cumulative_quota f j)) f.setting.seats

-- whether an applicant is selected at a draw: its rank is within its cluster's seats
unfoldable pub selected : Profile → ℕ → ℕ → Bool
selected f p v = nat_le (rank f p) (seats f (cluster_at f.setting p) v)

-- the chance of an applicant, over the denominator: how many of all draws select it
unfoldable pub chance : Profile → ℕ → ℕ
chance f p = count_below (selected f p) (denominator f.setting)

-- the seats of a cluster that its members fill
unfoldable pub filled : Profile → ℕ → ℕ → ℕ
filled f j v = min (seats f j v) (cluster_size f.setting j)

-- the seats that stay empty
unfoldable pub empty_seats : Profile → ℕ → ℕ
empty_seats f v = sum_below (λ i. seats f (i + 1) v - filled f (i + 1) v) f.setting.clusters
