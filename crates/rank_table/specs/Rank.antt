use Rattle.std.specs.Prelude.{ℕ, Bool, ◌==◌, ◌&&◌, ◌||◌, nat_lt}
use Rattle.house_base.specs.Setting.{Setting, cluster_at}

-- an applicant goes before another one of its cluster: by the greater of these scores, and then by the smaller
-- place
abbrev pub goes_before : Setting → (ℕ → ℕ) → ℕ → ℕ → Bool
goes_before s scores rival place = cluster_at s rival == cluster_at s place
    && (nat_lt (scores place) (scores rival) || (scores rival == scores place && nat_lt rival place))
