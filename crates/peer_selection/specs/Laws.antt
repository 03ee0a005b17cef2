use Rattle.std.specs.Prelude.{◌≡◌, ◌≢◌, ℕ, ◌+◌, ◌-◌, ◌*◌, ◌/◌, ◌%◌, ◌<◌, ◌≤◌, ◌⊎◌, ◌↔◌, ◌==◌, ◌&&◌, min, if◌then◌else◌, IsTrue, is_some, Contains, AllPairs}
use Rattle.house_base.specs.declared.limits.TheConstants.{DOLLAR}
use Rattle.house_base.specs.Setting.{Setting, IsSetting, size, need, may, owner_from, cluster_at, distance}
use Rattle.peer_selection.specs.Counting.{count_below, sum_below}
use Rattle.peer_selection.specs.Profile.{Pairs, Profile, is_valid, denominator, row, cents, score, cluster_size, cluster_cents, quota, cumulative_quota, rank}
use Rattle.peer_selection.specs.Lottery.{seats, filled, empty_seats, selected, chance}

-- What the laws of the mechanism say.

-- a valid assignment, fact by fact: each pair may be, each person reviews as many as it owes, and each
-- applicant gets its number of reviews
pub record IsValid (s : Setting) (pairs : Pairs) : Type 0 where
  pub permitted : (r p : ℕ) → r < size s → p < size s → IsTrue (pairs r p) → IsTrue (may s r p)
  pub owed : (r : ℕ) → r < size s → count_below (pairs r) (size s) ≡ need s r
  pub reviewed : (p : ℕ) → p < size s → count_below (λ r. pairs r p) (size s) ≡ s.reviews

-- a profile over a setting, with a valid assignment
pub record IsAssigned (f : Profile) : Type 0 where
  pub setting : IsSetting f.setting
  pub valid : IsTrue (is_valid f.setting f.pairs)

-- a number of seats that is a share, rounded down, or up where the share is not whole
abbrev pub IsRounded : ℕ → ℕ → ℕ → Type 0
IsRounded number share over = (number ≡ share / over) ⊎ ((number ≡ share / over + 1) × (share % over ≢ 0))

-- a reviewer's row has just the proposals that it reviews
abbrev pub HoldsReviews : Profile → ℕ → Type 0
HoldsReviews f r = (p : ℕ) → p < size f.setting → Contains (row f r) p ↔ IsTrue (f.pairs r p)

-- each proposal in a row is farther behind the reviewer than those before it, so none stands there twice
abbrev pub RisesInDistance : Profile → ℕ → Type 0
RisesInDistance f r = AllPairs (λ p q. distance (size f.setting) r p < distance (size f.setting) r q) (row f r)

-- a person gives away a dollar, whole
abbrev pub DollarIsGiven : Profile → ℕ → Type 0
DollarIsGiven f r = r < size f.setting → IsTrue (is_some (owner_from f.setting r))
    → sum_below (cents f r) (size f.setting) ≡ DOLLAR

-- the clusters get a dollar for each person
abbrev pub DollarsAreShared : Profile → Type 0
DollarsAreShared f = sum_below (λ i. cluster_cents f (i + 1)) f.setting.clusters ≡ denominator f.setting

-- the quotas of all clusters together are the seats
abbrev pub QuotasFillTheSeats : Profile → Type 0
QuotasFillTheSeats f = cumulative_quota f f.setting.clusters ≡ f.setting.seats * denominator f.setting

-- at a draw the clusters together get all seats
abbrev pub SeatsAreGiven : Profile → ℕ → Type 0
SeatsAreGiven f v = v < denominator f.setting → sum_below (λ i. seats f (i + 1) v) f.setting.clusters ≡ f.setting.seats

-- at a draw each cluster gets its quota, rounded
abbrev pub QuotasAreRounded : Profile → ℕ → Type 0
QuotasAreRounded f v = v < denominator f.setting → (i : ℕ) → i < f.setting.clusters
    → IsRounded (seats f (i + 1) v) (quota f (i + 1)) (denominator f.setting)

-- a rank counts from 1 to the members of the cluster
abbrev pub RankIsInCluster : Profile → ℕ → Type 0
RankIsInCluster f p = p < size f.setting → (1 ≤ rank f p) × (rank f p ≤ cluster_size f.setting (cluster_at f.setting p))

-- two applicants of one cluster
pub record ShareCluster (f : Profile) (p q : ℕ) : Type 0 where
  pub first : p < size f.setting
  pub second : q < size f.setting
  pub cluster : cluster_at f.setting p ≡ cluster_at f.setting q

-- in a cluster as many are selected as it fills seats
abbrev pub SeatsAreFilled : Profile → ℕ → ℕ → Type 0
SeatsAreFilled f j v = count_below (λ p. cluster_at f.setting p == j && selected f p v) (size f.setting) ≡ filled f j v

-- those who are selected and the seats that stay empty are all the seats
abbrev pub SeatsAreCounted : Profile → ℕ → Type 0
SeatsAreCounted f v = v < denominator f.setting
    → count_below (λ p. selected f p v) (size f.setting) + empty_seats f v ≡ f.setting.seats

-- over all draws a cluster gets its quota of seats
abbrev pub QuotaIsTheMean : Profile → ℕ → Type 0
QuotaIsTheMean f i = i < f.setting.clusters
    → sum_below (λ v. seats f (i + 1) v) (denominator f.setting) ≡ quota f (i + 1)

-- the chance of an applicant is the part of its cluster's quota that those of better rank leave, up to 1
abbrev pub ChanceIsExact : Profile → ℕ → Type 0
ChanceIsExact f p = p < size f.setting
    → chance f p ≡ min (denominator f.setting) (quota f (cluster_at f.setting p) - (rank f p - 1) * denominator f.setting)

-- the profile in which one reviewer gave other points
abbrev pub with_points : Profile → ℕ → (ℕ → ℕ) → Profile
with_points f reviewer points = record {
  setting = f.setting;
  pairs = f.pairs;
  points = λ r p. if r == reviewer then points p else f.points r p;
}

-- an applicant of a reviewer's cluster, so one of its own too
abbrev pub IsInClusterOf : Profile → ℕ → ℕ → Type 0
IsInClusterOf f reviewer p = (p < size f.setting) × (cluster_at f.setting p ≡ cluster_at f.setting reviewer)

-- other points of a reviewer leave a score in its cluster, a rank, its cluster's quota, and a chance
abbrev pub KeepsScore : Profile → ℕ → (ℕ → ℕ) → ℕ → Type 0
KeepsScore f reviewer points p = IsInClusterOf f reviewer p → score (with_points f reviewer points) p ≡ score f p

abbrev pub KeepsRank : Profile → ℕ → (ℕ → ℕ) → ℕ → Type 0
KeepsRank f reviewer points p = IsInClusterOf f reviewer p → rank (with_points f reviewer points) p ≡ rank f p

abbrev pub KeepsQuota : Profile → ℕ → (ℕ → ℕ) → Type 0
KeepsQuota f reviewer points =
    quota (with_points f reviewer points) (cluster_at f.setting reviewer) ≡ quota f (cluster_at f.setting reviewer)

abbrev pub KeepsChance : Profile → ℕ → (ℕ → ℕ) → ℕ → Type 0
KeepsChance f reviewer points p = IsInClusterOf f reviewer p → chance (with_points f reviewer points) p ≡ chance f p
