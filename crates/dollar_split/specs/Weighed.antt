use Rattle.std.specs.Prelude.{◌≡◌, ℕ, ◌+◌, ◌-◌, ◌*◌, ◌≤◌, Bool, List, length, sum, slice_index, All, ◌==◌, nat_le, nat_lt, if◌then◌else◌}
use Rattle.std.specs.List.{list_all}
use Rattle.house_base.specs.declared.limits.TheConstants.{MOST_OWN, MOST_POINTS, MOST_REVIEWS}
use Rattle.peer_selection.specs.Counting.{count_below}
use Rattle.peer_selection.specs.Split.{weights}

-- whether all points are 0
abbrev pub is_silent : List ℕ → Bool
is_silent points = list_all (λ x. x == 0) points

-- points among which a dollar can be split
pub record IsSplit (points : List ℕ) : Type 0 where
  pub some : 1 ≤ length points
  pub few : length points ≤ MOST_REVIEWS * MOST_OWN
  pub bounded : All (λ x. x ≤ MOST_POINTS) points

-- such points with whether all are 0 and with the sum of the weights, which is within bounds
pub record IsWeighed (points : List ℕ) (silent : Bool) (total : ℕ) : Type 0 where
  pub split : IsSplit points
  pub whether : silent ≡ is_silent points
  pub together : total ≡ sum (weights points)
  pub most : total ≤ MOST_REVIEWS * MOST_OWN * MOST_POINTS

-- the priority of a remainder at an index: greater for the greater remainder, and of equal ones for the one that
-- stands first
abbrev pub priority_of : ℕ → ℕ → ℕ
priority_of remainder i = remainder * (MOST_REVIEWS * MOST_OWN) + (MOST_REVIEWS * MOST_OWN - i)

-- whether the priority at an index is among the greatest so many
unfoldable pub is_among_first : List ℕ → ℕ → ℕ → Bool
is_among_first priorities left i =
    nat_lt (count_below (λ j. nat_lt (slice_index priorities i) (slice_index priorities j)) (length priorities)) left

-- how many priorities reach a bound
abbrev pub count_reaching : List ℕ → ℕ → ℕ
count_reaching priorities bound = count_below (λ j. nat_le bound (slice_index priorities j)) (length priorities)

-- the cents left over that go to an index
abbrev pub extra_at : List ℕ → ℕ → ℕ → ℕ
extra_at priorities left i = if is_among_first priorities left i then 1 else 0
