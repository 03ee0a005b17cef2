use Rattle.std.specs.Prelude.{ℕ, ◌+◌, ◌-◌, ◌*◌, ◌/◌, ◌%◌, Bool, ◌==◌, ◌&&◌, ◌||◌, nat_lt, List, length, map, sum, slice_index, if◌then◌else◌}
use Rattle.std.specs.List.{list_all}
use Rattle.house_base.specs.declared.limits.TheConstants.{DOLLAR}
use Rattle.peer_selection.specs.Counting.{count_below}

-- How one person's dollar is split among the proposals that it reviews, given the points for each in the
-- order of rising distance: by the largest remainder.

-- the weights: the points, or equal ones where all points are 0
unfoldable pub weights : List ℕ → List ℕ
weights points = if list_all (λ x. x == 0) points then map (λ x. 1) points else points

-- the whole cents of the share of the proposal at an index
unfoldable pub base_at : List ℕ → ℕ → ℕ
base_at points i = DOLLAR * slice_index (weights points) i / sum (weights points)

-- what is left of that share
unfoldable pub remainder_at : List ℕ → ℕ → ℕ
remainder_at points i = DOLLAR * slice_index (weights points) i % sum (weights points)

-- the cents that the whole parts of the shares leave over
unfoldable pub left_over : List ℕ → ℕ
left_over points = DOLLAR - sum (map (λ w. DOLLAR * w / sum (weights points)) (weights points))

-- the proposal at j comes before the one at i: by the greater remainder, and then by the smaller distance
unfoldable pub comes_before : List ℕ → ℕ → ℕ → Bool
comes_before points j i = nat_lt (remainder_at points i) (remainder_at points j)
    || (remainder_at points j == remainder_at points i && nat_lt j i)

-- the cents of the proposal at an index: one more than the base where fewer than the cents left over come before it
unfoldable pub cents_at : List ℕ → ℕ → ℕ
cents_at points i = base_at points i
    + (if nat_lt (count_below (λ j. comes_before points j i) (length points)) (left_over points) then 1 else 0)
