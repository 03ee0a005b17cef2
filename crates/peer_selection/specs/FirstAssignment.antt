use Rattle.std.specs.Prelude.{◌≡◌, ℕ, ◌+◌, ◌%◌, Bool, false, ◌==◌, ◌&&◌, ◌||◌, Option, Some, None, is_some, List, [], ◌∷◌, IsTrue, map, filter, flat_map, if◌then◌else◌}
use Rattle.std.specs.Option.{option_map_or}
use Rattle.std.specs.Ordering.{nat_cmp}
use Rattle.std.specs.Cmp.Lexicographic.{slice_cmp}
use Rattle.std.specs.declared.cmp.Ordering.TheVariants.{Less}
use Rattle.house_base.specs.Setting.{Setting, size}
use Rattle.peer_selection.specs.Counting.{numbers_below}
use Rattle.peer_selection.specs.Profile.{Pairs, is_valid}

-- The distances of a reviewer's proposals, rising: how far each stands behind the reviewer, round the places.
unfoldable pub distances : Setting → Pairs → ℕ → List ℕ
distances s pairs r = filter (λ d. pairs r ((r + 1 + d) % size s)) (numbers_below (size s))

-- the rows of an assignment: the distances of each reviewer's proposals, in place order
unfoldable pub distance_rows : Setting → Pairs → List (List ℕ)
distance_rows s pairs = map (distances s pairs) (numbers_below (size s))

-- one assignment comes before another: its rows are smaller in lexicographic order
abbrev pub ComesBefore : Setting → Pairs → Pairs → Type 0
ComesBefore s a b = slice_cmp (slice_cmp nat_cmp) (distance_rows s a) (distance_rows s b) ≡ Less

-- the first assignment: it is valid, and no valid assignment comes before it
pub record IsFirst (s : Setting) (pairs : Pairs) : Type 0 where
  pub valid : IsTrue (is_valid s pairs)
  pub least : (other : Pairs) → IsTrue (is_valid s other) → ComesBefore s other pairs → ⊥

-- no pair at all, and one pair more
abbrev pub no_pairs : Pairs
no_pairs r p = false

abbrev pub with_pair : Pairs → ℕ × ℕ → Pairs
with_pair pairs pair r p = (r == pair.0 && p == pair.1) || pairs r p

-- all pairs of places, reviewer by reviewer, and each one's proposals by rising distance
unfoldable pub pairs_in_turn : Setting → List (ℕ × ℕ)
pairs_in_turn s = flat_map (λ r. map (λ d. (r, (r + 1 + d) % size s)) (numbers_below (size s))) (numbers_below (size s))

-- Of the valid assignments that have the pairs taken, and any of those in turn beside them, the first: a pair in turn is
-- taken wherever some valid assignment has it beside those taken before.
abbrev pub first_among : Setting → List (ℕ × ℕ) → Pairs → Option Pairs
first_among s [] taken = if is_valid s taken then Some taken else None
first_among s (pair ∷ others) taken =
    option_map_or (λ found. Some found) (first_among s others (with_pair taken pair)) (first_among s others taken)

-- whether there is a valid assignment, and the first one; no pairs where there is none
unfoldable pub has_assignment : Setting → Bool
has_assignment s = is_some (first_among s (pairs_in_turn s) no_pairs)

unfoldable pub first_assignment : Setting → Pairs
first_assignment s = option_map_or (λ found. found) (first_among s (pairs_in_turn s) no_pairs) no_pairs
