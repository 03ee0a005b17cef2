use Rattle.std.proofs.Common.{◌≡◌, ℕ, ◌+◌, ◌<◌, get_or}
use Rattle.house_base.specs.declared.limits.TheConstants.{DOLLAR}
use Rattle.peer_selection.specs.Counting.{sum_below}
use Rattle.peer_selection.specs.Split.{base_at, remainder_at}
use Rattle.dollar_split.specs.Weighed.{priority_of}
use Rattle.dollar_split.proofs.largest_remainder.give_bases.Given as goal

-- what was given and what is left are a dollar
abbrev pub invariant-loop-i : goal.invariant-loop-i
invariant-loop-i l = record {
  whole : sum_below (base_at l.points) l.i + l.left ≡ DOLLAR;
  given : (k : ℕ) → k < l.i → get_or l.cents k 0 ≡ base_at l.points k;
  noted : (k : ℕ) → k < l.i → get_or l.priorities k 0 ≡ priority_of (remainder_at l.points k) k;
}
