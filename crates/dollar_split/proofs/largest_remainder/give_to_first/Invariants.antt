use Rattle.std.proofs.Common.{◌≡◌, ℕ, ◌+◌, ◌<◌, ◌≤◌, length, get_or}
use Rattle.dollar_split.specs.Weighed.{extra_at}
use Rattle.dollar_split.proofs.largest_remainder.give_to_first.Given as goal

-- those so far have what is left over for them, and the others wait
abbrev pub invariant-loop-i : goal.invariant-loop-i
invariant-loop-i l = record {
  given : (k : ℕ) → k < l.i → get_or l.cents k 0 ≡ get_or l.initial.cents k 0 + extra_at l.priorities l.left k;
  others : (k : ℕ) → l.i ≤ k → k < length l.priorities → get_or l.cents k 0 ≡ get_or l.initial.cents k 0;
}
