use Rattle.std.proofs.Common.{◌≡◌, ℕ, ◌+◌, ◌<◌, ◌≤◌, cond, leb, length, get_or}
use Rattle.dollar_split.proofs.largest_remainder.give_to_reaching.Given as goal

-- those so far have what is left over for them, and the others wait
abbrev pub invariant-loop-i : goal.invariant-loop-i
invariant-loop-i l = record {
  given : (k : ℕ) → k < l.i → get_or l.cents k 0 ≡ get_or l.initial.cents k 0 + cond (leb l.bound (get_or l.priorities k 0)) 1 0;
  others : (k : ℕ) → l.i ≤ k → k < length l.priorities → get_or l.cents k 0 ≡ get_or l.initial.cents k 0;
}
