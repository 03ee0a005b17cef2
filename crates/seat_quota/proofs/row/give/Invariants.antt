use Rattle.std.proofs.Common.{◌≡◌, ℕ, ◌+◌, ◌<◌, eqb, length, take, get_or, position}
use Rattle.std.specs.Option.{option_map_or}
use Rattle.seat_quota.proofs.row.give.Given as goal

abbrev pub invariant-loop-i : goal.invariant-loop-i
invariant-loop-i l = (p : ℕ) → p < length l.scores → get_or l.scores p 0 ≡ get_or l.initial.scores p 0 + option_map_or (λ i. get_or l.cents i 0) (position (λ q. eqb q p) (take l.i l.row)) 0
