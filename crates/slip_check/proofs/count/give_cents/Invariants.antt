use Rattle.std.proofs.Common.{◌≡◌, ℕ, ◌+◌, ◌<◌, length, take, get_or, []}
use Rattle.slip_check.specs.Counted.{cents_for}
use Rattle.slip_check.proofs.count.give_cents.Given as goal

-- the members have the cents of the proposals so far
abbrev pub invariant-loop-i : goal.invariant-loop-i
invariant-loop-i l = (length l.scores ≡ length l.fn.scores)
    × ((k : ℕ) → k < length l.members → get_or l.scores k 0 ≡ get_or l.fn.scores k 0 + cents_for l.cents (take l.i l.proposals) (get_or l.members k []))
