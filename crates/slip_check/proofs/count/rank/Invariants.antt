use Rattle.std.proofs.Common.{◌≡◌, ◌≤◌}
use Rattle.peer_selection.specs.Counting.{count_below}
use Rattle.slip_check.specs.Slip.{goes_before}
use Rattle.slip_check.proofs.count.rank.Given as goal

-- those before the index that go before the score
abbrev pub invariant-loop-i : goal.invariant-loop-i
invariant-loop-i l = (l.before ≡ count_below (goes_before l.scores l.index) l.i) × (l.before ≤ l.i)
