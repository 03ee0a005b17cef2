use Rattle.std.proofs.Common.{◌≡◌, ◌≤◌, ◌*◌, sum, take}
use Rattle.house_base.specs.declared.limits.TheConstants.{DOLLAR, MOST_APPLICANTS}
use Rattle.slip_check.proofs.count.total.Given as goal

-- the sum so far
abbrev pub invariant-loop-score : goal.invariant-loop-score
invariant-loop-score l = (l.total ≡ sum (take l.score-index l.scores)) × (l.total ≤ l.score-index * (MOST_APPLICANTS * DOLLAR))
