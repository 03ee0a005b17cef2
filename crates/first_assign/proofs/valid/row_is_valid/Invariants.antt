use Rattle.std.proofs.Common.{◌≡◌, true, ◌-◌, ◌≤◌, ◌||◌, not, length}
use Rattle.house_base.specs.Grid.{cell}
use Rattle.house_base.specs.Setting.{size, may}
use Rattle.peer_selection.specs.Counting.{all_below, count_below}
use Rattle.first_assign.proofs.CountLemmas.{AreCounts}
use Rattle.first_assign.proofs.valid.row_is_valid.Given as goal

abbrev pub invariant-loop-proposal : goal.invariant-loop-proposal
invariant-loop-proposal l = record {
  from : l.from ≤ size l.plan;
  may_be : all_below (λ p. not (cell l.pairs l.reviewer p) || may l.plan l.reviewer p) l.from ≡ true;
  counted : l.count ≡ count_below (cell l.pairs l.reviewer) l.from;
  most : l.count ≤ l.from;
  each : length l.received ≡ length l.fn.received;
  received : AreCounts (cell l.pairs) l.reviewer l.from (size l.plan) l.received;
}

-- the columns that are left
abbrev pub decreases-loop-proposal : goal.decreases-loop-proposal
decreases-loop-proposal l = size l.plan - l.from
