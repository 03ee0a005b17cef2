use Rattle.std.proofs.Common.{◌≡◌, ◌-◌, ◌≤◌, ◌++◌}
use Rattle.house_base.specs.Grid.{cell}
use Rattle.seat_quota.specs.Totals.{among_places}
use Rattle.seat_quota.proofs.row.push_between.Given as goal

-- the proposals among the places so far
abbrev pub invariant-loop-proposal : goal.invariant-loop-proposal
invariant-loop-proposal l = record {
  from : l.from ≤ l.next;
  to : l.next ≤ l.to;
  row : l.row.items ≡ l.fn.row.items ++ among_places (cell l.pairs l.reviewer) l.from (l.next - l.from);
}

-- the places that are left
abbrev pub decreases-loop-proposal : goal.decreases-loop-proposal
decreases-loop-proposal l = l.to - l.next
