use Rattle.std.proofs.Common.{◌≡◌, ◌+◌, ◌-◌, ◌≤◌}
use Rattle.house_base.specs.Grid.{cell}
use Rattle.house_base.specs.Setting.{size, need}
use Rattle.first_assign.specs.Settling.{IsSettledTo, kept_within}
use Rattle.first_assign.proofs.settling.settle_row.Given as goal

abbrev pub invariant-loop-unmet : goal.invariant-loop-unmet
invariant-loop-unmet l = record {
  from : l.from ≤ size l.plan;
  side : l.pairs.side ≡ size l.plan;
  settled : IsSettledTo l.plan l.flow (cell l.pairs) l.reviewer l.from;
  counted : kept_within (size l.plan) (cell l.pairs) l.reviewer l.from + l.unmet ≡ need l.plan l.reviewer;
}

-- the distances that are left
abbrev pub decreases-loop-unmet : goal.decreases-loop-unmet
decreases-loop-unmet l = size l.plan - l.from
