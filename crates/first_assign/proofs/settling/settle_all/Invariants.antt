use Rattle.std.proofs.Common.{◌≡◌}
use Rattle.house_base.specs.Grid.{cell}
use Rattle.house_base.specs.Setting.{size}
use Rattle.first_assign.specs.Settling.{IsSettledTo}
use Rattle.first_assign.proofs.settling.settle_all.Given as goal

abbrev pub invariant-loop-reviewer : goal.invariant-loop-reviewer
invariant-loop-reviewer l = record {
  side : l.pairs.side ≡ size l.plan;
  settled : IsSettledTo l.plan l.flow (cell l.pairs) l.reviewer 0;
}
