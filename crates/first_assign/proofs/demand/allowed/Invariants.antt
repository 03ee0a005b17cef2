use Rattle.std.proofs.Common.{◌≡◌, ℕ, ◌<◌, ◌≤◌, false}
use Rattle.house_base.specs.Grid.{cell}
use Rattle.house_base.specs.Setting.{size, may}
use Rattle.first_assign.proofs.demand.allowed.Given as goal

abbrev pub invariant-loop-reviewer : goal.invariant-loop-reviewer
invariant-loop-reviewer l = record {
  side : l.pairs.side ≡ size l.plan;
  rows : (r p : ℕ) → r < l.reviewer → p < size l.plan → cell l.pairs r p ≡ may l.plan r p;
  later : (r p : ℕ) → l.reviewer ≤ r → r < size l.plan → p < size l.plan → cell l.pairs r p ≡ false;
}
