use Rattle.std.proofs.Common.{◌≡◌}
use Rattle.house_base.specs.Grid.{cell}
use Rattle.assign_flow.specs.Residual.{height, HasWalked}
use Rattle.assign_flow.specs.Search.{tree_of}
use Rattle.assign_flow.proofs.walk.walk_back.Given as goal

abbrev pub invariant-loop-reviewer : goal.invariant-loop-reviewer
invariant-loop-reviewer l = record {
  free : l.ways.free ≡ l.initial.ways.free;
  walked : HasWalked l.initial.ways.free.side (tree_of l.search) (cell l.initial.ways.held) (cell l.ways.held) l.proposal l.hole;
}

abbrev pub decreases-loop-reviewer : goal.decreases-loop-reviewer
decreases-loop-reviewer l = height (tree_of l.search) l.hole
