use Rattle.std.proofs.Common.{◌≡◌, ℕ, ◌<◌}
use Rattle.house_base.specs.Grid.{cell}
use Rattle.assign_flow.proofs.turned.turned_square.Given as goal

abbrev pub invariant-loop-column : goal.invariant-loop-column
invariant-loop-column l = record {
  side : l.other.side ≡ l.square.side;
  cells : (r c : ℕ) → r < l.square.side → c < l.column → cell l.other c r ≡ cell l.square r c;
}
