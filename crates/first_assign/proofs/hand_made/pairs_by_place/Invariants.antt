use Rattle.std.proofs.Common.{◌≡◌, ℕ, ◌<◌, take}
use Rattle.house_base.specs.Grid.{cell}
use Rattle.house_base.specs.Setting.{size}
use Rattle.house_model.specs.Register.{name_pair}
use Rattle.first_assign.proofs.hand_made.pairs_by_place.Given as goal

abbrev pub invariant-loop-index : goal.invariant-loop-index
invariant-loop-index l = record {
  side : l.grid.side ≡ size l.plan;
  cells : (r p : ℕ) → r < size l.plan → p < size l.plan → cell l.grid r p ≡ name_pair (take l.index l.book.pairs) l.plan r p;
}
