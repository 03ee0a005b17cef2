use Rattle.std.proofs.Common.{◌≡◌, ◌≢◌, ℕ, ◌*◌, ◌<◌}
use Rattle.house_base.specs.Grid.{cell}
use Rattle.house_base.specs.Setting.{size}
use Rattle.house_base.specs.declared.rows.TheConstants.{WORD_BITS}
use Rattle.first_assign.specs.Members.{is_apart}
use Rattle.first_assign.proofs.demand.allow_row.Given as goal

abbrev pub invariant-loop-at : goal.invariant-loop-at
invariant-loop-at l = record {
  side : l.pairs.side ≡ size l.plan;
  row : (p : ℕ) → p < l.at * WORD_BITS → p < size l.plan → cell l.pairs l.reviewer p ≡ is_apart l.plan l.reviewer p;
  others : (r p : ℕ) → r < size l.plan → r ≢ l.reviewer → p < size l.plan → cell l.pairs r p ≡ cell l.initial.pairs r p;
}
