use Rattle.std.proofs.Common.{◌≡◌, ℕ, ◌+◌, ◌*◌, ◌<◌, ◌≤◌, false}
use Rattle.house_base.specs.Rows.{has}
use Rattle.house_base.specs.declared.rows.TheConstants.{WORD_BITS}
use Rattle.house_base.proofs.rows.next_bit.Given as goal

abbrev pub invariant-loop-at : goal.invariant-loop-at
invariant-loop-at l = record {
  low : l.low < WORD_BITS;
  from : l.from ≤ l.at * WORD_BITS + l.low;
  before : (q : ℕ) → l.from ≤ q → q < l.at * WORD_BITS + l.low → has l.words l.row q ≡ false;
}
