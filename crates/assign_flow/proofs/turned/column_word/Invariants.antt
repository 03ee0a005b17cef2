use Rattle.std.proofs.Common.{◌≡◌, ℕ, ◌+◌, ◌<◌, ◌≤◌, eqb}
use Rattle.std.specs.Int.{bit_at}
use Rattle.house_base.specs.Grid.{cell}
use Rattle.house_base.specs.declared.rows.TheConstants.{WORD_BITS}
use Rattle.assign_flow.proofs.turned.column_word.Given as goal

abbrev pub invariant-loop-i : goal.invariant-loop-i
invariant-loop-i l = record {
  before : (j : ℕ) → j < l.i → eqb (bit_at l.word j) 1 ≡ cell l.square (l.first + j) l.column;
  later : (j : ℕ) → l.i ≤ j → j < WORD_BITS → bit_at l.word j ≡ 0;
}
