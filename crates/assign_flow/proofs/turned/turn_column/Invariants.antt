use Rattle.std.proofs.Common.{◌≡◌, ℕ, ◌*◌, ◌<◌, ◌&&◌, cond, eqb, ltb}
use Rattle.house_base.specs.Grid.{cell}
use Rattle.house_base.specs.declared.rows.TheConstants.{WORD_BITS}
use Rattle.assign_flow.proofs.turned.turn_column.Given as goal

abbrev pub invariant-loop-at : goal.invariant-loop-at
invariant-loop-at l = record {
  side : l.other.side ≡ l.initial.other.side;
  cells : (r c : ℕ) → r < l.square.side → c < l.square.side → cell l.other c r ≡ cond (eqb c l.column && ltb r (l.at * WORD_BITS)) (cell l.square r c) (cell l.initial.other c r);
}
