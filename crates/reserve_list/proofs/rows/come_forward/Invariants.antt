use Rattle.std.proofs.Common.{◌≡◌, ◌-◌, ◌<◌, ◌≤◌, ℕ, length, get_or, cond}
use Rattle.reserve_list.specs.Board.{is_behind}
use Rattle.reserve_list.proofs.rows.come_forward.Given as goal

abbrev pub invariant-loop-other : goal.invariant-loop-other
invariant-loop-other l = record {
  each : length l.ranks ≡ length l.initial.ranks;
  done : (k : ℕ) → k < l.other → get_or l.ranks k 0 ≡ get_or l.initial.ranks k 0 - cond (is_behind l.outcome l.number k) 1 0;
  left : (k : ℕ) → l.other ≤ k → get_or l.ranks k 0 ≡ get_or l.initial.ranks k 0;
}
