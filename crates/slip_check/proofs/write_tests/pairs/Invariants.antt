use Rattle.std.proofs.Common.{◌≡◌, ℕ, ◌<◌, ◌&&◌, ltb}
use Rattle.house_base.specs.Grid.{cell}
use Rattle.seat_quota.specs.Six.{six_pairs}
use Rattle.slip_check.proofs.write_tests.pairs.Given as goal

-- the reviewers so far have their pairs
abbrev pub invariant-loop-reviewer : goal.invariant-loop-reviewer
invariant-loop-reviewer l = record {
  side : l.pairs.side ≡ 6;
  cells : (r p : ℕ) → r < 6 → p < 6 → cell l.pairs r p ≡ (ltb r l.reviewer && six_pairs r p);
}
