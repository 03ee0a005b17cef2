use Rattle.std.proofs.Common.{◌≡◌, ℕ, ◌+◌, ◌*◌, ◌<◌, ◌≤◌, get_or, take}
use Rattle.house_base.specs.declared.limits.TheConstants.{DOLLAR}
use Rattle.house_base.specs.Setting.{size}
use Rattle.seat_quota.specs.Totals.{IsSummed, found_in}
use Rattle.seat_quota.proofs.totals.Totals.exchange_row.Given as goal

-- the proposals so far have their new cents
abbrev pub invariant-loop-i : goal.invariant-loop-i
invariant-loop-i l = record {
  summed : IsSummed l.plan l.self;
  den : l.self.den ≡ l.initial.self.den;
  most : (p : ℕ) → p < size l.plan → get_or l.self.scores p 0 ≤ size l.plan * DOLLAR + DOLLAR;
  scores : (p : ℕ) → p < size l.plan → get_or l.self.scores p 0 + found_in l.before (take l.i l.row) p
      ≡ get_or l.initial.self.scores p 0 + found_in l.after (take l.i l.row) p;
}
