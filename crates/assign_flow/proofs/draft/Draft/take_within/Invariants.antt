use Rattle.std.proofs.Common.{◌≡◌, ℕ, ◌-◌, ◌<◌, ◌≤◌, true}
use Rattle.house_base.specs.declared.rows.TheConstants.{ROW_BITS}
use Rattle.assign_flow.specs.Draft.{FitsWithin, CanTake}
use Rattle.assign_flow.specs.Places.{places_of}
use Rattle.assign_flow.proofs.draft.Draft.take_within.Given as goal

abbrev pub invariant-loop-proposal : goal.invariant-loop-proposal
invariant-loop-proposal l = record {
  free : l.self.ways.free ≡ l.initial.self.ways.free;
  can : (p : ℕ) → l.from ≤ p → p < l.end → places_of l.proposals p ≡ true → CanTake l.self l.reviewer p;
  others : (p : ℕ) → p < l.start → CanTake l.initial.self l.reviewer p → CanTake l.self l.reviewer p;
  onward : l.start ≤ l.from;
  fits : (need room : ℕ → ℕ) → FitsWithin need room l.initial.self → FitsWithin need room l.self;
}

abbrev pub decreases-loop-proposal : goal.decreases-loop-proposal
decreases-loop-proposal l = ROW_BITS - l.from
