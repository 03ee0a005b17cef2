use Rattle.std.proofs.Common.{◌≡◌, ℕ}
use Rattle.assign_flow.specs.Draft.{FitsWithin}
use Rattle.assign_flow.proofs.draft.Draft.fill.Given as goal

abbrev pub invariant-loop-reviewer : goal.invariant-loop-reviewer
invariant-loop-reviewer l = record {
  free : l.self.ways.free ≡ l.initial.self.ways.free;
  fits : (need room : ℕ → ℕ) → FitsWithin need room l.initial.self → FitsWithin need room l.self;
}
