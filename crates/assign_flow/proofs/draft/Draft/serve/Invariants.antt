use Rattle.std.proofs.Common.{◌≡◌, ℕ, slice_index, vec_len}
use Rattle.peer_selection.specs.Counting.{sum_below}
use Rattle.assign_flow.specs.Draft.{FitsWithin}
use Rattle.assign_flow.proofs.draft.Draft.serve.Given as goal

abbrev pub invariant-loop-self : goal.invariant-loop-self
invariant-loop-self l = record {
  free : l.self.ways.free ≡ l.initial.self.ways.free;
  search : vec_len l.search.reviewers ≡ vec_len l.initial.search.reviewers;
  fits : (need room : ℕ → ℕ) → FitsWithin need room l.initial.self → FitsWithin need room l.self;
}

-- the pairs that are wanting
abbrev pub decreases-loop-self : goal.decreases-loop-self
decreases-loop-self l = sum_below (slice_index l.self.unmet.items) l.self.ways.free.side
