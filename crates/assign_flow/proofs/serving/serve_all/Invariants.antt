use Rattle.std.proofs.Common.{◌≡◌, slice_index, vec_len}
use Rattle.peer_selection.specs.Counting.{sum_below}
use Rattle.assign_flow.specs.Draft.{FitsWithin}
use Rattle.assign_flow.proofs.serving.serve_all.Given as goal

abbrev pub invariant-loop-reviewer : goal.invariant-loop-reviewer
invariant-loop-reviewer l = record {
  free : l.draft.ways.free ≡ l.may;
  marks : vec_len l.search.reviewers ≡ l.may.side;
  fits : FitsWithin (slice_index l.need) (slice_index l.room) l.draft;
}

abbrev pub invariant-loop : goal.invariant-loop
invariant-loop l = record {
  free : l.draft.ways.free ≡ l.may;
  marks : vec_len l.search.reviewers ≡ l.may.side;
  fits : FitsWithin (slice_index l.need) (slice_index l.room) l.draft;
}

-- the pairs that are wanting
abbrev pub decreases-loop : goal.decreases-loop
decreases-loop l = sum_below (slice_index l.draft.unmet.items) l.draft.ways.free.side
