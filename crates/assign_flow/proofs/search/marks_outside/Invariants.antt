use Rattle.std.proofs.Common.{◌≡◌, ℕ, ◌<◌, not, vec_len}
use Rattle.cut_gap.specs.Cut.{marked}
use Rattle.assign_flow.specs.Places.{places_of}
use Rattle.assign_flow.proofs.search.marks_outside.Given as goal

abbrev pub invariant-loop-place : goal.invariant-loop-place
invariant-loop-place l = record {
  len : vec_len l.marks ≡ l.side;
  marks : (i : ℕ) → i < l.place → marked l.marks.items i ≡ not (places_of l.places i);
}
