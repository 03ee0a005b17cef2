use Rattle.std.proofs.Common.{◌≡◌, ℕ, ◌<◌, vec_len}
use Rattle.cut_gap.specs.Cut.{marked}
use Rattle.assign_flow.specs.Places.{places_of}
use Rattle.assign_flow.proofs.search.marks_of.Given as goal

abbrev pub invariant-loop-place : goal.invariant-loop-place
invariant-loop-place l = record {
  len : vec_len l.marks ≡ l.side;
  marks : (i : ℕ) → i < l.place → marked l.marks.items i ≡ places_of l.places i;
}
