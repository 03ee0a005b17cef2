use Rattle.std.proofs.Common.{◌≡◌, ℕ, ◌<◌, ◌≤◌, false, nat_lt, slice_index}
use Rattle.assign_flow.specs.Places.{places_of}
use Rattle.assign_flow.proofs.places.PlaceSet.of_some.Given as goal

abbrev pub invariant-loop-place : goal.invariant-loop-place
invariant-loop-place l = record {
  before : (i : ℕ) → i < l.place → places_of l.places i ≡ nat_lt 0 (slice_index l.numbers i);
  later : (i : ℕ) → l.place ≤ i → places_of l.places i ≡ false;
}
