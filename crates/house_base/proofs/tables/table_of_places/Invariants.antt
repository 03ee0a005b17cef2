use Rattle.std.proofs.Common.{◌≡◌, ℕ, ◌<◌, length, map, slice_index}
use Rattle.house_base.specs.declared.limits.TheConstants.{MOST_APPLICANTS}
use Rattle.house_base.proofs.tables.table_of_places.Given as goal

abbrev pub invariant-loop-place : goal.invariant-loop-place
invariant-loop-place l = record {
  room : length l.table ≡ MOST_APPLICANTS;
  entries : (k : ℕ) → k < l.place → slice_index l.table (slice_index (map (λ person. person.number) l.people) k) ≡ k;
}
