use Rattle.std.proofs.Common.{◌≡◌, ℕ, ◌<◌, ◌≤◌, length, slice_index}
use Rattle.house_base.proofs.tables.fill.Given as goal

abbrev pub invariant-loop-place : goal.invariant-loop-place
invariant-loop-place l = record {
  inside : (k : ℕ) → l.first ≤ k → k < l.place → slice_index l.table k ≡ l.entry;
  before : (k : ℕ) → k < l.first → slice_index l.table k ≡ slice_index l.initial.table k;
  room : length l.table ≡ length l.initial.table;
}
