use Rattle.std.proofs.Common.{◌≡◌, ℕ, ◌<◌, ◌*◌, length, take}
use Rattle.house_base.specs.Grid.{cell}
use Rattle.cluster_draw.specs.Barred.{is_barred}
use Rattle.cluster_draw.proofs.conflicts.barred_pairs.Given as goal

abbrev pub invariant-loop-index : goal.invariant-loop-index
invariant-loop-index l = record {
  side : l.barred.side ≡ length l.book.applicants;
  square : length l.barred.cells ≡ length l.book.applicants * length l.book.applicants;
  cells : (r p : ℕ) → r < length l.book.applicants → p < length l.book.applicants
      → cell l.barred r p ≡ is_barred l.book.barred l.applicants (take l.index l.reviewers) r p;
}
