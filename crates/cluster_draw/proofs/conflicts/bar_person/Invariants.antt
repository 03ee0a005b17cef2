use Rattle.std.proofs.Common.{◌≡◌, ℕ, ◌-◌, ◌<◌, ◌≤◌, length, slice_index}
use Rattle.house_base.specs.Grid.{cell}
use Rattle.house_model.specs.Register.{names, persons, pair_among}
use Rattle.register_book.specs.Held.{text_at}
use Rattle.cluster_draw.proofs.BarredLemmas.{row_up_to}
use Rattle.cluster_draw.proofs.conflicts.bar_person.Given as goal

abbrev pub invariant-loop-number : goal.invariant-loop-number
invariant-loop-number l = record {
  from : l.from ≤ length l.book.applicants;
  side : l.barred.side ≡ l.fn.barred.side;
  as_many : length l.barred.cells ≡ length l.fn.barred.cells;
  cells : (r number : ℕ) → r < length l.book.applicants → number < length l.book.applicants → cell l.barred r (slice_index l.places number)
      ≡ row_up_to (cell l.fn.barred r (slice_index l.places number)) (λ n. pair_among l.book.barred (text_at (persons l.book) l.person) (text_at (names l.book) n)) l.first l.from r number;
}

-- the numbers that are left
abbrev pub decreases-loop-number : goal.decreases-loop-number
decreases-loop-number l = length l.book.applicants - l.from
