use Rattle.std.proofs.Common.{◌≡◌, ◌≤◌, ◌*◌, cond, slice_index}
use Rattle.peer_selection.specs.Counting.{sum_below}
use Rattle.cut_gap.specs.Cut.{marked}
use Rattle.cut_gap.proofs.short.room_outside.Given as goal

abbrev pub invariant-loop-proposal : goal.invariant-loop-proposal
invariant-loop-proposal l = record {
  summed : l.total ≡ sum_below (λ p. cond (marked l.cut.proposals p) 0 (slice_index l.room p)) l.proposal;
  most : l.total ≤ l.proposal * 4294967295;
}
