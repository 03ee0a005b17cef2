use Rattle.std.proofs.Common.{◌≡◌, ◌≤◌, ◌*◌, cond}
use Rattle.peer_selection.specs.Counting.{sum_below}
use Rattle.cut_gap.specs.Cut.{marked}
use Rattle.report_text.proofs.shortage.room_outside.Given as goal

abbrev pub invariant-loop-proposal : goal.invariant-loop-proposal
invariant-loop-proposal l = record {
  summed : l.total ≡ sum_below (λ p. cond (marked l.cut.proposals p) 0 l.reviews) l.proposal;
  most : l.total ≤ l.proposal * 4294967295;
}
