use Rattle.std.proofs.Common.{◌≡◌, ◌≤◌, ◌&&◌}
use Rattle.house_base.specs.Setting.{may}
use Rattle.peer_selection.specs.Counting.{count_below}
use Rattle.cut_gap.specs.Cut.{marked}
use Rattle.report_text.proofs.shortage.allowed_to.Given as goal

abbrev pub invariant-loop-proposal : goal.invariant-loop-proposal
invariant-loop-proposal l = record {
  counted : l.count ≡ count_below (λ p. marked l.cut.proposals p && may l.plan l.reviewer p) l.proposal;
  most : l.count ≤ l.proposal;
}
