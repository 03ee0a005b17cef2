use Rattle.std.proofs.Common.{cond, sym, ◌∙◌, slice_index, arith}
use Rattle.peer_selection.proofs.CountingLemmas.{sum_below-zero}
use Rattle.cut_gap.proofs.CutLemmas.{sum_outside-takes, sum_outside-skips}
use Rattle.cut_gap.specs.Cut.{marked}
use Rattle.cut_gap.proofs.short.room_outside.Goals as goal
use Rattle.cut_gap.proofs.short.room_outside.Goals.{then-not-has_proposal, else-not-has_proposal}

pub loop-proposal-init : goal.loop-proposal-init
loop-proposal-init c =
    record { summed = sym (sum_below-zero (λ p. cond (marked c.args.cut.now.proposals p) 0 (slice_index c.args.room.now p))); most = omega arith }

pub loop-proposal-preserved : goal.loop-proposal-preserved
loop-proposal-preserved c =
    let set = marked c.args.cut.now.proposals in
    elim c.if-not-has_proposal.branch [
      | then-not-has_proposal w ↦ record { summed = omega (arith, c.loop-proposal.invariant.summed, sum_outside-takes set (slice_index c.args.room.now) c.loop-proposal.proposal (sym c.has_proposal.ensures ∙ w.if-not-has_proposal.true)); most = omega arith }
      | else-not-has_proposal w ↦ record { summed = omega (arith, c.loop-proposal.invariant.summed, sum_outside-skips set (slice_index c.args.room.now) c.loop-proposal.proposal (sym c.has_proposal.ensures ∙ w.if-not-has_proposal.false)); most = omega arith }
    ]
