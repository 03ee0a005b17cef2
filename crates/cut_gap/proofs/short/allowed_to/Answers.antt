use Rattle.std.proofs.Common.{ℕ, ◌&&◌, sym, ◌∙◌, arith}
use Rattle.house_base.specs.Grid.{cell}
use Rattle.peer_selection.proofs.CountingLemmas.{count_below-zero}
use Rattle.cut_gap.proofs.CutLemmas.{count-takes, count-skips}
use Rattle.cut_gap.specs.Cut.{marked}
use Rattle.cut_gap.proofs.short.allowed_to.Goals as goal
use Rattle.cut_gap.proofs.short.allowed_to.Goals.{then-is_allowed, else-is_allowed}

pub loop-proposal-init : goal.loop-proposal-init
loop-proposal-init c =
    record { counted = sym (count_below-zero (λ p. marked c.args.cut.now.proposals p && cell c.args.may.now c.args.reviewer p)); most = omega arith }

pub loop-proposal-preserved : goal.loop-proposal-preserved
loop-proposal-preserved c =
    let passes = λ (p : ℕ). marked c.args.cut.now.proposals p && cell c.args.may.now c.args.reviewer p in
    elim c.if-is_allowed.branch [
      | then-is_allowed w ↦ record { counted = omega (arith, c.loop-proposal.invariant.counted, count-takes passes c.loop-proposal.proposal (sym c.is_allowed.ensures ∙ w.if-is_allowed.true)); most = omega arith }
      | else-is_allowed w ↦ record { counted = omega (arith, c.loop-proposal.invariant.counted, count-skips passes c.loop-proposal.proposal (sym c.is_allowed.ensures ∙ w.if-is_allowed.false)); most = omega arith }
    ]
