use Rattle.std.proofs.Common.{sym, ◌∙◌, arith, eq-eqb, ne_eqb}
use Rattle.peer_selection.proofs.CountingLemmas.{all_below-zero, all_below-fails}
use Rattle.first_assign.proofs.StepLemmas.{all_more}
use Rattle.first_assign.proofs.valid.reviews_are_met.Goals as goal

pub loop-proposal-init : goal.loop-proposal-init
loop-proposal-init c = all_below-zero _

pub loop-proposal-preserved : goal.loop-proposal-preserved
loop-proposal-preserved c =
    all_more _ c.loop-proposal.proposal c.loop-proposal.invariant (eq-eqb _ _ (c.if-received-proposal.false ∙ c.call-reviews.ensures.reviews))

pub returns-then-received-proposal : goal.returns-then-received-proposal
returns-then-received-proposal c =
    sym (all_below-fails _ c.loop-proposal.proposal _ (omega arith) (ne_eqb _ _ (λ e. c.if-received-proposal.true (e ∙ sym c.call-reviews.ensures.reviews))))
