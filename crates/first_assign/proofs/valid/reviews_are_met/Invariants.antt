use Rattle.std.proofs.Common.{◌≡◌, true, ◌==◌, slice_index}
use Rattle.peer_selection.specs.Counting.{all_below}
use Rattle.first_assign.proofs.valid.reviews_are_met.Given as goal

abbrev pub invariant-loop-proposal : goal.invariant-loop-proposal
invariant-loop-proposal l = all_below (λ p. slice_index l.received p == l.plan.reviews) l.proposal ≡ true
