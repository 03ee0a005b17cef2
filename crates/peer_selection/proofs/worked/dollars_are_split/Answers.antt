use Rattle.std.proofs.Common.{refl}
use Rattle.peer_selection.specs.Counting.{count_below, numbers_below}
use Rattle.peer_selection.specs.Split.{weights, base_at, remainder_at, left_over, comes_before, cents_at}
use Rattle.peer_selection.proofs.worked.dollars_are_split.Goals as goal

pub returns-clause-unequal_points : goal.returns-clause-unequal_points
unfolding weights base_at remainder_at left_over comes_before cents_at count_below numbers_below
returns-clause-unequal_points c = refl

pub returns-clause-no_points : goal.returns-clause-no_points
unfolding weights base_at remainder_at left_over comes_before cents_at count_below numbers_below
returns-clause-no_points c = refl

pub returns-clause-one_proposal : goal.returns-clause-one_proposal
unfolding weights base_at remainder_at left_over comes_before cents_at count_below numbers_below
returns-clause-one_proposal c = refl
