use Rattle.slip_check.proofs.OwnSlipLemmas.{printed-other_points, printed-without, slip-other_points, slip-without}
use Rattle.slip_check.proofs.laws.own_reviews_are_in_no_own_slip.Goals as goal

pub returns-clause-points : goal.returns-clause-points
returns-clause-points c = slip-other_points

pub returns-clause-points_text : goal.returns-clause-points_text
returns-clause-points_text c = printed-other_points

pub returns-clause-lines : goal.returns-clause-lines
returns-clause-lines c = slip-without

pub returns-clause-lines_text : goal.returns-clause-lines_text
returns-clause-lines_text c = printed-without
