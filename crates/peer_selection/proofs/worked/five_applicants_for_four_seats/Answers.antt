use Rattle.std.proofs.Common.{refl}
use Rattle.house_base.specs.Grid.{cell}
use Rattle.house_base.specs.Setting.{cluster_at, owner_from, need, may}
use Rattle.peer_selection.specs.Counting.{count_below, sum_below, all_below, numbers_below}
use Rattle.peer_selection.specs.Split.{weights, base_at, remainder_at, left_over, comes_before, cents_at}
use Rattle.peer_selection.specs.Profile.{is_valid, denominator, row, row_points, cents, score, cluster_cents, quota, rank}
use Rattle.peer_selection.specs.Worked.{five_applicants, five_pairs, five}
use Rattle.peer_selection.proofs.WorkedLemmas.{five-setting}
use Rattle.peer_selection.proofs.worked.five_applicants_for_four_seats.Goals as goal

pub returns-clause-setting : goal.returns-clause-setting
unfolding five
returns-clause-setting c = five-setting

pub returns-clause-valid : goal.returns-clause-valid
unfolding five five_applicants five_pairs is_valid all_below count_below cluster_at owner_from need may cell
returns-clause-valid c = refl

pub returns-clause-over : goal.returns-clause-over
unfolding five five_applicants five_pairs denominator
returns-clause-over c = refl

pub returns-clause-scores : goal.returns-clause-scores
unfolding five five_applicants five_pairs weights base_at remainder_at left_over comes_before cents_at count_below sum_below numbers_below row row_points cents score cluster_at
returns-clause-scores c = refl

pub returns-clause-cents : goal.returns-clause-cents
unfolding five five_applicants five_pairs weights base_at remainder_at left_over comes_before cents_at count_below sum_below numbers_below row row_points cents score cluster_at cluster_cents
returns-clause-cents c = refl

pub returns-clause-quotas : goal.returns-clause-quotas
unfolding five five_applicants five_pairs weights base_at remainder_at left_over comes_before cents_at count_below sum_below numbers_below row row_points cents score cluster_at cluster_cents quota
returns-clause-quotas c = refl

pub returns-clause-ranks : goal.returns-clause-ranks
unfolding five five_applicants five_pairs weights base_at remainder_at left_over comes_before cents_at count_below sum_below numbers_below row row_points cents score cluster_at rank
returns-clause-ranks c = refl
