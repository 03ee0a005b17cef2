use Rattle.std.proofs.Common.{refl}
use Rattle.house_base.specs.Grid.{cell}
use Rattle.house_base.specs.Setting.{cluster_at, owner_from, need, may}
use Rattle.peer_selection.specs.Counting.{count_below, sum_below, all_below, numbers_below}
use Rattle.peer_selection.specs.Split.{weights, base_at, remainder_at, left_over, comes_before, cents_at}
use Rattle.peer_selection.specs.Profile.{is_valid, denominator, row, row_points, cents, score, cluster_cents, quota, cumulative_quota, rank}
use Rattle.peer_selection.specs.Lottery.{seats, selected}
use Rattle.peer_selection.specs.Worked.{three_persons, four}
use Rattle.peer_selection.proofs.WorkedLemmas.{four-setting}
use Rattle.peer_selection.proofs.worked.one_person_with_two_applicants.Goals as goal

pub returns-clause-setting : goal.returns-clause-setting
unfolding four
returns-clause-setting c = four-setting

pub returns-clause-valid : goal.returns-clause-valid
unfolding four three_persons is_valid all_below count_below cluster_at owner_from need may cell
returns-clause-valid c = refl

pub returns-clause-over : goal.returns-clause-over
unfolding four three_persons denominator
returns-clause-over c = refl

pub returns-clause-scores : goal.returns-clause-scores
unfolding four three_persons weights base_at remainder_at left_over comes_before cents_at count_below sum_below numbers_below row row_points cents score cluster_at
returns-clause-scores c = refl

pub returns-clause-cents : goal.returns-clause-cents
unfolding four three_persons weights base_at remainder_at left_over comes_before cents_at count_below sum_below numbers_below row row_points cents score cluster_at cluster_cents
returns-clause-cents c = refl

pub returns-clause-quotas : goal.returns-clause-quotas
unfolding four three_persons weights base_at remainder_at left_over comes_before cents_at count_below sum_below numbers_below row row_points cents score cluster_at cluster_cents quota
returns-clause-quotas c = refl

pub returns-clause-ranks : goal.returns-clause-ranks
unfolding four three_persons weights base_at remainder_at left_over comes_before cents_at count_below sum_below numbers_below row row_points cents score cluster_at rank
returns-clause-ranks c = refl

pub returns-clause-seats : goal.returns-clause-seats
unfolding four three_persons weights base_at remainder_at left_over comes_before cents_at count_below sum_below numbers_below row row_points cents score cluster_at cluster_cents quota cumulative_quota denominator seats
returns-clause-seats c = refl

pub returns-clause-selected : goal.returns-clause-selected
unfolding four three_persons weights base_at remainder_at left_over comes_before cents_at count_below sum_below numbers_below row row_points cents score cluster_at cluster_cents quota cumulative_quota denominator seats rank selected
returns-clause-selected c = refl
