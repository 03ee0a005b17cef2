use Rattle.std.proofs.Common.{refl}
use Rattle.house_base.specs.Setting.{cluster_at}
use Rattle.peer_selection.specs.Counting.{count_below, sum_below, numbers_below}
use Rattle.peer_selection.specs.Split.{weights, base_at, remainder_at, left_over, comes_before, cents_at}
use Rattle.peer_selection.specs.Profile.{denominator, row, row_points, cents, score, cluster_size, cluster_cents, quota, cumulative_quota, rank}
use Rattle.peer_selection.specs.Lottery.{seats, selected, filled, empty_seats}
use Rattle.peer_selection.specs.Worked.{five_applicants, five_pairs, five}
use Rattle.peer_selection.proofs.worked.five_applicants_at_two_draws.Goals as goal

pub returns-clause-seats_at_least : goal.returns-clause-seats_at_least
unfolding five five_applicants five_pairs weights base_at remainder_at left_over comes_before cents_at count_below sum_below numbers_below row row_points cents score cluster_at cluster_cents quota cumulative_quota denominator seats
returns-clause-seats_at_least c = refl

pub returns-clause-filled_at_least : goal.returns-clause-filled_at_least
unfolding five five_applicants five_pairs weights base_at remainder_at left_over comes_before cents_at count_below sum_below numbers_below row row_points cents score cluster_at cluster_cents quota cumulative_quota denominator seats cluster_size filled
returns-clause-filled_at_least c = refl

pub returns-clause-empty_at_least : goal.returns-clause-empty_at_least
unfolding five five_applicants five_pairs weights base_at remainder_at left_over comes_before cents_at count_below sum_below numbers_below row row_points cents score cluster_at cluster_cents quota cumulative_quota denominator seats cluster_size filled empty_seats
returns-clause-empty_at_least c = refl

pub returns-clause-selected_at_least : goal.returns-clause-selected_at_least
unfolding five five_applicants five_pairs weights base_at remainder_at left_over comes_before cents_at count_below sum_below numbers_below row row_points cents score cluster_at cluster_cents quota cumulative_quota denominator seats rank selected
returns-clause-selected_at_least c = refl

pub returns-clause-seats_at_greatest : goal.returns-clause-seats_at_greatest
unfolding five five_applicants five_pairs weights base_at remainder_at left_over comes_before cents_at count_below sum_below numbers_below row row_points cents score cluster_at cluster_cents quota cumulative_quota denominator seats
returns-clause-seats_at_greatest c = refl

pub returns-clause-filled_at_greatest : goal.returns-clause-filled_at_greatest
unfolding five five_applicants five_pairs weights base_at remainder_at left_over comes_before cents_at count_below sum_below numbers_below row row_points cents score cluster_at cluster_cents quota cumulative_quota denominator seats cluster_size filled
returns-clause-filled_at_greatest c = refl

pub returns-clause-empty_at_greatest : goal.returns-clause-empty_at_greatest
unfolding five five_applicants five_pairs weights base_at remainder_at left_over comes_before cents_at count_below sum_below numbers_below row row_points cents score cluster_at cluster_cents quota cumulative_quota denominator seats cluster_size filled empty_seats
returns-clause-empty_at_greatest c = refl

pub returns-clause-selected_at_greatest : goal.returns-clause-selected_at_greatest
unfolding five five_applicants five_pairs weights base_at remainder_at left_over comes_before cents_at count_below sum_below numbers_below row row_points cents score cluster_at cluster_cents quota cumulative_quota denominator seats rank selected
returns-clause-selected_at_greatest c = refl
