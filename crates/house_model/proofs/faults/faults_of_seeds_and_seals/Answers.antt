use Rattle.std.proofs.Common.{refl}
use Rattle.std.specs.Fmt.{digits}
use Rattle.house_base.specs.Name.{is_name}
use Rattle.house_base.specs.Number.{number_up_to}
use Rattle.house_base.specs.Seed.{is_seed}
use Rattle.house_base.specs.Grid.{cell}
use Rattle.house_base.specs.Setting.{cluster_at, number_at, owner_from, need, may, distance, name_at}
use Rattle.house_base.specs.Text.{among}
use Rattle.peer_selection.specs.Counting.{count_below, sum_below, all_below, numbers_below}
use Rattle.peer_selection.specs.Split.{weights, base_at, remainder_at, left_over, comes_before, cents_at}
use Rattle.peer_selection.specs.Profile.{is_valid, denominator, row, row_points, cents, score, cluster_size, cluster_cents, quota, cumulative_quota, rank}
use Rattle.peer_selection.specs.Lottery.{seats, selected, filled, empty_seats}
use Rattle.house_model.specs.Report.{line_of, over, person_at, stand_alone, place_of_number, call_words, applicants_words, aside_words, draw_words, cluster_words, applicant_words, empty_words, report_head, report_body}
use Rattle.house_model.specs.Text.{words, word, without_return, lines, is_blank}
use Rattle.house_model.specs.Verbs.{verb_of, verb_in, is_review, is_house, is_hex64}
use Rattle.house_model.specs.Register.{persons, own_count, cluster_of, pair_among, all_placed, own_people, people, owners, square_of, reviewer_at, name_pair, open_setting, registered_setting}
use Rattle.house_model.specs.Said.{has, those, number, phase_after, call_number, register, denominator_of, seed_of, seal_of, draw_of, setting, has_pairs, run_pairs}
use Rattle.house_model.specs.Reviews.{reviewer_place, proposal_place, is_assigned, kind_tests, kind_of, asides_of, points_of, profile}
use Rattle.house_model.specs.Faults.{is_within, is_below, lacks_call, out_of_order, ill_formed, house_fault, fault}
use Rattle.house_model.specs.Ending.{stop_of, last_ended}
use Rattle.house_model.specs.Runs.{report_of, halt, end_of}
use Rattle.house_model.proofs.faults.faults_of_seeds_and_seals.Goals as goal

pub returns-clause-partition_behind_place : goal.returns-clause-partition_behind_place
unfolding digits is_name number_up_to cell cluster_at number_at owner_from need may distance count_below sum_below all_below numbers_below weights base_at remainder_at left_over comes_before cents_at is_valid denominator row row_points cents score cluster_size cluster_cents quota cumulative_quota rank seats selected filled empty_seats line_of over name_at person_at stand_alone place_of_number call_words applicants_words aside_words draw_words cluster_words applicant_words empty_words report_head report_body words word verb_in without_return lines is_blank verb_of is_review is_house has those number phase_after call_number register persons own_count cluster_of all_placed denominator_of registered_setting draw_of own_people people owners square_of reviewer_at name_pair open_setting seed_of seal_of setting has_pairs run_pairs reviewer_place proposal_place is_assigned kind_tests kind_of asides_of points_of profile among pair_among is_within report_of is_below lacks_call out_of_order ill_formed house_fault fault stop_of last_ended halt end_of is_hex64 is_seed
returns-clause-partition_behind_place c = refl

pub returns-clause-place_behind_partition : goal.returns-clause-place_behind_partition
unfolding digits is_name number_up_to cell cluster_at number_at owner_from need may distance count_below sum_below all_below numbers_below weights base_at remainder_at left_over comes_before cents_at is_valid denominator row row_points cents score cluster_size cluster_cents quota cumulative_quota rank seats selected filled empty_seats line_of over name_at person_at stand_alone place_of_number call_words applicants_words aside_words draw_words cluster_words applicant_words empty_words report_head report_body words word verb_in without_return lines is_blank verb_of is_review is_house has those number phase_after call_number register persons own_count cluster_of all_placed denominator_of registered_setting draw_of own_people people owners square_of reviewer_at name_pair open_setting seed_of seal_of setting has_pairs run_pairs reviewer_place proposal_place is_assigned kind_tests kind_of asides_of points_of profile among pair_among is_within report_of is_below lacks_call out_of_order ill_formed house_fault fault stop_of last_ended halt end_of is_hex64 is_seed
returns-clause-place_behind_partition c = refl

pub returns-clause-second_partition : goal.returns-clause-second_partition
unfolding digits is_name number_up_to cell cluster_at number_at owner_from need may distance count_below sum_below all_below numbers_below weights base_at remainder_at left_over comes_before cents_at is_valid denominator row row_points cents score cluster_size cluster_cents quota cumulative_quota rank seats selected filled empty_seats line_of over name_at person_at stand_alone place_of_number call_words applicants_words aside_words draw_words cluster_words applicant_words empty_words report_head report_body words word verb_in without_return lines is_blank verb_of is_review is_house has those number phase_after call_number register persons own_count cluster_of all_placed denominator_of registered_setting draw_of own_people people owners square_of reviewer_at name_pair open_setting seed_of seal_of setting has_pairs run_pairs reviewer_place proposal_place is_assigned kind_tests kind_of asides_of points_of profile among pair_among is_within report_of is_below lacks_call out_of_order ill_formed house_fault fault stop_of last_ended halt end_of is_hex64 is_seed
returns-clause-second_partition c = refl

pub returns-clause-second_seal : goal.returns-clause-second_seal
unfolding digits is_name number_up_to cell cluster_at number_at owner_from need may distance count_below sum_below all_below numbers_below weights base_at remainder_at left_over comes_before cents_at is_valid denominator row row_points cents score cluster_size cluster_cents quota cumulative_quota rank seats selected filled empty_seats line_of over name_at person_at stand_alone place_of_number call_words applicants_words aside_words draw_words cluster_words applicant_words empty_words report_head report_body words word verb_in without_return lines is_blank verb_of is_review is_house has those number phase_after call_number register persons own_count cluster_of all_placed denominator_of registered_setting draw_of own_people people owners square_of reviewer_at name_pair open_setting seed_of seal_of setting has_pairs run_pairs reviewer_place proposal_place is_assigned kind_tests kind_of asides_of points_of profile among pair_among is_within report_of is_below lacks_call out_of_order ill_formed house_fault fault stop_of last_ended halt end_of is_hex64 is_seed
returns-clause-second_seal c = refl

pub returns-clause-short_seal : goal.returns-clause-short_seal
unfolding digits is_name number_up_to cell cluster_at number_at owner_from need may distance count_below sum_below all_below numbers_below weights base_at remainder_at left_over comes_before cents_at is_valid denominator row row_points cents score cluster_size cluster_cents quota cumulative_quota rank seats selected filled empty_seats line_of over name_at person_at stand_alone place_of_number call_words applicants_words aside_words draw_words cluster_words applicant_words empty_words report_head report_body words word verb_in without_return lines is_blank verb_of is_review is_house has those number phase_after call_number register persons own_count cluster_of all_placed denominator_of registered_setting draw_of own_people people owners square_of reviewer_at name_pair open_setting seed_of seal_of setting has_pairs run_pairs reviewer_place proposal_place is_assigned kind_tests kind_of asides_of points_of profile among pair_among is_within report_of is_below lacks_call out_of_order ill_formed house_fault fault stop_of last_ended halt end_of is_hex64 is_seed
returns-clause-short_seal c = refl

pub returns-clause-capital_seal : goal.returns-clause-capital_seal
unfolding digits is_name number_up_to cell cluster_at number_at owner_from need may distance count_below sum_below all_below numbers_below weights base_at remainder_at left_over comes_before cents_at is_valid denominator row row_points cents score cluster_size cluster_cents quota cumulative_quota rank seats selected filled empty_seats line_of over name_at person_at stand_alone place_of_number call_words applicants_words aside_words draw_words cluster_words applicant_words empty_words report_head report_body words word verb_in without_return lines is_blank verb_of is_review is_house has those number phase_after call_number register persons own_count cluster_of all_placed denominator_of registered_setting draw_of own_people people owners square_of reviewer_at name_pair open_setting seed_of seal_of setting has_pairs run_pairs reviewer_place proposal_place is_assigned kind_tests kind_of asides_of points_of profile among pair_among is_within report_of is_below lacks_call out_of_order ill_formed house_fault fault stop_of last_ended halt end_of is_hex64 is_seed
returns-clause-capital_seal c = refl

pub returns-clause-no_seed : goal.returns-clause-no_seed
unfolding digits is_name number_up_to cell cluster_at number_at owner_from need may distance count_below sum_below all_below numbers_below weights base_at remainder_at left_over comes_before cents_at is_valid denominator row row_points cents score cluster_size cluster_cents quota cumulative_quota rank seats selected filled empty_seats line_of over name_at person_at stand_alone place_of_number call_words applicants_words aside_words draw_words cluster_words applicant_words empty_words report_head report_body words word verb_in without_return lines is_blank verb_of is_review is_house has those number phase_after call_number register persons own_count cluster_of all_placed denominator_of registered_setting draw_of own_people people owners square_of reviewer_at name_pair open_setting seed_of seal_of setting has_pairs run_pairs reviewer_place proposal_place is_assigned kind_tests kind_of asides_of points_of profile among pair_among is_within report_of is_below lacks_call out_of_order ill_formed house_fault fault stop_of last_ended halt end_of is_hex64 is_seed
returns-clause-no_seed c = refl

pub returns-clause-early_lottery : goal.returns-clause-early_lottery
unfolding digits is_name number_up_to cell cluster_at number_at owner_from need may distance count_below sum_below all_below numbers_below weights base_at remainder_at left_over comes_before cents_at is_valid denominator row row_points cents score cluster_size cluster_cents quota cumulative_quota rank seats selected filled empty_seats line_of over name_at person_at stand_alone place_of_number call_words applicants_words aside_words draw_words cluster_words applicant_words empty_words report_head report_body words word verb_in without_return lines is_blank verb_of is_review is_house has those number phase_after call_number register persons own_count cluster_of all_placed denominator_of registered_setting draw_of own_people people owners square_of reviewer_at name_pair open_setting seed_of seal_of setting has_pairs run_pairs reviewer_place proposal_place is_assigned kind_tests kind_of asides_of points_of profile among pair_among is_within report_of is_below lacks_call out_of_order ill_formed house_fault fault stop_of last_ended halt end_of is_hex64 is_seed
returns-clause-early_lottery c = refl

pub returns-clause-draw_under_a_seal : goal.returns-clause-draw_under_a_seal
unfolding digits is_name number_up_to cell cluster_at number_at owner_from need may distance count_below sum_below all_below numbers_below weights base_at remainder_at left_over comes_before cents_at is_valid denominator row row_points cents score cluster_size cluster_cents quota cumulative_quota rank seats selected filled empty_seats line_of over name_at person_at stand_alone place_of_number call_words applicants_words aside_words draw_words cluster_words applicant_words empty_words report_head report_body words word verb_in without_return lines is_blank verb_of is_review is_house has those number phase_after call_number register persons own_count cluster_of all_placed denominator_of registered_setting draw_of own_people people owners square_of reviewer_at name_pair open_setting seed_of seal_of setting has_pairs run_pairs reviewer_place proposal_place is_assigned kind_tests kind_of asides_of points_of profile among pair_among is_within report_of is_below lacks_call out_of_order ill_formed house_fault fault stop_of last_ended halt end_of is_hex64 is_seed
returns-clause-draw_under_a_seal c = refl

pub returns-clause-lottery_without_a_seal : goal.returns-clause-lottery_without_a_seal
unfolding digits is_name number_up_to cell cluster_at number_at owner_from need may distance count_below sum_below all_below numbers_below weights base_at remainder_at left_over comes_before cents_at is_valid denominator row row_points cents score cluster_size cluster_cents quota cumulative_quota rank seats selected filled empty_seats line_of over name_at person_at stand_alone place_of_number call_words applicants_words aside_words draw_words cluster_words applicant_words empty_words report_head report_body words word verb_in without_return lines is_blank verb_of is_review is_house has those number phase_after call_number register persons own_count cluster_of all_placed denominator_of registered_setting draw_of own_people people owners square_of reviewer_at name_pair open_setting seed_of seal_of setting has_pairs run_pairs reviewer_place proposal_place is_assigned kind_tests kind_of asides_of points_of profile among pair_among is_within report_of is_below lacks_call out_of_order ill_formed house_fault fault stop_of last_ended halt end_of is_hex64 is_seed
returns-clause-lottery_without_a_seal c = refl

pub returns-clause-taken_seed : goal.returns-clause-taken_seed
unfolding digits is_name number_up_to cell cluster_at number_at owner_from need may distance count_below sum_below all_below numbers_below weights base_at remainder_at left_over comes_before cents_at is_valid denominator row row_points cents score cluster_size cluster_cents quota cumulative_quota rank seats selected filled empty_seats line_of over name_at person_at stand_alone place_of_number call_words applicants_words aside_words draw_words cluster_words applicant_words empty_words report_head report_body words word verb_in without_return lines is_blank verb_of is_review is_house has those number phase_after call_number register persons own_count cluster_of all_placed denominator_of registered_setting draw_of own_people people owners square_of reviewer_at name_pair open_setting seed_of seal_of setting has_pairs run_pairs reviewer_place proposal_place is_assigned kind_tests kind_of asides_of points_of profile among pair_among is_within report_of is_below lacks_call out_of_order ill_formed house_fault fault stop_of last_ended halt end_of is_hex64 is_seed
returns-clause-taken_seed c = refl

pub returns-clause-placed_by_the_seed : goal.returns-clause-placed_by_the_seed
unfolding digits is_name number_up_to cell cluster_at number_at owner_from need may distance count_below sum_below all_below numbers_below weights base_at remainder_at left_over comes_before cents_at is_valid denominator row row_points cents score cluster_size cluster_cents quota cumulative_quota rank seats selected filled empty_seats line_of over name_at person_at stand_alone place_of_number call_words applicants_words aside_words draw_words cluster_words applicant_words empty_words report_head report_body words word verb_in without_return lines is_blank verb_of is_review is_house has those number phase_after call_number register persons own_count cluster_of all_placed denominator_of registered_setting draw_of own_people people owners square_of reviewer_at name_pair open_setting seed_of seal_of setting has_pairs run_pairs reviewer_place proposal_place is_assigned kind_tests kind_of asides_of points_of profile among pair_among is_within report_of is_below lacks_call out_of_order ill_formed house_fault fault stop_of last_ended halt end_of is_hex64 is_seed
returns-clause-placed_by_the_seed c = refl
