use Rattle.std.proofs.Common.{refl, ◌∙◌}
use Rattle.std.specs.Fmt.{digits}
use Rattle.house_base.specs.Name.{is_name}
use Rattle.house_base.specs.Number.{number_up_to}
use Rattle.house_base.specs.Seed.{is_seed}
use Rattle.house_base.specs.Grid.{cell}
use Rattle.house_base.specs.Setting.{cluster_at, number_at, owner_from, need, may, distance, name_at}
use Rattle.house_base.specs.Text.{among}
use Rattle.peer_selection.specs.Counting.{count_below, sum_below, all_below, numbers_below}
use Rattle.peer_selection.specs.Split.{weights, base_at, remainder_at, left_over, comes_before, cents_at}
use Rattle.peer_selection.specs.Profile.{is_valid, denominator, row, row_points, cents, score, cluster_size, cluster_cents, quota, cumulative_quota, rank}
use Rattle.peer_selection.specs.Lottery.{seats, selected, filled, empty_seats}
use Rattle.peer_selection.proofs.WorkedLemmas.{in_one_cluster, in_rising_number}
use Rattle.house_model.specs.Report.{line_of, over, person_at, stand_alone, place_of_number, call_words, applicants_words, aside_words, draw_words, cluster_words, applicant_words, empty_words, cluster_lines, applicant_lines, report_head, report_body, outcome_text, cluster_row, cluster_rows_of, applicant_row, outcome_of}
use Rattle.house_model.specs.Text.{words, word, without_return, lines, is_blank}
use Rattle.house_model.specs.Verbs.{verb_of, verb_in, is_review, is_house, is_hex64}
use Rattle.house_model.specs.Register.{persons, own_count, cluster_of, pair_among, all_placed, own_people, people, owners, square_of, reviewer_at, name_pair, open_setting, registered_setting}
use Rattle.house_model.specs.Said.{has, those, number, phase_after, call_number, register, denominator_of, seed_of, seal_of, draw_of, setting, has_pairs, run_pairs}
use Rattle.house_model.specs.Reviews.{reviewer_place, proposal_place, is_assigned, kind_tests, kind_of, asides_of, points_of, profile}
use Rattle.house_model.specs.Faults.{is_within, is_below, lacks_call, out_of_order, ill_formed, house_fault, fault}
use Rattle.house_model.specs.Ending.{stop_of, last_ended}
use Rattle.house_model.specs.Runs.{report_of, halt, end_of}
use Rattle.house_model.specs.Examples as call
use Rattle.house_model.proofs.ExampleLemmas.{is_assigned_setting, report_of-by_quota}
use Rattle.house_model.proofs.examples.four_applicants.Goals as goal

pub returns-clause-report : goal.returns-clause-report
unfolding digits is_name number_up_to cell cluster_at number_at owner_from need may distance count_below sum_below all_below numbers_below weights base_at remainder_at left_over comes_before cents_at is_valid denominator row row_points cents score cluster_size cluster_cents quota cumulative_quota rank seats selected filled empty_seats line_of over name_at person_at stand_alone place_of_number call_words applicants_words aside_words draw_words cluster_words applicant_words empty_words cluster_lines applicant_lines report_head report_body outcome_text cluster_row cluster_rows_of applicant_row outcome_of words word verb_in without_return lines is_blank verb_of is_review is_house has those number phase_after call_number register persons own_count cluster_of all_placed denominator_of registered_setting draw_of own_people people owners square_of reviewer_at name_pair open_setting seed_of seal_of setting has_pairs run_pairs reviewer_place proposal_place is_assigned kind_tests kind_of asides_of points_of profile among pair_among is_within report_of is_below lacks_call out_of_order ill_formed house_fault fault stop_of last_ended halt end_of is_hex64 is_seed is_assigned_setting in_one_cluster in_rising_number
returns-clause-report c = report_of-by_quota (lines call.four_applicants) refl ∙ refl

pub returns-clause-spaced : goal.returns-clause-spaced
unfolding digits is_name number_up_to cell cluster_at number_at owner_from need may distance count_below sum_below all_below numbers_below weights base_at remainder_at left_over comes_before cents_at is_valid denominator row row_points cents score cluster_size cluster_cents quota cumulative_quota rank seats selected filled empty_seats line_of over name_at person_at stand_alone place_of_number call_words applicants_words aside_words draw_words cluster_words applicant_words empty_words cluster_lines applicant_lines report_head report_body outcome_text cluster_row cluster_rows_of applicant_row outcome_of words word verb_in without_return lines is_blank verb_of is_review is_house has those number phase_after call_number register persons own_count cluster_of all_placed denominator_of registered_setting draw_of own_people people owners square_of reviewer_at name_pair open_setting seed_of seal_of setting has_pairs run_pairs reviewer_place proposal_place is_assigned kind_tests kind_of asides_of points_of profile among pair_among is_within report_of is_below lacks_call out_of_order ill_formed house_fault fault stop_of last_ended halt end_of is_hex64 is_seed is_assigned_setting in_one_cluster in_rising_number
returns-clause-spaced c = report_of-by_quota (lines call.four_applicants_spaced) refl ∙ refl
