-- What is promised of the lines of a call.
use Rattle.std.proofs.Common.{◌≡◌, ℕ, suc, ◌<◌, List, map, All, IsTrue, Some, slice_get, option_map, sym, ap, ◌∙◌, subst, arith}
use Rattle.std.proofs.lemmas.Option.{slice_get-map, slice_get_within, same_Some}
use Rattle.house_base.specs.Name.{is_name}
use Rattle.house_base.specs.Setting.{IsSetting, size}
use Rattle.house_base.specs.Text.{Text}
use Rattle.peer_selection.specs.Lottery.{chance}
use Rattle.peer_selection.specs.Profile.{denominator}
use Rattle.peer_selection.proofs.ClusterLemmas.{cumulative_quota-all}
use Rattle.peer_selection.proofs.SeatLemmas.{seats-all, seats-rounded, cumulative_quota-mono}
use Rattle.peer_selection.proofs.ChanceLemmas.{seats-all_draws}
use Rattle.peer_selection.proofs.FirstAmongLemmas.{has_assignment-exact}
use Rattle.house_model.specs.declared.goal.Goal.TheVariants as goal
use Rattle.house_model.specs.Ending.{Ended, stop_of}
use Rattle.house_model.specs.Headline.{AreOfCall, ChancesAreCounted, OwnReviewsChangeNoChance, SeatsAreQuotasRounded, QuotasAreMeans, OrderOfArrivalChangesNothing, HasValidAssignment, SealIsKept}
use Rattle.house_model.specs.Isolation.{without, GiveAssignment, IsApplicantOf}
use Rattle.house_model.specs.Printed.{chance_at}
use Rattle.house_model.specs.Report.{over, person_at, place_of_number}
use Rattle.house_model.specs.Reviews.{profile}
use Rattle.house_model.specs.Runs.{end_of, taken, report_of}
use Rattle.house_model.specs.Said.{register, setting, run_pairs, draw_of}
use Rattle.house_model.specs.Text.{Lines}
use Rattle.house_model.proofs.FormedNameLemmas.{names-formed}
use Rattle.house_model.proofs.NamedPlaceLemmas.{HasNamesOf-setting, name-by_number, person-by_number}
use Rattle.house_model.proofs.OwnReviewLemmas.{chance-without, chance-one, setting-one}
use Rattle.house_model.proofs.DoneLemmas.{done-without}
use Rattle.house_model.proofs.InterleavingLemmas.{done-arrival, report-arrival}
use Rattle.house_model.proofs.PrintedCallLemmas.{names-report, chance_at-report}
use Rattle.house_model.proofs.ReportLemmas.{place_of_number-within}
use Rattle.house_model.proofs.RunEndLemmas.{done-parts, first_pairs}
use Rattle.house_model.proofs.SealLemmas.{drawn-under}
use Rattle.house_model.proofs.SettledLemmas.{settled-valid, settled-first}

assignment : (lines : Lines) → AreOfCall lines → GiveAssignment lines
unfolding profile
assignment lines of = record { forms_setting = of.assigned.setting; assigns_validly = of.assigned.valid }

forms_setting : (lines : Lines) → AreOfCall lines → IsSetting (setting lines)
unfolding profile
forms_setting lines of = of.assigned.setting

-- names are of their form in lines that are done
done-formed : (lines : Lines) → end_of goal.Run lines ≡ Ended.Done → All (λ a. IsTrue (is_name a.0) × IsTrue (is_name a.1)) (register lines).applicants
unfolding stop_of
done-formed lines done = names-formed goal.Run lines (done-parts lines done).0

counted_in_report : (lines : Lines) → AreOfCall lines → ChancesAreCounted lines (report_of lines)
unfolding chance profile
counted_in_report lines of =
    let h = forms_setting lines of in
    let formed = done-formed lines of.done in
    record {
      rows = names-report lines h formed;
      named = name-by_number (register lines).applicants (setting lines) (HasNamesOf-setting lines) h;
      counted = chance_at-report lines h formed;
    }

pub counted : (lines : Lines) (text : List ℕ) → AreOfCall lines → text ≡ report_of lines → ChancesAreCounted lines text
counted lines text of printed = subst (ChancesAreCounted lines) (sym printed) (counted_in_report lines of)

-- Other lines that differ in review lines by one person alone.

module _ (lines : Lines) (of : AreOfCall lines) (name : Text) (others : Lines) (same : without name others ≡ without name lines) where
  others_done : end_of goal.Run others ≡ Ended.Done
  others_done = (done-without goal.Run name others).0 (ap (end_of goal.Run) same ∙ (done-without goal.Run name lines).1 of.done)

  others_setting : setting others ≡ setting lines
  others_setting = setting-one name lines others (sym same)

  -- an applicant on record with this person
  own_applicant : (i : ℕ) (applicant : Text × Text) → slice_get (register lines).applicants i ≡ Some applicant → applicant.1 ≡ name
      → (i < size (setting lines)) × IsApplicantOf name lines (place_of_number (setting lines) i)
  own_applicant i applicant at own =
      let h = forms_setting lines of in
      let named = HasNamesOf-setting lines in
      let below : i < size (setting lines) = omega (arith, named.count, slice_get_within (register lines).applicants i applicant at) in
      let person : slice_get (map (λ a. a.1) (register lines).applicants) i ≡ Some applicant.1 =
      slice_get-map (λ a. a.1) (register lines).applicants i ∙ ap (option_map (λ a. a.1)) at in (
        below,
        (
          place_of_number-within (setting lines) i h,
          same_Some (person_at (setting lines) (place_of_number (setting lines) i)) applicant.1
              (sym (person-by_number (register lines).applicants (setting lines) named h i below) ∙ person) ∙ own,
        ),
      )

  same_printed : (i : ℕ) (applicant : Text × Text) → slice_get (register lines).applicants i ≡ Some applicant → applicant.1 ≡ name
      → chance_at (report_of others) i ≡ chance_at (report_of lines) i
  same_printed i applicant at own =
      let mine = own_applicant i applicant at own in
      let h = forms_setting lines of in
      let there = subst IsSetting (sym others_setting) h in
      let below : i < size (setting others) = rw others_setting mine.0 in
      chance_at-report others there (done-formed others others_done) i below
      ∙ (ap (λ s. over (chance (profile others) (place_of_number s i)) (denominator s)) others_setting
      ∙ (ap (λ c. over c (denominator (setting lines))) (sym (chance-one name lines others (sym same) (place_of_number (setting lines) i) (assignment lines of) mine.1))
      ∙ sym (chance_at-report lines h (done-formed lines of.done) i mine.0)))

isolated_in_report : (lines : Lines) → AreOfCall lines → OwnReviewsChangeNoChance lines (report_of lines)
isolated_in_report lines of = record {
  still_done = others_done lines of;
  same_setting = others_setting lines of;
  same_chance = same_printed lines of;
  left_out = λ name p own. chance-without name lines p (assignment lines of) own;
  rewritten = λ name others p own same. sym (chance-one name lines others (sym same) p (assignment lines of) own);
}

pub isolated : (lines : Lines) (text : List ℕ) → AreOfCall lines → text ≡ report_of lines → OwnReviewsChangeNoChance lines text
isolated lines text of printed = subst (OwnReviewsChangeNoChance lines) (sym printed) (isolated_in_report lines of)

pub rounded : (lines : Lines) → AreOfCall lines → SeatsAreQuotasRounded lines
unfolding profile
rounded lines of = record {
  rounded = λ i below. seats-rounded (profile lines) (draw_of lines) (profile lines).setting.clusters i of.drawn (cumulative_quota-all (profile lines) of.assigned.setting of.assigned.valid) below;
  all = seats-all (profile lines) (draw_of lines) (profile lines).setting.clusters of.drawn (cumulative_quota-all (profile lines) of.assigned.setting of.assigned.valid);
}

pub means : (lines : Lines) → AreOfCall lines → QuotasAreMeans lines
unfolding profile
means lines of i below =
    let f = profile lines in
    seats-all_draws f i (omega (arith, cumulative_quota-mono f (suc i) f.setting.clusters below, cumulative_quota-all f of.assigned.setting of.assigned.valid))

pub in_any_order : (lines : Lines) → AreOfCall lines → OrderOfArrivalChangesNothing lines
in_any_order lines of = record {
  still_done = λ others h. done-arrival lines others h of.done;
  same_report = λ others h. report-arrival lines others h of.done;
}

pub assigned_validly : (lines : Lines) → AreOfCall lines → HasValidAssignment goal.Run lines
unfolding profile
assigned_validly lines of = record {
  valid = of.assigned.valid;
  first = λ none. first_pairs lines none (has_assignment-exact (setting lines) (run_pairs lines) of.assigned.valid);
}

pub settled_validly : (lines : Lines) → end_of goal.Pairs lines ≡ Ended.Settled → HasValidAssignment goal.Pairs (taken goal.Pairs lines)
settled_validly lines settled = record { valid = settled-valid lines settled; first = settled-first lines settled }

pub sealed : (lines : Lines) → AreOfCall lines → SealIsKept lines
sealed lines of seal has = drawn-under lines seal of.done has
