-- What is first read of the report of lines: the names on record, and the chances of the profile that the lines give.
use Rattle.std.proofs.Common.{◌≡◌, ℕ, ◌<◌, map, All, IsTrue, option_map, ap, ◌∙◌, arith}
use Rattle.std.proofs.lemmas.Option.{slice_get-map}
use Rattle.house_base.specs.Name.{is_name}
use Rattle.house_base.specs.Setting.{IsSetting, size}
use Rattle.house_base.proofs.InOrderLemmas.{In, In-Contains, map-In}
use Rattle.peer_selection.specs.Counting.{numbers_below}
use Rattle.peer_selection.specs.Lottery.{chance}
use Rattle.peer_selection.specs.Profile.{denominator}
use Rattle.peer_selection.proofs.CountingLemmas.{length-numbers_below, get_or-numbers_below, slice_get-numbers_below}
use Rattle.house_model.specs.declared.goal.Goal.TheVariants as goal
use Rattle.house_model.specs.declared.outcome.ApplicantRow.{ApplicantRow}
use Rattle.house_model.specs.Printed.{applicant_rows, name_in, chance_at}
use Rattle.house_model.specs.Register.{names}
use Rattle.house_model.specs.Report.{over, place_of_number, applicant_row, applicant_rows_of, outcome_of, report}
use Rattle.house_model.specs.Reviews.{profile, asides_of}
use Rattle.house_model.specs.Runs.{report_of}
use Rattle.house_model.specs.Said.{register, setting, draw_of}
use Rattle.house_model.specs.Text.{Lines}
use Rattle.house_model.proofs.NamedPlaceLemmas.{HasNamesOf-setting, names-by_numbers, name-formed, person-formed}
use Rattle.house_model.proofs.PrintedLemmas.{HaveFormedNames, names-outcome, chance_at-outcome}
use Rattle.house_model.proofs.RegisterPeopleLemmas.{map-map}

pub below-In : (n i : ℕ) → In i (numbers_below n) → i < n
below-In n i m =
    let at = In-Contains i (numbers_below n) m in
    omega (arith, at.1, at.2, length-numbers_below n, get_or-numbers_below n at.0 i (omega (arith, at.1, length-numbers_below n)))

module _ (lines : Lines) (h : IsSetting (setting lines)) (formed : All (λ a. IsTrue (is_name a.0) × IsTrue (is_name a.1)) (register lines).applicants) where
  rows_formed : (v : ℕ) → HaveFormedNames (applicant_rows_of (profile lines) v)
  unfolding applicant_rows_of applicant_row profile
  rows_formed v row m =
      let at = map-In (λ number. applicant_row (profile lines) v (place_of_number (setting lines) number)) row (numbers_below (size (setting lines))) m in
      let below = below-In (size (setting lines)) at.0 at.1 in
      let named = HasNamesOf-setting lines in (
        ap (λ (r : ApplicantRow). is_name r.name) at.2 ∙ name-formed (register lines).applicants (setting lines) named h formed at.0 below,
        ap (λ (r : ApplicantRow). is_name r.person) at.2 ∙ person-formed (register lines).applicants (setting lines) named h formed at.0 below,
      )

  -- the names are those on record
  pub names-report : map name_in (applicant_rows (report_of lines)) ≡ names (register lines)
  unfolding report_of report outcome_of applicant_rows_of applicant_row profile
  names-report =
      names-outcome (outcome_of (profile lines) (asides_of goal.Run lines) (draw_of lines)) (rows_formed (draw_of lines))
      ∙ (map-map (λ row. row.name) (λ number. applicant_row (profile lines) (draw_of lines) (place_of_number (setting lines) number)) (numbers_below (size (setting lines)))
      ∙ names-by_numbers (register lines).applicants (setting lines) (HasNamesOf-setting lines) h)

  -- the chance is that of the applicant with this register number
  pub chance_at-report : (i : ℕ) → i < size (setting lines)
      → chance_at (report_of lines) i ≡ over (chance (profile lines) (place_of_number (setting lines) i)) (denominator (setting lines))
  unfolding report_of report outcome_of applicant_rows_of applicant_row profile
  chance_at-report i l =
      let row = λ (number : ℕ). applicant_row (profile lines) (draw_of lines) (place_of_number (setting lines) number) in
      chance_at-outcome (outcome_of (profile lines) (asides_of goal.Run lines) (draw_of lines)) i (row i) (rows_formed (draw_of lines))
      (slice_get-map row (numbers_below (size (setting lines))) i ∙ ap (option_map row) (slice_get-numbers_below (size (setting lines)) i l))
