-- What the outcome of a run adds up to.
use Rattle.std.proofs.Common.{ℕ, ◌+◌, ◌*◌, ◌^◌, ◌<◌, ◌≤◌, eqb, map, ap, ◌∙◌, arith}
use Rattle.std.specs.Prelude.{sum_by}
use Rattle.std.proofs.lemmas.List.{length-map}
use Rattle.std.proofs.lemmas.List.Elements.{All-map}
use Rattle.std.proofs.lemmas.List.Sums.{sum_by-le}
use Rattle.house_base.specs.Setting.{IsSetting, cluster_at, size}
use Rattle.house_base.specs.declared.limits.TheConstants.{DOLLAR, MOST_APPLICANTS}
use Rattle.house_base.proofs.Settings.{length-StandInTurn}
use Rattle.peer_selection.specs.Counting.{numbers_below}
use Rattle.peer_selection.specs.Lottery.{chance, filled, selected}
use Rattle.peer_selection.specs.Profile.{Profile, cluster_size, denominator}
use Rattle.peer_selection.proofs.CountingLemmas.{count_below-le, length-numbers_below}
use Rattle.house_model.specs.declared.outcome.ApplicantRow.{ApplicantRow}
use Rattle.house_model.specs.declared.outcome.ClusterRow.{ClusterRow}
use Rattle.house_model.specs.Report.{OutcomeParts, applicant_row, applicant_rows_of, cluster_row, cluster_rows_of, outcome_of, place_of_number}
use Rattle.house_model.specs.Reviews.{profile}
use Rattle.house_model.specs.Said.{draw_of}
use Rattle.house_model.specs.Text.{Lines}
use Rattle.house_core.specs.Ends.{IsOutcome}
use Rattle.trial_file.specs.Told.{all_chances, all_filled}

chance_fits : (f : Profile) (p : ℕ) → IsSetting f.setting → chance f p ≤ MOST_APPLICANTS * DOLLAR
unfolding chance denominator
chance_fits f p is =
    let persons = length-StandInTurn 0 f.setting.owners (size f.setting) is.own is.in_turn in
    omega (arith, count_below-le (selected f p) (denominator f.setting), persons, is.few)

filled_fits : (f : Profile) (j v : ℕ) → IsSetting f.setting → filled f j v ≤ MOST_APPLICANTS
unfolding filled cluster_size
filled_fits f j v is = omega (arith, count_below-le (λ p. eqb (cluster_at f.setting p) j) (size f.setting), is.few)

chances_fit : (f : Profile) (v : ℕ) → IsSetting f.setting → sum_by (λ (row : ApplicantRow). row.chance) (applicant_rows_of f v) < 2 ^ 64
unfolding applicant_rows_of applicant_row
chances_fit f v is =
    let row = λ (i : ℕ). applicant_row f v (place_of_number f.setting i) in
    let ns = numbers_below (size f.setting) in
    let each = All-map (λ (r : ApplicantRow). r.chance ≤ MOST_APPLICANTS * DOLLAR) row ns (λ k d l. chance_fits f _ is) in
    let most = sum_by-le (λ (r : ApplicantRow). r.chance) (MOST_APPLICANTS * DOLLAR) (map row ns) each in
    let many = length-map ns row ∙ length-numbers_below (size f.setting) in
    omega (arith, most, many, is.few)

filled_fit : (f : Profile) (v : ℕ) → IsSetting f.setting → sum_by (λ (row : ClusterRow). row.filled) (cluster_rows_of f v) < 2 ^ 64
unfolding cluster_rows_of cluster_row
filled_fit f v is =
    let row = λ (i : ℕ). cluster_row f v (i + 1) in
    let ns = numbers_below f.setting.clusters in
    let each = All-map (λ (r : ClusterRow). r.filled ≤ MOST_APPLICANTS) row ns (λ k d l. filled_fits f _ v is) in
    let most = sum_by-le (λ (r : ClusterRow). r.filled) MOST_APPLICANTS (map row ns) each in
    let many = length-map ns row ∙ length-numbers_below f.setting.clusters in
    omega (arith, most, many, is.clusters_in_range.1)

-- the sums of the outcome of lines are of 64 bits
pub sums_fit : (lines : Lines) (o : OutcomeParts) → IsOutcome lines o → (all_filled o < 2 ^ 64) × (all_chances o < 2 ^ 64)
unfolding outcome_of
sums_fit lines o is =
    let f = profile lines in
    let clusters = ap (λ (p : OutcomeParts). sum_by (λ (row : ClusterRow). row.filled) p.cluster_rows) is.value in
    let applicants = ap (λ (p : OutcomeParts). sum_by (λ (row : ApplicantRow). row.chance) p.applicant_rows) is.value in (
      omega (arith, clusters, filled_fit f (draw_of lines) is.assigned.setting),
      omega (arith, applicants, chances_fit f (draw_of lines) is.assigned.setting),
    )
