use Rattle.std.proofs.Common.{◌≡◌, ℕ, ◌+◌, ◌≤◌, Bool, true, ◌&&◌, not, ltb, leb, eqb, List, [], ◌∷◌, map}
use Rattle.std.specs.List.{list_all, list_any}
use Rattle.std.specs.Str.{bytes_eq}
use Rattle.std.proofs.lemmas.Bool.{and_parts, eqb-true, leb-true}
use Rattle.house_base.specs.declared.limits.TheConstants.{MOST_APPLICANTS, MOST_SEATS, FEWEST_CLUSTERS, MOST_CLUSTERS, MOST_REVIEWS, MOST_OWN}
use Rattle.house_base.specs.declared.plan.Owner.{Owner}
use Rattle.house_base.specs.Setting.{Setting, StandInTurn, size, names_of, numbers_of}
use Rattle.peer_selection.specs.Counting.{all_below}
use Rattle.peer_selection.specs.Laws.{IsAssigned}
use Rattle.peer_selection.specs.Profile.{Profile, is_valid}
use Rattle.peer_selection.proofs.WorkedLemmas.{pairs_pass, in_one_cluster, in_rising_number, IsSetting-by_tests}
use Rattle.house_model.specs.Report.{outcome_text}
use Rattle.house_model.specs.Text.{Lines}
use Rattle.house_model.specs.Said.{setting, assigned, draw_of}
use Rattle.house_model.specs.Reviews.{asides_of, profile}
use Rattle.house_model.specs.Runs.{report_of}
use Rattle.house_model.specs.declared.goal.Goal.TheVariants as goal
use Rattle.house_model.proofs.ReportLemmas.{outcome_by_quota, report-by_quota}

-- One test of a profile that computes: its setting is one, and its assignment is valid.

abbrev all_true : List Bool → Bool
all_true [] = true
all_true (b ∷ bs) = b && all_true bs

abbrev stand_in_turn : ℕ → List Owner → ℕ → Bool
stand_in_turn from [] n = eqb from n
stand_in_turn from (owner ∷ owners) n = eqb owner.first from && stand_in_turn (from + owner.own) owners n

StandInTurn-by_test : (from : ℕ) (owners : List Owner) (n : ℕ) → stand_in_turn from owners n ≡ true → StandInTurn from owners n
StandInTurn-by_test from [] n h = eqb-true from n h
StandInTurn-by_test from (owner ∷ owners) n h =
    let both = and_parts (eqb owner.first from) (stand_in_turn (from + owner.own) owners n) h in
    (eqb-true owner.first from both.0, StandInTurn-by_test (from + owner.own) owners n both.1)

-- the tests of the numbers, of the applicants, and of the persons
abbrev number_tests : Setting → List Bool
number_tests s = leb 1 s.seats ∷ leb s.seats MOST_SEATS ∷ leb FEWEST_CLUSTERS s.clusters ∷ leb s.clusters MOST_CLUSTERS
    ∷ leb 1 s.reviews ∷ leb s.reviews MOST_REVIEWS ∷ leb 1 (size s) ∷ leb (size s) MOST_APPLICANTS ∷ []

abbrev people_tests : Setting → List Bool
people_tests s = pairs_pass (λ a b. not (bytes_eq a b)) (names_of s)
    ∷ list_all (λ person. leb 1 person.cluster && leb person.cluster s.clusters) s.people
    ∷ pairs_pass (λ a b. not (eqb a b)) (numbers_of s)
    ∷ list_all (λ number. ltb number (size s)) (numbers_of s)
    ∷ all_below (λ number. list_any (eqb number) (numbers_of s)) (size s)
    ∷ eqb s.barred.side (size s) ∷ []

abbrev owner_tests : Setting → List Bool
owner_tests s = pairs_pass (λ a b. not (bytes_eq a b)) (map (λ owner. owner.name) s.owners)
    ∷ list_all (λ owner. leb 1 owner.own && leb owner.own MOST_OWN) s.owners
    ∷ stand_in_turn 0 s.owners (size s)
    ∷ list_all (in_one_cluster s) s.owners
    ∷ list_all (in_rising_number s) s.owners ∷ []

-- whether a setting passes all of them, and an assignment is valid for it
unfoldable pub is_assigned_setting : Setting → Bool → Bool
is_assigned_setting s valid = all_true (all_true (number_tests s) ∷ all_true (people_tests s) ∷ all_true (owner_tests s) ∷ valid ∷ [])

in_range : (low x high : ℕ) → leb low x ≡ true → leb x high ≡ true → (low ≤ x) × (x ≤ high)
in_range low x high h g = (leb-true low x h, leb-true x high g)

pub IsAssigned-by_test : (f : Profile) → is_assigned_setting f.setting (is_valid f.setting f.pairs) ≡ true → IsAssigned f
unfolding is_assigned_setting
IsAssigned-by_test f h =
    let s = f.setting in
    let numbers_pass = and_parts (all_true (number_tests s)) _ h in
    let people_pass = and_parts (all_true (people_tests s)) _ numbers_pass.1 in
    let owners_pass = and_parts (all_true (owner_tests s)) _ people_pass.1 in
    let valid = and_parts (is_valid s f.pairs) _ owners_pass.1 in
    let seats_least = and_parts _ _ numbers_pass.0 in
    let seats_most = and_parts _ _ seats_least.1 in
    let clusters_least = and_parts _ _ seats_most.1 in
    let clusters_most = and_parts _ _ clusters_least.1 in
    let reviews_least = and_parts _ _ clusters_most.1 in
    let reviews_most = and_parts _ _ reviews_least.1 in
    let some = and_parts _ _ reviews_most.1 in
    let few = and_parts _ _ some.1 in
    let names = and_parts _ _ people_pass.0 in
    let placed = and_parts _ _ names.1 in
    let numbers = and_parts _ _ placed.1 in
    let below = and_parts _ _ numbers.1 in
    let each = and_parts _ _ below.1 in
    let square = and_parts _ _ each.1 in
    let owner_names = and_parts _ _ owners_pass.0 in
    let own = and_parts _ _ owner_names.1 in
    let in_turn = and_parts _ _ own.1 in
    let one_cluster = and_parts _ _ in_turn.1 in
    let rising = and_parts _ _ one_cluster.1 in
    record {
      setting = IsSetting-by_tests s
          (in_range 1 s.seats MOST_SEATS seats_least.0 seats_most.0)
          (in_range FEWEST_CLUSTERS s.clusters MOST_CLUSTERS clusters_least.0 clusters_most.0)
          (in_range 1 s.reviews MOST_REVIEWS reviews_least.0 reviews_most.0)
          (leb-true 1 (size s) some.0) (leb-true (size s) MOST_APPLICANTS few.0)
          names.0 placed.0 numbers.0 below.0 each.0 (eqb-true s.barred.side (size s) square.0)
          owner_names.0 own.0 (StandInTurn-by_test 0 s.owners (size s) in_turn.0) one_cluster.0 rising.0;
      valid = valid.0;
    }

-- the report of a list of lines, with its chances read off the quotas
pub report_of-by_quota : (ls : Lines) → is_assigned_setting (setting ls) (is_valid (setting ls) (assigned goal.Run ls)) ≡ true
    → report_of ls ≡ outcome_text (outcome_by_quota (profile ls) (asides_of goal.Run ls) (draw_of ls))
unfolding report_of profile
report_of-by_quota ls h = report-by_quota (profile ls) (asides_of goal.Run ls) (draw_of ls) (IsAssigned-by_test (profile ls) h)
