use Rattle.std.specs.Prelude.{ℕ, ◌*◌, ◌^◌, ◌-◌, Bool, Option, Result, Ok, Err, List, [], length, map, filter, find, ◌==◌, ◌||◌, not, if◌then◌else◌}
use Rattle.std.specs.List.{list_any}
use Rattle.std.specs.Option.{option_map, option_map_or}
use Rattle.hex.specs.Hex.{decode_of}
use Rattle.house_base.specs.Number.{number_up_to}
use Rattle.house_base.specs.Setting.{Setting}
use Rattle.house_base.specs.declared.limits.TheConstants.{DOLLAR}
use Rattle.house_base.specs.declared.phase.Phase.{Phase}
use Rattle.house_base.specs.declared.phase.Phase.TheVariants as phase
use Rattle.house_base.specs.Text.{Text}
use Rattle.peer_selection.specs.FirstAssignment.{first_assignment, no_pairs}
use Rattle.peer_selection.specs.Profile.{Pairs}
use Rattle.house_model.specs.declared.goal.Goal.{Goal}
use Rattle.house_model.specs.declared.goal.Goal.TheVariants as goal
use Rattle.house_model.specs.declared.verb.Verb.{Verb}
use Rattle.house_model.specs.declared.verb.Verb.TheVariants as verb
use Rattle.house_model.specs.Text.{Lines, words, word}
use Rattle.house_model.specs.Verbs.{commands}
use Rattle.house_model.specs.Register.{Register, persons, name_pair}
use Rattle.house_model.specs.Seeds.{seed_draw, seeded_setting}

-- What the lines of a command file say. Each part is read off the lines with one command.

-- whether some line has this command
unfoldable pub has : Verb → Lines → Bool
has v lines = list_any (commands v) lines

-- the lines that have this command
unfoldable pub those : Verb → Lines → Lines
those v lines = filter (commands v) lines

-- the number that a word spells; 0 where it spells none of 64 bits
unfoldable pub number : Text → ℕ
number w = option_map_or (λ n. n) (number_up_to (2 ^ 64 - 1) w) 0

-- how far the call has come
unfoldable pub phase_after : Lines → Phase
phase_after lines =
    if not (has verb.Assign lines) then phase.Opening
    else if not (has verb.Close lines) then phase.Reviewing
    else if not (has verb.Draw lines || has verb.Lottery lines) then phase.Closed
    else phase.Drawn

-- the number at an index of the first call line
unfoldable pub call_number : Lines → ℕ → ℕ
call_number lines i = option_map_or (λ line. number (word line i)) (find (commands verb.Call) lines) 0

-- the seats, the clusters and the reviews of the call
abbrev pub seats_of : Lines → ℕ
seats_of lines = call_number lines 1

abbrev pub clusters_of : Lines → ℕ
clusters_of lines = call_number lines 2

abbrev pub reviews_of : Lines → ℕ
reviews_of lines = call_number lines 3

-- the name and the person of an applicant line: its own name where no person is named
abbrev pub applicant_in : Text → Text × Text
applicant_in line = (word line 1, (if length (words line) == 2 then word line 1 else word line 2))

-- the person and the cluster of a place line
abbrev pub place_in : Text → Text × ℕ
place_in line = (word line 1, number (word line 2))

-- the person and the applicant of a line that names a pair
abbrev pub pair_in : Text → Text × Text
pair_in line = (word line 1, word line 2)

-- what the lines put on record
unfoldable pub register : Lines → Register
register lines = record {
  applicants = map applicant_in (those verb.Applicant lines);
  placed = map place_in (those verb.Place lines);
  barred = map pair_in (those verb.Conflict lines);
  pairs = map pair_in (those verb.Pair lines);
}

-- the common denominator: a dollar, in cents, for each person
unfoldable pub denominator_of : Register → ℕ
denominator_of reg = length (persons reg) * DOLLAR

-- the bytes that a word of hexadecimal digits spells; none where it spells none
abbrev pub bytes_or_none : {E : Type 0} → Result (List ℕ) E → List ℕ
bytes_or_none (Ok bytes) = bytes
bytes_or_none (Err why) = []

unfoldable pub spelled : Text → List ℕ
spelled w = bytes_or_none (decode_of w)

-- the seed from which the clusters are drawn, where they are
unfoldable pub seed_of : Lines → Option Text
seed_of lines = option_map (λ line. word line 1) (find (commands verb.Partition) lines)

-- the digest to which the draw has to keep, where there is one
unfoldable pub seal_of : Lines → Option (List ℕ)
seal_of lines = option_map (λ line. spelled (word line 1)) (find (commands verb.Seal) lines)

-- the draw: the number of the draw line, or what the seed of the lottery line draws
unfoldable pub draw_of : Lines → ℕ
draw_of lines = option_map_or (λ line. number (word line 1)) (find (commands verb.Draw) lines)
    (option_map_or (λ line. seed_draw (word line 1) (denominator_of (register lines))) (find (commands verb.Lottery) lines) 0)

-- the setting that the lines give
unfoldable pub setting : Lines → Setting
setting lines = seeded_setting (seed_of lines) (seats_of lines) (clusters_of lines) (reviews_of lines) (register lines)

-- whether pairs were made by hand
unfoldable pub has_pairs : Lines → Bool
has_pairs lines = not (length (register lines).pairs == 0)

-- the assignment of a run: the pairs that the lines name, by places, and where they name none the first assignment
unfoldable pub run_pairs : Lines → Pairs
run_pairs lines = if has_pairs lines then name_pair (register lines).pairs (setting lines)
    else first_assignment (setting lines)

-- the assignment that the lines give for a goal: none where only its existence is asked for
abbrev pub assigned : Goal → Lines → Pairs
assigned goal.Run lines = run_pairs lines
assigned goal.Pairs lines = run_pairs lines
assigned goal.Feasible lines = no_pairs
