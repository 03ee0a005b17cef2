use Rattle.std.specs.Prelude.{ℕ, ◌^◌, ◌-◌, Bool, true, false, Option, Some, None, is_some, List, [], ◌∷◌, length, drop, ◌==◌, ◌&&◌, ◌||◌, nat_le, nat_lt, not, if◌then◌else◌}
use Rattle.std.specs.List.{list_all}
use Rattle.std.specs.Option.{option_map_or}
use Rattle.std.specs.Str.{bytes_eq}
use Rattle.house_base.specs.Name.{is_name}
use Rattle.house_base.specs.Number.{number_up_to}
use Rattle.house_base.specs.Seed.{is_seed}
use Rattle.house_base.specs.declared.answer.Reason.{Reason}
use Rattle.house_base.specs.declared.answer.Reason.TheVariants as reason
use Rattle.house_base.specs.declared.limits.TheConstants.{MOST_APPLICANTS, MOST_SEATS, FEWEST_CLUSTERS, MOST_CLUSTERS, MOST_REVIEWS, MOST_OWN}
use Rattle.house_base.specs.Text.{Text, among}
use Rattle.peer_selection.specs.Profile.{is_valid}
use Rattle.house_model.specs.declared.goal.Goal.{Goal}
use Rattle.house_model.specs.declared.goal.Goal.TheVariants as goal
use Rattle.house_model.specs.declared.verb.Verb.{Verb}
use Rattle.house_model.specs.declared.verb.Verb.TheVariants as verb
use Rattle.house_model.specs.Text.{Lines, words, word}
use Rattle.house_model.specs.Verbs.{verb_in, commands, is_house, has_count, allows, is_hex64}
use Rattle.house_model.specs.Register.{Register, names, persons, own_count, placed_names, pair_among, all_placed}
use Rattle.house_model.specs.Said.{has, phase_after, clusters_of, applicant_in, register, denominator_of, setting, seal_of, has_pairs, run_pairs}
use Rattle.house_model.specs.Seeds.{seed_seal}

-- Why a line of the house may not come after the lines before it.

-- no call was made, and the line makes none
unfoldable pub lacks_call : Lines → Text → Bool
lacks_call before line = not (has verb.Call before || commands verb.Call line)

-- the command may come once, or not beside another
abbrev pub comes_again : Lines → Verb → Bool
comes_again before verb.Call = has verb.Call before
comes_again before verb.Place = has verb.Partition before
comes_again before verb.Partition = has verb.Place before || has verb.Partition before
comes_again before verb.Seal = has verb.Seal before
comes_again before v = false

unfoldable pub out_of_order : Lines → Text → Bool
out_of_order before line = not (allows (phase_after before) (verb_in line)) || comes_again before (verb_in line)

-- the line has no command or not its number of words, or a seal that is no digest
abbrev pub digest_is_formed : Verb → Text → Bool
digest_is_formed verb.Seal line = is_hex64 (word line 1)
digest_is_formed v line = true

unfoldable pub ill_formed : Text → Bool
ill_formed line = not (has_count (verb_in line) (length (words line))) || not (digest_is_formed (verb_in line) line)

-- whether the words that stand for names and seeds are of their form
abbrev pub names_are_formed : Verb → Text → Bool
names_are_formed verb.Applicant line = list_all is_name (drop 1 (words line))
names_are_formed verb.Conflict line = is_name (word line 1) && is_name (word line 2)
names_are_formed verb.Place line = is_name (word line 1)
names_are_formed verb.Partition line = is_seed (word line 1)
names_are_formed verb.Pair line = is_name (word line 1) && is_name (word line 2)
names_are_formed verb.Lottery line = is_seed (word line 1)
names_are_formed v line = true

-- a number within bounds
unfoldable pub is_within : ℕ → ℕ → Text → Bool
is_within low high w = option_map_or (nat_le low) (number_up_to high w) false

-- a number below a bound
unfoldable pub is_below : ℕ → Text → Bool
is_below bound w = option_map_or (λ n. nat_lt n bound) (number_up_to (2 ^ 64 - 1) w) false

-- whether the words that stand for numbers are within their bounds
abbrev pub numbers_are_in_range : Lines → Verb → Text → Bool
numbers_are_in_range before verb.Call line = is_within 1 MOST_SEATS (word line 1)
    && is_within FEWEST_CLUSTERS MOST_CLUSTERS (word line 2) && is_within 1 MOST_REVIEWS (word line 3)
numbers_are_in_range before verb.Place line = is_within 1 (clusters_of before) (word line 2)
numbers_are_in_range before verb.Draw line = is_below (denominator_of (register before)) (word line 1)
numbers_are_in_range before v line = true

-- the applicant, the person's place or the pair is there already
abbrev pub is_known : Register → Verb → Text → Bool
is_known reg verb.Applicant line = among (names reg) (word line 1)
is_known reg verb.Place line = among (placed_names reg) (word line 1)
is_known reg verb.Pair line = pair_among reg.pairs (word line 1) (word line 2)
is_known reg v line = false

-- a name that is no person's, or no applicant's
abbrev pub is_unknown : Register → Verb → Text → Bool
is_unknown reg verb.Conflict line = not (among (persons reg) (word line 1) && among (names reg) (word line 2))
is_unknown reg verb.Place line = not (among (persons reg) (word line 1))
is_unknown reg verb.Pair line = not (among (persons reg) (word line 1) && among (names reg) (word line 2))
is_unknown reg v line = false

-- as many applicants as there may be, or the person has as many as it may
abbrev pub is_too_many : Register → Verb → Text → Bool
is_too_many reg verb.Applicant line =
    nat_le MOST_APPLICANTS (length reg.applicants) || nat_le MOST_OWN (own_count reg (applicant_in line).1)
is_too_many reg v line = false

-- a draw that does not keep to the seal: one by number, or by a seed of another seal
abbrev pub breaks_seal : Lines → Verb → Text → Bool
breaks_seal before verb.Draw line = is_some (seal_of before)
breaks_seal before verb.Lottery line =
    option_map_or (λ seal. not (bytes_eq (seed_seal (word line 1)) seal)) (seal_of before) false
breaks_seal before v line = false

-- an assignment among nobody
abbrev pub is_few : Register → Verb → Bool
is_few reg verb.Assign = length reg.applicants == 0
is_few reg v = false

-- an assignment while the clusters are not drawn, and some person is put into none
abbrev pub is_unplaced : Lines → Verb → Bool
is_unplaced before verb.Assign = not (has verb.Partition before || all_placed (register before))
is_unplaced before v = false

-- whether a goal looks at the pairs
abbrev pub looks_at_pairs : Goal → Bool
looks_at_pairs goal.Run = true
looks_at_pairs goal.Pairs = true
looks_at_pairs goal.Feasible = false

-- a hand-made assignment that is not valid
abbrev pub is_invalid : Goal → Lines → Verb → Bool
is_invalid g before verb.Assign =
    looks_at_pairs g && has_pairs before && not (is_valid (setting before) (run_pairs before))
is_invalid g before v = false

-- the first of these reasons whose test holds
abbrev pub first_of_reasons : List (Reason × Bool) → Option Reason
first_of_reasons [] = None
first_of_reasons (r ∷ rs) = if r.1 then Some r.0 else first_of_reasons rs

-- the fault of a line of the house after the lines before it: the first reason that fits
unfoldable pub house_fault : Goal → Lines → Text → Option Reason
house_fault g before line = first_of_reasons (
    (reason.NoCall, lacks_call before line)
    ∷ (reason.Order, out_of_order before line)
    ∷ (reason.Form, ill_formed line)
    ∷ (reason.Name, not (names_are_formed (verb_in line) line))
    ∷ (reason.Range, not (numbers_are_in_range before (verb_in line) line))
    ∷ (reason.Known, is_known (register before) (verb_in line) line)
    ∷ (reason.Unknown, is_unknown (register before) (verb_in line) line)
    ∷ (reason.TooMany, is_too_many (register before) (verb_in line) line)
    ∷ (reason.Seal, breaks_seal before (verb_in line) line)
    ∷ (reason.Few, is_few (register before) (verb_in line))
    ∷ (reason.Unplaced, is_unplaced before (verb_in line))
    ∷ (reason.Invalid, is_invalid g before (verb_in line))
    ∷ [])

-- the fault of any line: blank lines and review lines have none
unfoldable pub fault : Goal → Lines → Text → Option Reason
fault g before line = if is_house line then house_fault g before line else None
