-- The same of the words that follow the first, for the parts that read them.
use Rattle.std.specs.Prelude.{◌≡◌, ℕ, suc, ◌^◌, ◌-◌, Bool, true, false, Result, Ok, Err, List, [], length, slice_get, ◌==◌, ◌&&◌, not, ◌||◌, if◌then◌else◌}
use Rattle.std.specs.List.{list_all}
use Rattle.std.specs.Option.{option_map_or}
use Rattle.hex.specs.Hex.{decode_of}
use Rattle.house_base.specs.Name.{is_name}
use Rattle.house_base.specs.Seed.{is_seed}
use Rattle.house_base.specs.declared.limits.TheConstants.{MOST_SEATS, FEWEST_CLUSTERS, MOST_CLUSTERS, MOST_REVIEWS}
use Rattle.house_base.specs.declared.answer.Reason.{Reason}
use Rattle.house_base.specs.declared.answer.Reason.TheVariants as reason
use Rattle.house_base.specs.Text.{Text}
use Rattle.house_model.specs.declared.command.Command.{Command}
use Rattle.house_model.specs.declared.command.Command.TheVariants as command
use Rattle.house_model.specs.declared.verb.Verb.{Verb}
use Rattle.house_model.specs.declared.verb.Verb.TheVariants as verb
use Rattle.house_model.specs.Commands.{verb_of_command}
use Rattle.house_model.specs.Faults.{is_within}
use Rattle.house_model.specs.Said.{number}
use Rattle.house_model.specs.Verbs.{has_count, is_hex64}

-- the word at an index among those that follow the first; the empty word where there is none
abbrev pub argument : List Text → ℕ → Text
argument args i = option_map_or (λ w. w) (slice_get args i) []

-- not the command's number of words, or a seal that is no digest
abbrev pub are_ill_formed : Verb → List Text → Bool
are_ill_formed verb.Seal args = not (has_count verb.Seal (suc (length args))) || not (is_hex64 (argument args 0))
are_ill_formed v args = not (has_count v (suc (length args)))

-- a name or a seed that is off its form
abbrev pub are_misnamed : Verb → List Text → Bool
are_misnamed verb.Applicant args = not (list_all is_name args)
are_misnamed verb.Conflict args = not (is_name (argument args 0) && is_name (argument args 1))
are_misnamed verb.Place args = not (is_name (argument args 0))
are_misnamed verb.Partition args = not (is_seed (argument args 0))
are_misnamed verb.Pair args = not (is_name (argument args 0) && is_name (argument args 1))
are_misnamed verb.Lottery args = not (is_seed (argument args 0))
are_misnamed v args = false

-- a number that is not canonical or off the bounds that no call narrows
abbrev pub are_out_of_range : Verb → List Text → Bool
are_out_of_range verb.Call args = not (is_within 1 MOST_SEATS (argument args 0)
    && is_within FEWEST_CLUSTERS MOST_CLUSTERS (argument args 1) && is_within 1 MOST_REVIEWS (argument args 2))
are_out_of_range verb.Place args = not (is_within 1 MOST_CLUSTERS (argument args 1))
are_out_of_range verb.Draw args = not (is_within 0 (2 ^ 64 - 1) (argument args 0))
are_out_of_range v args = false

-- the command has what these words say
abbrev pub Says : Command → List Text → Type 0
Says (command.Call call) args =
    (call.seats ≡ number (argument args 0)) × (call.clusters ≡ number (argument args 1))
    × (call.reviews ≡ number (argument args 2))
Says (command.Applicant name person) args =
    (name ≡ argument args 0) × (person ≡ (if length args == 1 then argument args 0 else argument args 1))
Says (command.Conflict person proposal) args = (person ≡ argument args 0) × (proposal ≡ argument args 1)
Says (command.Place person cluster) args = (person ≡ argument args 0) × (cluster ≡ number (argument args 1))
Says (command.Partition seed) args = seed ≡ argument args 0
Says (command.Pair person proposal) args = (person ≡ argument args 0) × (proposal ≡ argument args 1)
Says (command.Seal digest) args = decode_of (argument args 0) ≡ Ok digest
Says command.Assign args = Unit {0}
Says command.Close args = Unit {0}
Says (command.Draw n) args = n ≡ number (argument args 0)
Says (command.Lottery seed) args = seed ≡ argument args 0

-- a command that is read from the words that follow it
pub record IsSaid (v : Verb) (args : List Text) (c : Command) : Type 0 where
  pub verb : verb_of_command c ≡ v
  pub formed : are_ill_formed v args ≡ false
  pub named : are_misnamed v args ≡ false
  pub in_range : are_out_of_range v args ≡ false
  pub says : Says c args

-- why none is read: the first of form, name and range
abbrev pub IsFaulty : Verb → List Text → Reason → Type 0
IsFaulty v args reason.Form = are_ill_formed v args ≡ true
IsFaulty v args reason.Name = (are_ill_formed v args ≡ false) × (are_misnamed v args ≡ true)
IsFaulty v args reason.Range =
    (are_ill_formed v args ≡ false) × (are_misnamed v args ≡ false) × (are_out_of_range v args ≡ true)
IsFaulty v args r = ⊥

abbrev pub ReadsAs : Verb → List Text → Result Command Reason → Type 0
ReadsAs v args (Ok c) = IsSaid v args c
ReadsAs v args (Err r) = IsFaulty v args r
