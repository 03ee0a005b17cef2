-- What a line is by itself, whatever came before it.
use Rattle.std.specs.Prelude.{◌≡◌, ◌^◌, ◌-◌, Bool, true, false, Option, Some, None, Ok, length, ◌==◌, ◌&&◌, not, if◌then◌else◌}
use Rattle.hex.specs.Hex.{decode_of}
use Rattle.house_base.specs.Name.{is_name}
use Rattle.house_base.specs.Number.{number_up_to}
use Rattle.house_base.specs.declared.limits.TheConstants.{MOST_SEATS, FEWEST_CLUSTERS, MOST_CLUSTERS, MOST_REVIEWS, MOST_POINTS}
use Rattle.house_base.specs.declared.answer.Reason.{Reason}
use Rattle.house_base.specs.declared.answer.Reason.TheVariants as reason
use Rattle.house_base.specs.declared.review.ReviewLine.{ReviewLine}
use Rattle.house_base.specs.Text.{Text}
use Rattle.house_model.specs.declared.command.Command.{Command}
use Rattle.house_model.specs.declared.command.Command.TheVariants as command
use Rattle.house_model.specs.declared.verb.Verb.{Verb}
use Rattle.house_model.specs.declared.verb.Verb.TheVariants as verb
use Rattle.house_model.specs.Commands.{verb_of_command}
use Rattle.house_model.specs.Faults.{ill_formed, is_within, names_are_formed}
use Rattle.house_model.specs.Said.{number, applicant_in, pair_in, place_in}
use Rattle.house_model.specs.Text.{words, word, is_blank}
use Rattle.house_model.specs.Verbs.{verb_in, is_house, is_review}
use Rattle.command_text.specs.declared.line.Line.{Line}
use Rattle.command_text.specs.declared.line.Line.TheVariants as kind

-- whether the words that stand for numbers are canonical and within the bounds that no call narrows
abbrev pub numbers_are_within : Verb → Text → Bool
numbers_are_within verb.Call line = is_within 1 MOST_SEATS (word line 1)
    && is_within FEWEST_CLUSTERS MOST_CLUSTERS (word line 2) && is_within 1 MOST_REVIEWS (word line 3)
numbers_are_within verb.Place line = is_within 1 MOST_CLUSTERS (word line 2)
numbers_are_within verb.Draw line = is_within 0 (2 ^ 64 - 1) (word line 1)
numbers_are_within v line = true

-- the first of form, name and range that fits a line of the house, if one does
unfoldable pub reading_fault : Text → Option Reason
reading_fault line =
    if ill_formed line then Some reason.Form
    else if not (names_are_formed (verb_in line) line) then Some reason.Name
    else if not (numbers_are_within (verb_in line) line) then Some reason.Range
    else None

-- the command has what the line's words say
abbrev pub Carries : Command → Text → Type 0
Carries (command.Call call) line =
    (call.seats ≡ number (word line 1)) × (call.clusters ≡ number (word line 2)) × (call.reviews ≡ number (word line 3))
Carries (command.Applicant name person) line = (name, person) ≡ applicant_in line
Carries (command.Conflict person proposal) line = (person, proposal) ≡ pair_in line
Carries (command.Place person cluster) line = (person, cluster) ≡ place_in line
Carries (command.Partition seed) line = seed ≡ word line 1
Carries (command.Pair person proposal) line = (person, proposal) ≡ pair_in line
Carries (command.Seal digest) line = decode_of (word line 1) ≡ Ok digest
Carries command.Assign line = Unit {0}
Carries command.Close line = Unit {0}
Carries (command.Draw n) line = n ≡ number (word line 1)
Carries (command.Lottery seed) line = seed ≡ word line 1

-- the name that a word spells, if it is of the form of a name
abbrev pub name_in : Text → Option Text
name_in w = if is_name w then Some w else None

-- the words of a review line
abbrev pub review_in : Text → ReviewLine
review_in line = record {
  whole = length (words line) == 4;
  reviewer = name_in (word line 1);
  proposal = name_in (word line 2);
  points = number_up_to MOST_POINTS (word line 3);
}

-- a line of the house without a fault of its own, and the command that its words say
pub record IsCommandLine (line : Text) (c : Command) : Type 0 where
  pub house : is_house line ≡ true
  pub no_fault : reading_fault line ≡ None
  pub verb : verb_of_command c ≡ verb_in line
  pub carries : Carries c line

-- a line of the house with a fault of its own
pub record IsBadLine (line : Text) (v : Verb) (r : Reason) : Type 0 where
  pub house : is_house line ≡ true
  pub verb : v ≡ verb_in line
  pub fault : reading_fault line ≡ Some r

-- what a line is read as
abbrev pub Reads : Text → Line → Type 0
Reads line kind.Blank = is_blank line ≡ true
Reads line (kind.Review r) = (is_blank line ≡ false) × (is_review line ≡ true) × (r ≡ review_in line)
Reads line (kind.House c) = IsCommandLine line c
Reads line (kind.Bad v r) = IsBadLine line v r

-- a line is read as this, and as nothing else
pub record ReadsOnlyAs (line : Text) (answer : Line) : Type 0 where
  pub reads : Reads line answer
  pub once : (other : Line) → Reads line other → other ≡ answer
