use Rattle.std.specs.Prelude.{ℕ, Bool, true, false, length, codes, ◌==◌, ◌&&◌, ◌||◌, nat_le, not, if◌then◌else◌}
use Rattle.std.specs.List.{list_all}
use Rattle.std.specs.Str.{bytes_eq}
use Rattle.house_base.specs.declared.phase.Phase.{Phase}
use Rattle.house_base.specs.declared.phase.Phase.TheVariants as phase
use Rattle.house_base.specs.Text.{Text}
use Rattle.house_model.specs.declared.verb.Verb.{Verb}
use Rattle.house_model.specs.declared.verb.Verb.TheVariants as verb
use Rattle.house_model.specs.Text.{is_blank, word}

-- what a word commands
unfoldable pub verb_of : Text → Verb
verb_of w =
    if bytes_eq w (codes "call") then verb.Call
    else if bytes_eq w (codes "applicant") then verb.Applicant
    else if bytes_eq w (codes "conflict") then verb.Conflict
    else if bytes_eq w (codes "place") then verb.Place
    else if bytes_eq w (codes "partition") then verb.Partition
    else if bytes_eq w (codes "pair") then verb.Pair
    else if bytes_eq w (codes "seal") then verb.Seal
    else if bytes_eq w (codes "assign") then verb.Assign
    else if bytes_eq w (codes "close") then verb.Close
    else if bytes_eq w (codes "draw") then verb.Draw
    else if bytes_eq w (codes "lottery") then verb.Lottery
    else verb.Other

-- what a line commands
unfoldable pub verb_in : Text → Verb
verb_in line = verb_of (word line 0)

-- a number for each command
abbrev pub verb_number : Verb → ℕ
verb_number verb.Call = 0
verb_number verb.Applicant = 1
verb_number verb.Conflict = 2
verb_number verb.Place = 3
verb_number verb.Partition = 4
verb_number verb.Pair = 5
verb_number verb.Seal = 6
verb_number verb.Assign = 7
verb_number verb.Close = 8
verb_number verb.Draw = 9
verb_number verb.Lottery = 10
verb_number verb.Other = 11

-- whether a line has this command
abbrev pub commands : Verb → Text → Bool
commands v line = verb_number (verb_in line) == verb_number v

-- a line that brings points for a proposal
unfoldable pub is_review : Text → Bool
is_review line = bytes_eq (word line 0) (codes "review")

-- every line that is neither blank nor a review line
unfoldable pub is_house : Text → Bool
is_house line = not (is_blank line) && not (is_review line)

-- the numbers of words that a command may have, itself among them
abbrev pub has_count : Verb → ℕ → Bool
has_count verb.Call n = n == 4
has_count verb.Applicant n = n == 2 || n == 3
has_count verb.Conflict n = n == 3
has_count verb.Place n = n == 3
has_count verb.Partition n = n == 2
has_count verb.Pair n = n == 3
has_count verb.Seal n = n == 2
has_count verb.Assign n = n == 1
has_count verb.Close n = n == 1
has_count verb.Draw n = n == 2
has_count verb.Lottery n = n == 2
has_count verb.Other n = false

-- whether a phase allows a command
abbrev pub allows : Phase → Verb → Bool
allows phase.Opening verb.Close = false
allows phase.Opening verb.Draw = false
allows phase.Opening verb.Lottery = false
allows phase.Opening v = true
allows phase.Reviewing verb.Close = true
allows phase.Reviewing verb.Other = true
allows phase.Reviewing v = false
allows phase.Closed verb.Draw = true
allows phase.Closed verb.Lottery = true
allows phase.Closed verb.Other = true
allows phase.Closed v = false
allows phase.Drawn verb.Other = true
allows phase.Drawn v = false

-- a digest in hexadecimal: 64 digits of 0-9 and a-f
unfoldable pub is_hex64 : Text → Bool
is_hex64 w = length w == 64 && list_all (λ b. (nat_le 48 b && nat_le b 57) || (nat_le 97 b && nat_le b 102)) w
