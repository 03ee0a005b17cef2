-- The text of a command.
use Rattle.std.specs.Prelude.{◌≡◌, ◌^◌, ◌≤◌, ◌<◌, List, [], ◌∷◌, IsTrue, codes, decimal, length, if◌then◌else◌}
use Rattle.std.specs.List.{join_with_byte}
use Rattle.std.specs.Str.{bytes_eq}
use Rattle.hex.specs.Hex.{IsBytes, encode_lower}
use Rattle.house_base.specs.Name.{is_name}
use Rattle.house_base.specs.Seed.{is_seed}
use Rattle.house_base.specs.declared.limits.TheConstants.{MOST_CLUSTERS}
use Rattle.house_base.specs.Text.{Text}
use Rattle.house_model.specs.declared.command.Command.{Command}
use Rattle.house_model.specs.declared.command.Command.TheVariants as command

-- the words of a command; a person that is the applicant's name is left out
abbrev pub command_words : Command → List Text
command_words (command.Call call) =
    codes "call" ∷ decimal call.seats ∷ decimal call.clusters ∷ decimal call.reviews ∷ []
command_words (command.Applicant name person) =
    codes "applicant" ∷ name ∷ (if bytes_eq name person then [] else person ∷ [])
command_words (command.Conflict person proposal) = codes "conflict" ∷ person ∷ proposal ∷ []
command_words (command.Place person cluster) = codes "place" ∷ person ∷ decimal cluster ∷ []
command_words (command.Partition seed) = codes "partition" ∷ seed ∷ []
command_words (command.Pair person proposal) = codes "pair" ∷ person ∷ proposal ∷ []
command_words (command.Seal digest) = codes "seal" ∷ encode_lower digest ∷ []
command_words command.Assign = codes "assign" ∷ []
command_words command.Close = codes "close" ∷ []
command_words (command.Draw n) = codes "draw" ∷ decimal n ∷ []
command_words (command.Lottery seed) = codes "lottery" ∷ seed ∷ []

-- the line of a command: its words with one space between them
unfoldable pub command_line : Command → Text
command_line c = join_with_byte 32 (command_words c)

-- what the type of a command says: names and seeds are of their form, and numbers and digests are of their size
abbrev pub IsFormed : Command → Type 0
IsFormed (command.Applicant name person) = IsTrue (is_name name) × IsTrue (is_name person)
IsFormed (command.Conflict person proposal) = IsTrue (is_name person) × IsTrue (is_name proposal)
IsFormed (command.Place person cluster) = IsTrue (is_name person)
IsFormed (command.Partition seed) = IsTrue (is_seed seed)
IsFormed (command.Pair person proposal) = IsTrue (is_name person) × IsTrue (is_name proposal)
IsFormed (command.Seal digest) = (length digest ≡ 32) × IsBytes digest
IsFormed (command.Draw n) = n < 2 ^ 64
IsFormed (command.Lottery seed) = IsTrue (is_seed seed)
IsFormed c = Unit {0}

-- the bounds that a line has to keep to whatever the call is
abbrev pub IsInBounds : Command → Type 0
IsInBounds (command.Place person cluster) = (1 ≤ cluster) × (cluster ≤ MOST_CLUSTERS)
IsInBounds c = Unit {0}
