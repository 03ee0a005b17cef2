use Rattle.house_model.specs.declared.command.Command.{Command}
use Rattle.house_model.specs.declared.command.Command.TheVariants as command
use Rattle.house_model.specs.declared.verb.Verb.{Verb}
use Rattle.house_model.specs.declared.verb.Verb.TheVariants as verb

-- what a command is called
abbrev pub verb_of_command : Command → Verb
verb_of_command (command.Call call) = verb.Call
verb_of_command (command.Applicant name person) = verb.Applicant
verb_of_command (command.Conflict person proposal) = verb.Conflict
verb_of_command (command.Place person cluster) = verb.Place
verb_of_command (command.Partition seed) = verb.Partition
verb_of_command (command.Pair person proposal) = verb.Pair
verb_of_command (command.Seal digest) = verb.Seal
verb_of_command command.Assign = verb.Assign
verb_of_command command.Close = verb.Close
verb_of_command (command.Draw n) = verb.Draw
verb_of_command (command.Lottery seed) = verb.Lottery
