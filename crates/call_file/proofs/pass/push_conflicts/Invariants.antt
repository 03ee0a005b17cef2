use Rattle.std.proofs.Common.{◌≡◌, true, ◌++◌, length, map}
use Rattle.std.specs.List.{list_all}
use Rattle.house_base.specs.Name.{is_name}
use Rattle.house_model.specs.Text.{words}
use Rattle.house_model.specs.declared.command.Command.TheVariants as command
use Rattle.command_text.specs.Printing.{command_line}
use Rattle.call_file.proofs.pass.push_conflicts.Given as goal

-- the lines so far, with those of the words to come, are those of all words, which are names
abbrev pub invariant-loop-word : goal.invariant-loop-word
invariant-loop-word l =
    record {
      names : list_all is_name (words l.rest) ≡ true;
      lines : l.opening ++ map command_line (map (command.Conflict l.person) (words l.rest)) ≡ l.fn.opening ++ map command_line (map (command.Conflict l.person) (words l.names));
    }

abbrev pub decreases-loop-word : goal.decreases-loop-word
decreases-loop-word l = length (words l.rest)
