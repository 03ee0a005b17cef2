-- The parts of the opening, one behind the other.
use Rattle.std.proofs.Common.{◌≡◌, List, [], ◌∷◌, ◌++◌, map, option_map, refl, sym, ap, ◌∙◌}
use Rattle.std.specs.Option.{option_to_list}
use Rattle.std.proofs.lemmas.List.{map-append}
use Rattle.house_base.specs.declared.call.Call.{Call}
use Rattle.house_model.specs.Text.{Lines}
use Rattle.house_model.specs.declared.command.Command.{Command}
use Rattle.house_model.specs.declared.command.Command.TheVariants as command
use Rattle.command_text.specs.Printing.{command_line}
use Rattle.call_file.specs.declared.pass.Part.TheVariants as part
use Rattle.call_file.specs.declared.settings.Settings.{Settings}
use Rattle.call_file.specs.Keys.{Said, said_by}
use Rattle.call_file.specs.Opening.{call_line, commands_behind, commands_of}
use Rattle.call_file.specs.Register.{Fields}

-- the lines of five parts are those of all commands
pub five_parts : (a s p c d : List Command) → map command_line ((((a ++ s) ++ p) ++ c) ++ d) ≡ (((map command_line a ++ map command_line s) ++ map command_line p) ++ map command_line c) ++ map command_line d
five_parts a s p c d =
    map-append command_line (((a ++ s) ++ p) ++ c) d
    ∙ ap (λ ls. ls ++ map command_line d) (
    map-append command_line ((a ++ s) ++ p) c
    ∙ ap (λ ls. ls ++ map command_line c) (
    map-append command_line (a ++ s) p
    ∙ ap (λ ls. ls ++ map command_line p) (map-append command_line a s)))

-- the lines of an opening, as its parts are pushed one behind the other
pub all_parts : (said : Said) (call : Call) (rows : List Fields) (one two three four five six : Lines) →
    call_line said ≡ command_line (command.Call call) → one ≡ [] ++ command_line (command.Call call) ∷ [] →
    two ≡ one ++ map command_line (commands_of part.Applicants said.version rows) →
    three ≡ two ++ map command_line (option_to_list (option_map command.Partition said.partition)) →
    four ≡ three ++ map command_line (commands_of part.Places said.version rows) →
    five ≡ four ++ map command_line (commands_of part.Conflicts said.version rows) →
    six ≡ five ++ map command_line (option_to_list (option_map command.Seal said.seal)) →
    six ≡ call_line said ∷ map command_line (commands_behind said rows)
unfolding commands_behind
all_parts said call rows one two three four five six first a s p c d e =
    let pushed : six ≡ ((((([] ++ command_line (command.Call call) ∷ []) ++ map command_line (commands_of part.Applicants said.version rows)) ++ map command_line (option_to_list (option_map command.Partition said.partition))) ++ map command_line (commands_of part.Places said.version rows)) ++ map command_line (commands_of part.Conflicts said.version rows)) ++ map command_line (option_to_list (option_map command.Seal said.seal)) =
    cc in
    pushed
    ∙ ap (λ line. line ∷ ((((map command_line (commands_of part.Applicants said.version rows) ++ map command_line (option_to_list (option_map command.Partition said.partition))) ++ map command_line (commands_of part.Places said.version rows)) ++ map command_line (commands_of part.Conflicts said.version rows)) ++ map command_line (option_to_list (option_map command.Seal said.seal)))) (sym first)
    ∙ ap (λ ls. call_line said ∷ ls) (sym (five_parts (commands_of part.Applicants said.version rows) (option_to_list (option_map command.Partition said.partition)) (commands_of part.Places said.version rows) (commands_of part.Conflicts said.version rows) (option_to_list (option_map command.Seal said.seal))))

-- the line of the call is that of its command
pub call_line-Call : (settings : Settings) → call_line (said_by settings) ≡ command_line (command.Call settings.call)
unfolding command_line
call_line-Call settings = refl
