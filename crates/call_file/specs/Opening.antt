-- The opening lines of a call.
use Rattle.std.specs.Prelude.{ℕ, Bool, List, [], ◌∷◌, ◌++◌, map, filter, drop, Option, Some, None, Result, Ok, Err, codes, decimal, ◌==◌, ◌&&◌, not, option_map}
use Rattle.std.specs.List.{filter_map, flat_map, join_with_byte}
use Rattle.std.specs.Option.{option_map_or, option_to_list}
use Rattle.std.specs.Str.{bytes_eq}
use Rattle.toml.specs.Data.{Members}
use Rattle.house_base.specs.Text.{Text}
use Rattle.house_model.specs.Text.{Lines, words}
use Rattle.house_model.specs.declared.command.Command.{Command}
use Rattle.house_model.specs.declared.command.Command.TheVariants as command
use Rattle.command_text.specs.Printing.{command_line}
use Rattle.call_file.specs.declared.entry.Entry.{Entry}
use Rattle.call_file.specs.declared.fault.OpenFault.{OpenFault}
use Rattle.call_file.specs.declared.fault.OpenFault.TheVariants as fault
use Rattle.call_file.specs.declared.pass.Part.{Part}
use Rattle.call_file.specs.declared.pass.Part.TheVariants as part
use Rattle.call_file.specs.declared.settings.Version.{Version}
use Rattle.call_file.specs.declared.settings.Version.TheVariants as version
use Rattle.call_file.specs.Keys.{Said, bad_key, document, said_in}
use Rattle.call_file.specs.Records.{rows_of}
use Rattle.call_file.specs.Register.{Fields, bad_record, conflicts_field, entry_of}

-- a person and its cluster
abbrev pub Place : Type 0
Place = Text × ℕ

abbrev pub same_place : Place → Place → Bool
same_place a b = bytes_eq a.0 b.0 && (a.1 == b.1)

-- the places without those that came before
abbrev pub each_once : List Place → List Place
each_once [] = []
each_once (p ∷ ps) = p ∷ filter (λ q. not (same_place p q)) (each_once ps)

-- the place that an applicant's record gives to its person
abbrev pub place_of : Entry → Option Place
place_of entry = option_map (λ cluster. (entry.person, cluster)) entry.cluster

-- the places that are given: in the second version each once
abbrev pub given_places : Version → List Place → List Place
given_places version.First places = places
given_places version.Second places = each_once places

-- the commands of the records below the header
abbrev pub applicant_of : Version → Fields → Command
applicant_of v fields = command.Applicant (entry_of v fields).name (entry_of v fields).person

abbrev pub place_command : Place → Command
place_command p = command.Place p.0 p.1

abbrev pub places_of : Version → List Fields → List Place
places_of v rows = filter_map (λ fields. place_of (entry_of v fields)) rows

abbrev pub conflicts_of : Version → Fields → List Command
conflicts_of v fields = map (command.Conflict (entry_of v fields).person) (words (conflicts_field v fields))

-- the commands of one part of the opening
unfoldable pub commands_of : Part → Version → List Fields → List Command
commands_of part.Applicants v rows = map (applicant_of v) rows
commands_of part.Places v rows = map place_command (given_places v (places_of v rows))
commands_of part.Conflicts v rows = flat_map (conflicts_of v) rows

-- the line of the call
abbrev pub call_line : Said → Text
call_line said =
    join_with_byte 32 (codes "call" ∷ decimal said.seats ∷ decimal said.clusters ∷ decimal said.reviews ∷ [])

-- the commands behind the call: the applicants, the seed from which the clusters are drawn, the places, the conflicts,
-- and the digest to which the lottery has to keep
unfoldable pub commands_behind : Said → List Fields → List Command
commands_behind said rows =
    commands_of part.Applicants said.version rows
    ++ option_to_list (option_map command.Partition said.partition)
    ++ commands_of part.Places said.version rows
    ++ commands_of part.Conflicts said.version rows
    ++ option_to_list (option_map command.Seal said.seal)

-- what a call file says, or why it is refused
abbrev pub said_or_refused : Option Members → Result Said OpenFault
said_or_refused None = Err fault.BadToml
said_or_refused (Some table) = option_map_or (λ k. Err (fault.BadKey k)) (bad_key table) (Ok (said_in table))

unfoldable pub read_call : Text → Result Said OpenFault
read_call call = said_or_refused (document call)

-- the opening lines of a register with what the call file says, or the record that is refused
unfoldable pub lines_in : Said → Text → Result Lines OpenFault
lines_in said register =
    option_map_or (λ number. Err (fault.BadRegister number)) (bad_record said (rows_of register))
    (Ok (call_line said ∷ map command_line (commands_behind said (drop 1 (rows_of register)))))

abbrev pub lines_by : Result Said OpenFault → Text → Result Lines OpenFault
lines_by (Ok said) register = lines_in said register
lines_by (Err refused) register = Err refused

-- the opening lines of a call file and a register, or the first refusal
unfoldable pub opened : Text → Text → Result Lines OpenFault
opened call register = lines_by (read_call call) register
