-- What a call file and a register open a run with.
use Rattle.std.specs.Prelude.{ℕ, List, Option, Some, None, Result, Ok, Err, length, nat_le, slice_get, option_and_then, if◌then◌else◌}
use Rattle.call_file.specs.Opening.{opened}
use Rattle.call_file.specs.declared.fault.OpenFault.{OpenFault}
use Rattle.call_file.specs.declared.fault.OpenFault.TheVariants as fault
use Rattle.house_base.specs.Text.{Text}
use Rattle.house_model.specs.declared.limits.TheConstants.{MOST_BYTES}
use Rattle.house_model.specs.Text.{Lines}
use Rattle.house_top.specs.declared.bad.Bad.TheVariants as bad
use Rattle.house_top.specs.declared.status.Status.{Status}
use Rattle.house_top.specs.declared.status.Status.TheVariants as status

-- the file at an index, counted from 0; nothing where there is none
abbrev pub file_at : List (Option Text) → ℕ → Option Text
file_at files index = option_and_then (λ file. file) (slice_get files index)

-- the bytes of a file within a limit, or the status with which a call ends without them
abbrev pub loaded_within : ℕ → Option Text → Result Text Status
loaded_within most None = Err status.ReadFault
loaded_within most (Some bytes) = if nat_le (length bytes) most then Ok bytes else Err status.TooLong

-- the same within the limit of an input
abbrev pub loaded : Option Text → Result Text Status
loaded file = loaded_within MOST_BYTES file

-- the status with which a call ends where its call file or its register is refused
abbrev pub status_of_refusal : OpenFault → Status
status_of_refusal fault.BadToml = status.BadFile bad.Toml
status_of_refusal (fault.BadKey key) = status.BadFile (bad.Key key)
status_of_refusal (fault.BadRegister number) = status.BadFile (bad.Entry number)
status_of_refusal fault.Memory = status.Memory

-- the opening lines of a call, or the status with which it ends without them
abbrev pub by_grammar : Result Lines OpenFault → Result Lines Status
by_grammar (Ok lines) = Ok lines
by_grammar (Err refused) = Err (status_of_refusal refused)

-- both files are loaded before one of them is looked at
abbrev pub opened_by : Result Text Status → Result Text Status → Result Lines Status
opened_by (Ok call) (Ok register) = by_grammar (opened call register)
opened_by (Ok call) (Err s) = Err s
opened_by (Err s) register = Err s

-- what the first two files open a run with: the opening lines, or the status with which the call ends without them
unfoldable pub opening_of : List (Option Text) → Result Lines Status
opening_of files = opened_by (loaded (file_at files 0)) (loaded (file_at files 1))
