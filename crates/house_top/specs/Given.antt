-- What a call of the program is given.
use Rattle.std.specs.Prelude.{List, [], map, Option, Some, None, Result, Ok, Err, option_and_then, if◌then◌else◌}
use Rattle.std.specs.FinMap.{get}
use Rattle.std.specs.Option.{option_map}
use Rattle.house_io.specs.Files.{Contents}
use Rattle.house_base.specs.Text.{Text}
use Rattle.house_model.specs.declared.goal.Goal.TheVariants as goal
use Rattle.house_model.specs.Runs.{ends_run}
use Rattle.house_model.specs.Text.{Lines}
use Rattle.house_top.specs.declared.form.Form.{Form}
use Rattle.house_top.specs.declared.form.Form.TheVariants as form
use Rattle.house_top.specs.declared.status.Status.{Status}
use Rattle.house_top.specs.Opening.{file_at, loaded, opening_of}
use Rattle.house_top.specs.Words.{form_of, names_in}

-- the bytes of the input, and of the file of each word behind the first, where there is such a file
pub record Given : Type 0 where
  pub input : Text
  pub files : List (Option Text)

-- an input, and no files
abbrev pub input_alone : Text → Given
input_alone input = record { input = input; files = [] }

-- files, and an input that is not looked at
abbrev pub files_alone : List (Option Text) → Given
files_alone files = record { input = []; files = files }

-- what the files of these names hold
abbrev pub held : List Text → Contents → List (Option Text)
held names files = map (get files) names

-- an input as far as it is looked at behind opening lines: not where one of them ends the run
abbrev pub input_behind : Lines → Option Text → Option Text
input_behind opening input = if ends_run goal.Run opening then Some [] else input

-- what is given with these files, by what they open a run with
abbrev pub told_behind : Result Lines Status → Option Text → List (Option Text) → Option Given
told_behind (Ok opening) input files =
    option_map (λ bytes. record { input = bytes; files = files }) (input_behind opening input)
told_behind (Err s) input files = Some (record { input = []; files = files })

-- what is given with these files, by what was loaded of one of them; without it the input is not looked at
abbrev pub told_with_file : Result Text Status → Option Text → List (Option Text) → Option Given
told_with_file (Ok bytes) input files = option_map (λ input. record { input = input; files = files }) input
told_with_file (Err s) input files = Some (files_alone files)

-- What a call is given, where all that its words look at is told: of the input, and of the files with these names. What
-- they do not look at counts as empty.
abbrev pub told : Option Form → List Text → Option Text → Option Contents → Option Given
told None names input files = Some (input_alone [])
told (Some (form.Input g)) names input files = option_map input_alone input
told (Some form.Audit) names input files = option_map input_alone input
told (Some (form.Slip name)) names input files = option_map input_alone input
told (Some form.Opened) names input files =
    option_and_then (λ files. told_behind (opening_of (held names files)) input (held names files)) files
told (Some (form.Judged document)) names input files = option_map (λ files. files_alone (held names files)) files
told (Some form.Join) names input files = option_map (λ files. files_alone (held names files)) files
told (Some form.Reserve) names input files =
    option_and_then (λ files. told_with_file (loaded (file_at (held names files) 0)) input (held names files)) files

-- what a call with these words is given, where all that they look at is told
abbrev pub given_by : List Text → Option Text → Option Contents → Option Given
given_by words input files = told (form_of words) (names_in words) input files
