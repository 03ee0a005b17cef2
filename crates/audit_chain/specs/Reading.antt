-- What was taken in of an audit, where all its rows so far are of the form.
use Rattle.std.specs.Prelude.{◌≡◌, ℕ, ◌+◌, ◌&&◌, ◌||◌, ◌≤◌, Bool, List, [], Some, None, is_some, length, nat_lt, if◌then◌else◌}
use Rattle.std.specs.Option.{option_to_list}
use Rattle.serde_json.specs.Data.{Data}
use Rattle.house_base.specs.Text.{Text}
use Rattle.house_model.specs.Text.{Lines}
use Rattle.house_model.specs.declared.limits.TheConstants.{MOST_LINES}
use Rattle.audit_chain.specs.File.{first_misfit, is_reported, lines_of, version_of}
use Rattle.audit_chain.specs.Form.{is_report_value, line_named}

-- these rows are of the form, and of this version; they say these lines, and the report stands among them or does not
pub record HasRead (rows : List Text) (version : ℕ) (lines : Lines) (ended : Bool) : Type 0 where
  pub all_fit : first_misfit rows ≡ None
  pub version_is : version_of rows ≡ Some version
  pub lines_are : lines_of rows ≡ lines
  pub ended_is : is_reported rows ≡ ended
  pub count : length rows ≡ length lines + (if ended then 2 else 1)
  pub few : length lines ≤ MOST_LINES

-- a row with this value is of the form behind a header and these lines
abbrev pub fits_after : ℕ → Lines → Data → Bool
fits_after version lines value =
    is_report_value value || (nat_lt (length lines) MOST_LINES && is_some (line_named version value))

-- the line that the value of a further row adds: none where it is the report
abbrev pub line_added : ℕ → Data → Lines
line_added version value = if is_report_value value then [] else option_to_list (line_named version value)
