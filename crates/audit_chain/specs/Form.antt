-- What a row of an audit says, where it is of the form.
use Rattle.std.specs.Prelude.{ℕ, ◌&&◌, ◌||◌, ◌==◌, Bool, false, Option, Some, None, is_some, option_and_then, length, codes, if◌then◌else◌}
use Rattle.std.specs.List.{list_all, list_any}
use Rattle.std.specs.Option.{option_map_or}
use Rattle.std.specs.Result.{result_ok}
use Rattle.std.specs.Str.{bytes_eq, is_utf8}
use Rattle.hex.specs.Hex.{decode_of, is_hex_digit}
use Rattle.serde_json.specs.Data.{Data}
use Rattle.serde_json.specs.Events.{members_len}
use Rattle.serde_json.specs.Find.{get, as_str, as_number, as_u64, as_object}
use Rattle.serde_json.specs.Read.{read}
use Rattle.house_base.specs.Text.{Text}
use Rattle.audit_chain.specs.Chain.{all_marks, format_name, mark_word}

-- the value that a row is as JSON, where it is one
unfoldable pub value_of : Text → Option Data
value_of row = if is_utf8 row then read row else None

-- the text under a key
abbrev pub text_at : Text → Data → Option Text
text_at key value = option_and_then as_str (get key value)

-- the whole number of 64 bits under a key, without sign, point and exponent
abbrev pub number_at : Text → Data → Option ℕ
number_at key value = option_and_then as_u64 (option_and_then as_number (get key value))

-- a value is an object with so many members
abbrev pub has_members : ℕ → Data → Bool
has_members count value = option_map_or (λ members. members_len members == count) (as_object value) false

-- the name of the format stands where it has to
abbrev pub names_the_format : Data → Bool
names_the_format value = option_map_or (λ name. bytes_eq name format_name) (text_at (codes "format") value) false

-- a version that there is
abbrev pub known_version : ℕ → Option ℕ
known_version n = if (n == 1) || (n == 2) then Some n else None

-- the version that the value of a first row names
unfoldable pub version_named : Data → Option ℕ
version_named value =
    if has_members 2 value && names_the_format value
    then option_and_then known_version (number_at (codes "version") value) else None

-- the value of a last row
unfoldable pub is_report_value : Data → Bool
is_report_value value = has_members 1 value && is_some (text_at (codes "report") value)

-- 64 digits in hexadecimal, in either case
abbrev pub is_digest_text : Text → Bool
is_digest_text text = (length text == 64) && list_all is_hex_digit text

-- one of the seven words for what became of a line
abbrev pub is_mark_word : Text → Bool
is_mark_word word = list_any (λ mark. bytes_eq word (mark_word mark)) all_marks

-- the word for what became of a line stands where it has to
abbrev pub has_mark : Data → Bool
has_mark value = option_map_or is_mark_word (text_at (codes "aside") value) false

-- the digits of a digest stand where they have to
abbrev pub has_digest : Data → Bool
has_digest value = option_map_or is_digest_text (text_at (codes "digest") value) false

-- the value has a mark, a digest, a number, and one more member
unfoldable pub is_line_value : Data → Bool
is_line_value value =
    has_members 4 value && has_mark value && has_digest value && is_some (number_at (codes "line") value)

-- the bytes that digits in hexadecimal stand for
abbrev pub line_of_digits : Text → Option Text
line_of_digits digits = result_ok (decode_of digits)

-- the line as text, which the second version has
abbrev pub line_as_text : ℕ → Data → Option Text
line_as_text version value = if version == 2 then text_at (codes "text") value else None

-- the line, which stands there as digits, or as text
abbrev pub written_line : ℕ → Data → Option Text
written_line version value =
    option_map_or line_of_digits (text_at (codes "hex") value) (line_as_text version value)

-- a text, where it has no line feed
abbrev pub without_feed : Text → Option Text
without_feed line = if list_any (λ b. b == 10) line then None else Some line

-- the line that the value of a row between the first and the last says
unfoldable pub line_named : ℕ → Data → Option Text
line_named version value =
    if is_line_value value then option_and_then without_feed (written_line version value) else None

-- the version that a first row names
abbrev pub version_in : Text → Option ℕ
version_in row = option_and_then version_named (value_of row)

-- the line that a row of a version says
abbrev pub line_in : ℕ → Text → Option Text
line_in version row = option_and_then (line_named version) (value_of row)

-- a row is a last row
abbrev pub is_report : Text → Bool
is_report row = option_map_or is_report_value (value_of row) false
