-- What the words of a call of the program ask for.
use Rattle.std.specs.Prelude.{◌-◌, Bool, true, false, ◌&&◌, not, Option, Some, None, List, [], ◌∷◌, drop, length, map, slice_index_or, take, String, string_bytes, codes, if◌then◌else◌}
use Rattle.std.specs.Cmp.Lexicographic.{pointwise}
use Rattle.std.specs.Str.{bytes_eq}
use Rattle.std.specs.Option.{option_map}
use Rattle.house_base.specs.Name.{is_name}
use Rattle.house_base.specs.Text.{Text}
use Rattle.house_model.specs.Text.{is_empty}
use Rattle.house_model.specs.declared.goal.Goal.TheVariants as goal
use Rattle.house_top.specs.declared.document.Document.{Document}
use Rattle.house_top.specs.declared.document.Document.TheVariants as document
use Rattle.house_top.specs.declared.form.Form.{Form}
use Rattle.house_top.specs.declared.form.Form.TheVariants as form

-- the words of a program, as their bytes
abbrev pub texts : {Y : Type 0} → List (String Y) → List Text
texts words = map string_bytes words

-- whether the words are these
abbrev pub are_words : List Text → List Text → Bool
are_words words these = pointwise bytes_eq words these

-- the words are this one, and behind it the name of a file, which is not empty
abbrev pub name_one_file : Text → List Text → Bool
name_one_file word (first ∷ one ∷ []) = bytes_eq first word && not (is_empty one)
name_one_file word words = false

-- the words are this one, and behind it the names of two files, none of them empty
abbrev pub name_two_files : Text → List Text → Bool
name_two_files word (first ∷ one ∷ other ∷ []) = bytes_eq first word && not (is_empty one) && not (is_empty other)
name_two_files word words = false

-- the name behind the word `slip`, where the words are these two and the second is of the form of a name
abbrev pub slip_name : List Text → Option Text
slip_name (first ∷ name ∷ []) = if bytes_eq first (codes "slip") && is_name name then Some name else None
slip_name words = None

-- the words behind the first
abbrev pub names_in : List Text → List Text
names_in words = drop 1 words

-- the names of the files that are loaded
abbrev pub loads : Option Form → List Text → List Text
loads (Some form.Opened) names = names
loads (Some (form.Judged document)) names = take 1 names
loads (Some form.Join) names = names
loads (Some form.Reserve) names = names
loads asked names = []

-- whether a file is stored behind what is said of a document
abbrev pub is_stored : Document → Bool
is_stored document.Slip = false
is_stored document.Audit = false
is_stored document.OldAudit = true

-- whether a file is stored
abbrev pub is_storing : Option Form → Bool
is_storing (Some form.Audit) = true
is_storing (Some (form.Judged document)) = is_stored document
is_storing asked = false

-- the last of some names
abbrev pub last_name : List Text → Text
last_name names = slice_index_or names (length names - 1) []

-- what the words ask for; nothing where they are of no form
unfoldable pub form_of : List Text → Option Form
form_of words =
    if are_words words (codes "run" ∷ []) then Some (form.Input goal.Run)
    else if are_words words (codes "feasible" ∷ []) then Some (form.Input goal.Feasible)
    else if are_words words (codes "pairs" ∷ []) then Some (form.Input goal.Pairs)
    else if name_two_files (codes "run") words then Some form.Opened
    else if name_one_file (codes "audit") words then Some form.Audit
    else if name_one_file (codes "check") words then Some (form.Judged document.Slip)
    else if name_one_file (codes "replay") words then Some (form.Judged document.Audit)
    else if name_two_files (codes "migrate") words then Some (form.Judged document.OldAudit)
    else if name_two_files (codes "join") words then Some form.Join
    else if name_one_file (codes "reserve") words then Some form.Reserve
    else option_map form.Slip (slip_name words)

-- the names of the files that a call with these words loads
abbrev pub loaded_by : List Text → List Text
loaded_by words = loads (form_of words) (names_in words)
