-- The records of a register.
use Rattle.std.specs.Prelude.{◌≡◌, ℕ, Bool, false, List, [], ◌∷◌, Option, Some, codes, length, ◌==◌, ◌&&◌, ◌||◌, not, is_some, unwrap_or, if◌then◌else◌}
use Rattle.std.specs.List.{list_all, list_any, position_from}
use Rattle.std.specs.Str.{bytes_eq}
use Rattle.csv.specs.Records.{field_at}
use Rattle.house_base.specs.Name.{is_name}
use Rattle.house_base.specs.Number.{number_up_to}
use Rattle.house_base.specs.declared.limits.TheConstants.{MOST_CLUSTERS}
use Rattle.house_base.specs.Text.{Text}
use Rattle.house_model.specs.Faults.{is_within}
use Rattle.house_model.specs.Text.{is_empty, words}
use Rattle.call_file.specs.declared.entry.Entry.{Entry}
use Rattle.call_file.specs.declared.settings.Version.{Version}
use Rattle.call_file.specs.declared.settings.Version.TheVariants as version
use Rattle.call_file.specs.Keys.{Said}

-- the fields of a record
abbrev pub Fields : Type 0
Fields = List Text

-- the field at an index; the empty one where there is none
abbrev pub field : Fields → ℕ → Text
field fields i = unwrap_or (field_at fields i) []

-- how many fields a record has
abbrev pub width : Version → ℕ
width version.First = 3
width version.Second = 4

-- the record names the columns, and nothing else
abbrev pub names_columns : Version → Fields → Bool
names_columns version.First fields =
    bytes_eq (field fields 0) (codes "name") && bytes_eq (field fields 1) (codes "cluster")
    && bytes_eq (field fields 2) (codes "conflicts")
names_columns version.Second fields =
    bytes_eq (field fields 0) (codes "name") && bytes_eq (field fields 1) (codes "person")
    && bytes_eq (field fields 2) (codes "cluster") && bytes_eq (field fields 3) (codes "conflicts")

unfoldable pub is_header : Version → Fields → Bool
is_header v fields = length fields == width v && names_columns v fields

-- there is no first record, or it is no header
abbrev pub HasNoHeader : Version → List Fields → Type 0
HasNoHeader v [] = Unit {0}
HasNoHeader v (fields ∷ rows) = is_header v fields ≡ false

-- the fields under the columns; in the first version no person is named
abbrev pub person_field : Version → Fields → Text
person_field version.First fields = []
person_field version.Second fields = field fields 1

abbrev pub cluster_field : Version → Fields → Text
cluster_field version.First fields = field fields 1
cluster_field version.Second fields = field fields 2

abbrev pub conflicts_field : Version → Fields → Text
conflicts_field version.First fields = field fields 2
conflicts_field version.Second fields = field fields 3

-- a person is left out or a name
abbrev pub person_fits : Text → Bool
person_fits text = is_empty text || is_name text

-- a cluster is left out, or a number that may be one where no clusters are drawn
abbrev pub cluster_fits : Bool → Text → Bool
cluster_fits are_drawn text = is_empty text || (not are_drawn && is_within 1 MOST_CLUSTERS text)

-- names with spaces between them: no tab stands there, and each word is a name
abbrev pub are_conflicts : Text → Bool
are_conflicts text = not (list_any (λ b. b == 9) text) && list_all is_name (words text)

-- a record below the header is of its form
unfoldable pub fits : Said → Fields → Bool
fits said fields =
    length fields == width said.version && is_name (field fields 0) && person_fits (person_field said.version fields)
    && cluster_fits (is_some said.partition) (cluster_field said.version fields)
    && are_conflicts (conflicts_field said.version fields)

-- the person that a field names: the applicant's namesake where it is empty
abbrev pub person_in : Text → Text → Text
person_in name text = if is_empty text then name else text

-- the cluster that a field gives
abbrev pub cluster_in : Text → Option ℕ
cluster_in text = number_up_to MOST_CLUSTERS text

-- the applicant of a record
abbrev pub entry_of : Version → Fields → Entry
entry_of v fields =
    record {
      name = field fields 0;
      person = person_in (field fields 0) (person_field v fields);
      cluster = cluster_in (cluster_field v fields);
    }

-- the number of the first record that is not of its form, where the first of these has a number
abbrev pub bad_record_below_header : Said → ℕ → List Fields → Option ℕ
bad_record_below_header said number rows = position_from (λ fields. not (fits said fields)) number rows

-- the number, from 1, of the first record that is not of its form; 1 where there is none
abbrev pub bad_record : Said → List Fields → Option ℕ
bad_record said [] = Some 1
bad_record said (header ∷ rows) =
    if is_header said.version header then bad_record_below_header said 2 rows else Some 1
