-- A pass over the register, with what it has still to give.
use Rattle.std.specs.Prelude.{Bool, true, List, map, filter, not, ◌||◌, is_some}
use Rattle.std.specs.List.{list_any}
use Rattle.std.specs.Ordering.{nat_cmp, ordering_then}
use Rattle.std.specs.Cmp.Lexicographic.{slice_cmp}
use Rattle.std.specs.BTreeSet.{BTreeSet, contains}
use Rattle.std.specs.declared.cmp.Ordering.{Ordering}
use Rattle.house_base.specs.Text.{Text}
use Rattle.house_model.specs.Text.{is_empty, words}
use Rattle.house_model.specs.declared.command.Command.{Command}
use Rattle.call_file.specs.declared.entry.Entry.{Entry}
use Rattle.call_file.specs.declared.pass.Found.{Found}
use Rattle.call_file.specs.declared.pass.Part.{Part}
use Rattle.call_file.specs.declared.pass.Part.TheVariants as part
use Rattle.call_file.specs.declared.settings.Version.{Version}
use Rattle.call_file.specs.declared.settings.Version.TheVariants as version
use Rattle.call_file.specs.Opening.{Place, commands_of, each_once, place_command, places_of}
use Rattle.call_file.specs.Register.{Fields, conflicts_field, entry_of}

-- places by their persons, and those of one person by their clusters
abbrev pub place_cmp : Place → Place → Ordering
place_cmp a b = ordering_then (slice_cmp nat_cmp a.0 b.0) (nat_cmp a.1 b.1)

-- whether a place stands in a set
abbrev pub given_in : BTreeSet Place → Place → Bool
given_in given p = contains place_cmp given p

-- the commands of the places to come, in the second version but for those that are given already
unfoldable pub places_due : Version → (Place → Bool) → List Place → List Command
places_due version.First is_given places = map place_command places
places_due version.Second is_given places = map place_command (filter (λ p. not (is_given p)) (each_once places))

-- the commands of a part that the records to come give, where these places are given already
unfoldable pub due : Part → Version → (Place → Bool) → List Fields → List Command
due part.Applicants v is_given rows = commands_of part.Applicants v rows
due part.Places v is_given rows = places_due v is_given (places_of v rows)
due part.Conflicts v is_given rows = commands_of part.Conflicts v rows

-- to which of the parts behind the applicants an applicant with these conflicts adds
abbrev pub found_of : Entry → Text → Found
found_of entry conflicts = record { places = is_some entry.cluster; conflicts = not (is_empty (words conflicts)) }

-- to which of them a record adds
abbrev pub found_at : Version → Fields → Found
found_at v fields = found_of (entry_of v fields) (conflicts_field v fields)

-- to which of them some record adds
abbrev pub found_in : Version → List Fields → Found
found_in v rows =
    record {
      places = list_any (λ fields. (found_at v fields).places) rows;
      conflicts = list_any (λ fields. (found_at v fields).conflicts) rows;
    }

-- to which of them one or the other adds
abbrev pub either : Found → Found → Found
either a b = record { places = a.places || b.places; conflicts = a.conflicts || b.conflicts }

-- a part has lines; each record has an applicant
abbrev pub has : Found → Part → Bool
has found part.Applicants = true
has found part.Places = found.places
has found part.Conflicts = found.conflicts
