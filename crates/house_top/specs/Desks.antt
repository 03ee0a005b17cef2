-- What comes of the desk files that the words name.
use Rattle.std.specs.Prelude.{◌≡◌, ℕ, ◌+◌, List, [], ◌∷◌, map, Option, IfSome, Result, Ok, Err}
use Rattle.house_base.specs.Text.{Text}
use Rattle.house_io.specs.Files.{Contents}
use Rattle.desk_merge.specs.Desk.{desk_file}
use Rattle.desk_merge.specs.Joined.{Joined, join_of}
use Rattle.desk_merge.specs.Reading.{desk_read}
use Rattle.house_top.specs.declared.bad.Bad.{Bad}
use Rattle.house_top.specs.declared.bad.Bad.TheVariants as bad
use Rattle.house_top.specs.declared.desks.Desks.{Desks}
use Rattle.house_top.specs.declared.desks.Desks.TheVariants as desks
use Rattle.house_top.specs.declared.status.Status.{Status}
use Rattle.house_top.specs.declared.status.Status.TheVariants as status
use Rattle.house_top.specs.Given.{held}
use Rattle.house_top.specs.Judged.{Said, unjudged}
use Rattle.house_top.specs.Opening.{loaded}

-- a value and those behind it, where all are there: else the status that stands in the place of the first that is not
abbrev pub with_first : {A : Type 0} → Result A Status → Result (List A) Status → Result (List A) Status
with_first (Err s) rest = Err s
with_first (Ok a) (Err s) = Err s
with_first (Ok a) (Ok more) = Ok (a ∷ more)

-- all values, or the status that stands in the place of the first that is not there
abbrev pub all_of : {A : Type 0} → List (Result A Status) → Result (List A) Status
all_of [] = Ok []
all_of (r ∷ rs) = with_first r (all_of rs)

-- the map of a desk file, or the status with which a call ends that refuses it, by the number of the file
abbrev pub desk_or_refused : ℕ → Result Joined ℕ → Result Joined Status
desk_or_refused file (Ok m) = Ok m
desk_or_refused file (Err line) = Err (status.BadFile (bad.Desk file line))

-- what desk files are read as, which are numbered from this number on
abbrev pub desks_from : ℕ → List Text → List (Result Joined Status)
desks_from file [] = []
desks_from file (bytes ∷ more) = desk_or_refused file (desk_read bytes) ∷ desks_from (file + 1) more

-- the join of maps that are all there
abbrev pub join_there : Result (List Joined) Status → Result Joined Status
join_there (Ok ms) = Ok (join_of ms)
join_there (Err s) = Err s

-- the join of desk files, or the status by which the first of them that is off the form is refused
abbrev pub join_read : List Text → Result Joined Status
join_read texts = join_there (all_of (desks_from 1 texts))

-- all files are loaded before one of them is read
abbrev pub join_loaded : Result (List Text) Status → Result Joined Status
join_loaded (Ok texts) = join_read texts
join_loaded (Err s) = Err s

-- the contents of files within their limits
abbrev pub all_loaded : List (Option Text) → Result (List Text) Status
all_loaded files = all_of (map loaded files)

-- the join of the desk files, or the status with which a call ends without it
unfoldable pub desks_of : List (Option Text) → Result Joined Status
desks_of files = join_loaded (all_loaded files)

-- what is said where the join is told: its desk file
abbrev pub of_join : Result Joined Status → Said
of_join (Ok m) = (status.Done, desk_file m)
of_join (Err s) = unjudged s

abbrev pub joined : List (Option Text) → Said
joined files = of_join (desks_of files)

-- a desk file is refused for this
abbrev pub IsOfDesk : Bad → Type 0
IsOfDesk (bad.Desk file line) = Unit {0}
IsOfDesk why = ⊥

-- the files come to this join, or to a status without one
abbrev pub IsOfDesks : Result Joined Status → Desks → Type 0
IsOfDesks join (desks.Joined m) = join ≡ Ok m
IsOfDesks join (desks.Bad file line) = join ≡ Err (status.BadFile (bad.Desk file line))
IsOfDesks join desks.TooLong = join ≡ Err status.TooLong

-- a call that tells a join ends so
abbrev pub EndsJoined : Status → Type 0
EndsJoined status.Done = Unit {0}
EndsJoined status.TooLong = Unit {0}
EndsJoined (status.BadFile why) = IsOfDesk why
EndsJoined s = ⊥

-- An answer says this of the files of names, where files tell what they hold.
pub record IsSaidOfDesks (files : Option Contents) (names : List Text) (s : Status) (text : Text) : Type 0 where
  pub ends : EndsJoined s
  pub as_due : IfSome files (λ files. (s, text) ≡ joined (held names files))
