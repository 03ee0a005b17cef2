-- What is due of a call, and what a call leaves.
use Rattle.std.specs.Prelude.{◌≡◌, ◌⊎◌, ℕ, ◌≤◌, ◌++◌, [], length, take, Option, Some, None, IfSome}
use Rattle.std.specs.Option.{option_map}
use Rattle.house_base.specs.Text.{Text}
use Rattle.house_io.specs.Sink.{AppendsWhereTold, SameWhereTold}
use Rattle.house_model.specs.Text.{Lines, lines}
use Rattle.intake_log.specs.Journal.{StandsFor}
use Rattle.intake_log.specs.Log.{LeavesLines}
use Rattle.intake_log.specs.declared.fault.StartFault.{StartFault}
use Rattle.intake_log.specs.declared.fault.StartFault.TheVariants as fault
use Rattle.intake_log.specs.Scan.{Scanned, found}
use Rattle.intake_log.specs.Scan.Scanned.{Ended, OffForm, Over}
use Rattle.intake_desk.specs.Intake.{intake_end, kept_behind, shown, told}
use Rattle.intake_desk.specs.Progress.{GivesFront}
use Rattle.intake_desk.specs.declared.words.Asked.{Asked}
use Rattle.intake_desk.specs.declared.words.Asked.TheVariants as asked
use Rattle.intake_desk.specs.declared.status.DeskStatus.{DeskStatus}
use Rattle.intake_desk.specs.declared.status.DeskStatus.TheVariants as status

-- the lines that are to be put: those of the input, and with `show` none
abbrev pub lines_to_put : Asked → Option Text → Option Lines
lines_to_put asked.Intake left = option_map lines left
lines_to_put asked.Show left = Some []

-- the text that is due
abbrev pub due_text : Asked → Lines → Lines → Text
due_text asked.Intake old input = told (length old) (length (kept_behind old input))
due_text asked.Show old input = shown old

-- the status that is due on a journal of which this was found
abbrev pub status_on : Scanned → Option Lines → Option DeskStatus
status_on (Ended old) input = option_map (intake_end old) input
status_on (OffForm place) input = Some (status.BadJournal place)
status_on Over input = Some status.Full

-- the status that is due, where what it depends on is told
abbrev pub due_status : Option Asked → Option Text → Option Text → Option DeskStatus
due_status None file left = Some status.Usage
due_status (Some asked) None left = None
due_status (Some asked) (Some bytes) left = status_on (found bytes) (lines_to_put asked left)

-- the status is the due one, unless it tells of a fault or of want of memory
abbrev pub IsDue : DeskStatus → DeskStatus → Type 0
IsDue due status.ReadFault = Unit {0}
IsDue due status.WriteFault = Unit {0}
IsDue due status.DiskFault = Unit {0}
IsDue due status.Memory = Unit {0}
IsDue due status.Done = status.Done ≡ due
IsDue due status.Usage = status.Usage ≡ due
IsDue due (status.Long number) = status.Long number ≡ due
IsDue due (status.BadJournal place) = status.BadJournal place ≡ due
IsDue due status.Full = status.Full ≡ due

-- all of a text was given, or after a fault or for want of memory some of its first bytes
abbrev pub Gives : DeskStatus → Option Text → Option Text → Text → Type 0
Gives status.Done given now due = AppendsWhereTold given now due
Gives (status.Long number) given now due = AppendsWhereTold given now due
Gives status.Full given now due = AppendsWhereTold given now due
Gives status.ReadFault given now due = GivesFront given now due
Gives status.WriteFault given now due = GivesFront given now due
Gives status.DiskFault given now due = GivesFront given now due
Gives status.Memory given now due = GivesFront given now due
Gives status.Usage given now due = SameWhereTold given now
Gives (status.BadJournal place) given now due = SameWhereTold given now

-- what a call starts with, where disk and input tell: a journal of old lines, and the lines that are to be put
pub record StartsWith (words : Option Asked) (file left : Option Text) (asked : Asked) (old input : Lines) : Type 0 where
  pub asks : words ≡ Some asked
  pub bytes : Text
  pub reads : file ≡ Some bytes
  pub journal : found bytes ≡ Ended old
  pub puts : lines_to_put asked left ≡ Some input

-- a text was given whole, and maybe more behind it
pub record GivesWhole (given now : Option Text) (text : Text) : Type 0 where
  pub past : Text
  pub more : Text
  pub before : given ≡ Some past
  pub after : now ≡ Some (past ++ (text ++ more))

-- an image with at least so many of the new lines behind the old ones
abbrev pub HasAtLeast : ℕ → Lines → Lines → Text → Type 0
HasAtLeast least old input image = (count : ℕ) × (least ≤ count) × (count ≤ length input) × StandsFor image (old ++ take count input)

-- a status behind which the journal has all lines that were to be kept
abbrev pub IsWhole : DeskStatus → Type 0
IsWhole ended = (ended ≡ status.Done) ⊎ ((number : ℕ) × (ended ≡ status.Long number)) ⊎ (ended ≡ status.Full)

-- where a disk tells, its file stands for these lines, and so does each image that a crash leaves
pub record HasLines {D : Type 0} (content : D → Option Text) (images : D → Text → Type 0) (disk : D) (held : Lines) : Type 0 where
  pub stands : IfSome (content disk) (λ bytes. StandsFor bytes held)
  pub durable : LeavesLines content images disk held

-- how printing a text may end
abbrev pub Shows : DeskStatus → Option Text → Option Text → Text → Type 0
Shows status.Done given now text = AppendsWhereTold given now text
Shows status.WriteFault given now text = GivesFront given now text
Shows status.Memory given now text = now ≡ given
Shows ended given now text = ⊥

-- the status that names why a journal was not started
abbrev pub status_of : StartFault → DeskStatus
status_of fault.Failed = status.DiskFault
status_of (fault.BadJournal place) = status.BadJournal place
status_of fault.Full = status.Full
status_of fault.Memory = status.Memory
