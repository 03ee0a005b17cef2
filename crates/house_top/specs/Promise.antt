-- What is promised of a call of the program, by what it asks for and what it is given, where that is told.
use Rattle.std.specs.Prelude.{◌≡◌, ◌≢◌, ◌↔◌, ◌⊎◌, ◌++◌, ℕ, true, false, List, [], Option, None, Some, IfSome, IsSomeAnd, IsTrue, take}
use Rattle.house_io.specs.Faults.{Rose}
use Rattle.house_io.specs.Files.{Contents, KeepsOthers, told_with}
use Rattle.house_io.specs.Sink.{AppendsWhereTold}
use Rattle.house_base.specs.Text.{Text}
use Rattle.peer_selection.specs.FirstAssignment.{has_assignment}
use Rattle.house_model.specs.declared.goal.Goal.{Goal}
use Rattle.house_model.specs.declared.goal.Goal.TheVariants as goal
use Rattle.house_model.specs.Headline.{ChancesAreCounted, ComesShort, HasValidAssignment, OrderOfArrivalChangesNothing}
use Rattle.house_model.specs.Headline.{OwnReviewsChangeNoChance, QuotasAreMeans, SealIsKept, SeatsAreQuotasRounded}
use Rattle.house_model.specs.Heard.{is_over}
use Rattle.house_model.specs.Runs.{looked_at, taken}
use Rattle.house_model.specs.Said.{setting}
use Rattle.house_model.specs.Text.{Lines, lines}
use Rattle.house_top.specs.declared.bad.Bad.{Bad}
use Rattle.house_top.specs.declared.form.Form.{Form}
use Rattle.house_top.specs.declared.form.Form.TheVariants as form
use Rattle.house_top.specs.declared.status.Status.{Status}
use Rattle.house_top.specs.declared.status.Status.TheVariants as status
use Rattle.house_top.specs.Answer.{IsShortOrFault, IsWhole}
use Rattle.house_top.specs.Due.{IsDueText, due_file, due_status, hears, leaving_asked, printed, reported, run_of, slip_asked, slip_judged}
use Rattle.house_top.specs.Desks.{IsOfDesk}
use Rattle.house_top.specs.Given.{Given}
use Rattle.house_top.specs.Judged.{IsRefusal}
use Rattle.house_top.specs.Leaving.{BeginsWithReport, IsLeaving}
use Rattle.house_top.specs.Opened.{OpensNone}
use Rattle.house_top.specs.Words.{is_storing, last_name, loads}
use Rattle.reserve_list.specs.Told.{PassesSeatsOn}
use Rattle.slip_text.specs.Told.{OwnReviewsAreInNoSlip, PrintsChances}
use Rattle.input_run.specs.Input.{DecidedWhereTold, EndsWhereTold, NoFurtherWhereTold, UndecidedWhereTold}

-- The status.

-- the status is the due one, or one that comes of a fault or of want of memory
abbrev pub IsDue : Status → Status → Type 0
IsDue d status.ReadFault = Unit {0}
IsDue d status.WriteFault = Unit {0}
IsDue d status.Memory = Unit {0}
IsDue d s = s ≡ d

-- a count of faults before a call and after it
abbrev pub Counts : Type 0
Counts = ℕ × ℕ

-- the counts of faults of the input, of the files and of the output
pub record Faults : Type 0 where
  pub reads : Counts
  pub loads : Counts
  pub writes : Counts

abbrev pub counted : Counts → Counts → Counts → Faults
counted reads loads writes = record { reads = reads; loads = loads; writes = writes }

-- the words read the input, and its count rose
abbrev pub ReadRose : Option Form → Counts → Type 0
ReadRose None reads = ⊥
ReadRose (Some (form.Input g)) reads = Rose reads.0 reads.1
ReadRose (Some form.Audit) reads = Rose reads.0 reads.1
ReadRose (Some (form.Slip name)) reads = Rose reads.0 reads.1
ReadRose (Some form.Opened) reads = Rose reads.0 reads.1
ReadRose (Some (form.Judged document)) reads = ⊥
ReadRose (Some form.Join) reads = ⊥
ReadRose (Some form.Reserve) reads = Rose reads.0 reads.1

-- the words load files, and their count rose
abbrev pub LoadRose : Option Form → Counts → Type 0
LoadRose None loads = ⊥
LoadRose (Some (form.Input g)) loads = ⊥
LoadRose (Some form.Audit) loads = ⊥
LoadRose (Some (form.Slip name)) loads = ⊥
LoadRose (Some form.Opened) loads = Rose loads.0 loads.1
LoadRose (Some (form.Judged document)) loads = Rose loads.0 loads.1
LoadRose (Some form.Join) loads = Rose loads.0 loads.1
LoadRose (Some form.Reserve) loads = Rose loads.0 loads.1

-- the words store a file, and the count of the files rose
abbrev pub StoreRose : Option Form → Counts → Type 0
StoreRose asked files = IsTrue (is_storing asked) × Rose files.0 files.1

-- a file of the words can be refused for this
abbrev pub IsBadOf : Option Form → Bad → Type 0
IsBadOf None why = ⊥
IsBadOf (Some (form.Input g)) why = ⊥
IsBadOf (Some form.Audit) why = ⊥
IsBadOf (Some (form.Slip name)) why = ⊥
IsBadOf (Some form.Opened) why = OpensNone why
IsBadOf (Some (form.Judged document)) why = IsRefusal document why
IsBadOf (Some form.Join) why = IsOfDesk why
IsBadOf (Some form.Reserve) why = IsLeaving why

-- why a call fails to read, and where a length that is not told is too long: a count of what its words look at rose
pub record IsCaused (asked : Option Form) (given : Option Given) (input : Option Text) (s : Status)
    (reads loads : Counts) : Type 0 where
  pub read_fault : s ≡ status.ReadFault → ReadRose asked reads ⊎ LoadRose asked loads
  pub too_long : s ≡ status.TooLong → ¬ LoadRose asked loads → IfSome input (λ input.
      IsSomeAnd given (λ given. due_status asked given ≡ status.TooLong) ⊎ (is_over input ≡ true))
  pub bad_file : (why : Bad) → s ≡ status.BadFile why → IsBadOf asked why

-- a call ends as is due, or for a fault that was counted, or for want of memory
pub record EndsAsDue (asked : Option Form) (given : Option Given) (input : Option Text) (s : Status)
    (faults : Faults) : Type 0 where
  pub usage : (s ≡ status.Usage) ↔ (asked ≡ None)
  pub due : IfSome given (λ given. IsDue (due_status asked given) s)
  pub complete : IfSome given (λ given. ¬ ReadRose asked faults.reads → ¬ LoadRose asked faults.loads →
      ¬ StoreRose asked faults.loads → ¬ Rose faults.writes.0 faults.writes.1 → (s ≡ due_status asked given) ⊎ (s ≡ status.Memory))
  pub read_fault : s ≡ status.ReadFault → ReadRose asked faults.reads ⊎ LoadRose asked faults.loads
  pub write_fault : s ≡ status.WriteFault → Rose faults.writes.0 faults.writes.1 ⊎ StoreRose asked faults.loads
  -- of files that do not tell their length: one that is too long is counted
  pub too_long : s ≡ status.TooLong → ¬ LoadRose asked faults.loads → IfSome input (λ input.
      IsSomeAnd given (λ given. due_status asked given ≡ status.TooLong) ⊎ (is_over input ≡ true))
  pub bad_file : (why : Bad) → s ≡ status.BadFile why → IsBadOf asked why

-- What is written.

-- a text of which a fact holds is what was given between two states of an output, where that is told
abbrev pub Gives : Option Text → Option Text → (Text → Type 0) → Type 0
Gives before after P = (text : Text) × P text × AppendsWhereTold before after text

-- an output gets a text that is due, whole or, behind a fault, the beginning of it
pub record WritesWhatIsDue {O : Type 0} (shown : O → Option Text) (asked : Option Form) (given : Option Given)
    (s : Status) (old new : O) : Type 0 where
  pub whole_text : IfSome given (λ given. IsWhole s → Gives (shown old) (shown new) (IsDueText asked given))
  pub write_fault_front : IfSome given (λ given. s ≡ status.WriteFault →
      (text : Text) × IsDueText asked given text
      × ((count : ℕ) × AppendsWhereTold (shown old) (shown new) (take count text)))
  pub usage_writes_nothing : s ≡ status.Usage → new ≡ old
  pub read_fault_writes_nothing : s ≡ status.ReadFault → new ≡ old
  pub memory_writes_nothing : s ≡ status.Memory → new ≡ old

-- The headline.

-- the assignment of a run that did what was asked for: it is valid, and the first where none was made by hand; some
-- assignment is, where only that was asked
abbrev pub IsWellAssigned : Goal → Lines → Type 0
IsWellAssigned goal.Run lines = HasValidAssignment goal.Run lines
IsWellAssigned goal.Pairs lines = HasValidAssignment goal.Pairs lines
IsWellAssigned goal.Feasible lines = IsTrue (has_assignment (setting lines))

-- what holds of a printed report and of its lines, and of an assignment that is looked for
pub record KeepsThePromise (asked : Option Form) (given : Option Given) (s : Status)
    (before after : Option Text) : Type 0 where
  pub chances_are_counted : s ≡ status.Done → IfSome given (λ given. IfSome (printed asked given)
      (λ all. Gives before after (ChancesAreCounted all)))
  pub own_reviews_change_no_chance : s ≡ status.Done → IfSome given (λ given. IfSome (printed asked given)
      (λ all. Gives before after (OwnReviewsChangeNoChance all)))
  pub seats_are_quotas_rounded : s ≡ status.Done → IfSome given (λ given. IfSome (reported asked given)
      SeatsAreQuotasRounded)
  pub quotas_are_means : s ≡ status.Done → IfSome given (λ given. IfSome (reported asked given) QuotasAreMeans)
  pub order_of_arrival_changes_nothing : s ≡ status.Done → IfSome given (λ given. IfSome (reported asked given)
      OrderOfArrivalChangesNothing)
  pub seal_is_kept : s ≡ status.Done → IfSome given (λ given. IfSome (reported asked given) SealIsKept)
  pub all_lines_are_run : s ≡ status.Done → IfSome given (λ given. IfSome (reported asked given)
      (λ all. IfSome (hears asked given) (λ h. all ≡ h.1 ++ lines given.input)))
  -- a slip is also that of the lines without those of its applicant's person, and one that is called right gives a chance
  pub own_reviews_are_in_no_slip : s ≡ status.Done → IfSome given (λ given. IfSome (slip_asked asked given)
      (λ slip. Gives before after (OwnReviewsAreInNoSlip slip.0 slip.1)))
  pub right_slips_print_chances : s ≡ status.Done → IfSome given (λ given. IfSome (slip_judged asked given) PrintsChances)
  -- behind a report stand those who move up where some withdraw, and each one's chance then
  pub report_stands_first : s ≡ status.Done → IfSome given (λ given. IfSome (leaving_asked asked given)
      (λ left. Gives before after (BeginsWithReport left.1)))
  pub seats_are_passed_on : s ≡ status.Done → IfSome given (λ given. IfSome (leaving_asked asked given)
      (λ left. Gives before after (PassesSeatsOn left.1 left.0)))
  -- an assignment is valid, and a call ends short where one is looked for and there is none, and nowhere else
  pub assignment_is_valid : s ≡ status.Done → IfSome given (λ given. IfSome (run_of asked given)
      (λ run. IsWellAssigned run.0 (taken run.0 run.1)))
  pub short_for_want_of_an_assignment : s ≡ status.Short → IfSome given (λ given. IfSome (run_of asked given)
      (λ run. ComesShort run.0 (looked_at run.0 run.1)))
  pub want_of_an_assignment_is_told : IfSome given (λ given. IfSome (run_of asked given)
      (λ run. ComesShort run.0 (looked_at run.0 run.1) → IsShortOrFault s))

-- What is read, and what becomes of files.

-- an input is read to its end, or as far as it decides how the run ends, and no further
pub record ReadsFarEnough {I : Type 0} (left : I → Option Text) (asked : Option Form) (given : Option Given)
    (loads : Counts) (s : Status) (old new : I) : Type 0 where
  pub read_far_enough : s ≢ status.ReadFault → s ≢ status.Memory → IfSome given (λ given.
      IfSome (hears asked given) (λ h. DecidedWhereTold h.0 h.1 (left old) (left new)))
  pub read_fault_undecided : s ≡ status.ReadFault → ¬ LoadRose asked loads → IfSome given (λ given.
      IsSomeAnd (hears asked given) (λ h. UndecidedWhereTold h.0 h.1 (left old) (left new)))
  pub read_no_further : IfSome given (λ given.
      IfSome (hears asked given) (λ h. NoFurtherWhereTold h.0 h.1 (left old) (left new)))
  pub read_to_end : s ≡ status.Done → IfSome given (λ given.
      IfSome (reported asked given) (λ all. EndsWhereTold (left old) (left new)))
  pub usage_reads_nothing : s ≡ status.Usage → new ≡ old
  pub unheard_is_unread : IfSome given (λ given. hears asked given ≡ None → new ≡ old)
  -- a file of withdrawals is looked at behind the report
  pub bad_file_reads_nothing : (why : Bad) → s ≡ status.BadFile why → ¬ IsLeaving why → new ≡ old

-- where no file is stored: all files hold what they held, and where none is loaded nothing at all has become of them
pub record KeepsFiles {F : Type 0} (shown : F → Option Contents) (loaded : List Text) (old new : F) : Type 0 where
  pub files_unchanged : shown new ≡ shown old
  pub shelf_unchanged : loaded ≡ [] → new ≡ old

-- What becomes of files where one may be stored under the last name: a call that is done has stored what is due there,
-- and no other call has stored anything, or it was a store that failed; all other files hold what they held.
pub record StoresWhatIsDue {F : Type 0} (shown : F → Option Contents) (asked : Option Form) (names : List Text)
    (given : Option Given) (s : Status) (old new : F) : Type 0 where
  pub stored : s ≡ status.Done → IsTrue (is_storing asked) → IfSome given (λ given.
      shown new ≡ told_with (shown old) (last_name names) (due_file asked given))
  pub unless_stored : s ≢ status.Done → s ≢ status.WriteFault → shown new ≡ shown old
  pub others_unchanged : KeepsOthers (shown old) (shown new) (last_name names)
  pub unasked : is_storing asked ≡ false → KeepsFiles shown (loads asked names) old new

-- Where a call fails to write: a front of the text was given, and no file has changed; or the text was given whole, and
-- the file that the words store was not stored.
pub record FailsToWrite {O F : Type 0} (told : O → Option Text) (shown : F → Option Contents) (asked : Option Form)
    (given : Option Given) (s : Status) (faults : Faults) (old new : O) (before after : F) : Type 0 where
  pub write_fault_by_one : s ≡ status.WriteFault →
      (Rose faults.writes.0 faults.writes.1 × (shown after ≡ shown before))
      ⊎ (StoreRose asked faults.loads × IfSome given (λ given. Gives (told old) (told new) (IsDueText asked given)))
