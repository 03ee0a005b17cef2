-- What the intake of an input has come to.
use Rattle.std.specs.Prelude.{◌≡◌, ℕ, ◌+◌, ◌≤◌, ◌<◌, ◌++◌, [], ◌∷◌, length, take, Option, Some, is_some, IfSome, IsTrue, Result, Ok, Err, false}
use Rattle.house_base.specs.Text.{Text}
use Rattle.house_io.specs.Sink.{AppendsWhereTold}
use Rattle.house_model.specs.Heard.{whole_lines}
use Rattle.house_model.specs.Text.{Lines, lines}
use Rattle.disk_io.specs.Disk.{LeavesOnly}
use Rattle.intake_log.specs.declared.limits.TheConstants.{MOST_LINE_BYTES}
use Rattle.intake_log.specs.Journal.{IsBeforeOrAfter, StandsFor}
use Rattle.intake_log.specs.Limits.{IsFull}
use Rattle.intake_log.specs.Log.{LeavesLines, Logged}
use Rattle.intake_desk.specs.Input.{IsCut, IsFollowed, taken_before}
use Rattle.intake_desk.specs.Intake.{is_refused, kept_behind, told, told_line}
use Rattle.intake_desk.specs.declared.status.DeskStatus.{DeskStatus}
use Rattle.intake_desk.specs.declared.status.DeskStatus.TheVariants as status

-- these lines are put behind the old ones, one after another
abbrev pub AreAdmitted : Lines → Lines → Type 0
AreAdmitted old done = (more : Lines) → kept_behind old (done ++ more) ≡ done ++ kept_behind (old ++ done) more

-- an image that stands for the old lines and the first of the new ones
abbrev pub IsFront : Lines → Lines → Text → Type 0
IsFront old input image = (count : ℕ) × StandsFor image (old ++ take count input)

-- some of the first bytes of a text were given
abbrev pub GivesFront : Option Text → Option Text → Text → Type 0
GivesFront given now text = (count : ℕ) × AppendsWhereTold given now (take count text)

module _ {D : Type 0} (content : D → Option Text) (images : D → Text → Type 0) where
  -- a log that is not broken has these lines, and a crash leaves them
  pub record Holds (log : Logged D) (held : Lines) : Type 0 where
    pub lines_are : log.lines ≡ held
    pub unbroken : log.broken ≡ false
    pub durable : LeavesLines content images log.disk held

  -- where the disk tells, a crash leaves the lines, with one more or without it
  abbrev pub LeavesEither : D → Lines → Text → Type 0
  LeavesEither disk held line = IsTrue (is_some (content disk)) → (image : Text) → images disk image → IsBeforeOrAfter held line image

  -- what became of a line that has this number in the input
  abbrev pub KeepsLine : {T : Type 0} → Logged D → Logged D → Option Text → Option Text → Text → ℕ → Result T DeskStatus → Type 0
  KeepsLine old new given now line number (Ok done) = (is_refused old.lines line ≡ false) × Holds new (old.lines ++ line ∷ [])
      × AppendsWhereTold given now (told_line (length old.lines + 1))
  KeepsLine old new given now line number (Err status.WriteFault) = (is_refused old.lines line ≡ false) × Holds new (old.lines ++ line ∷ [])
      × GivesFront given now (told_line (length old.lines + 1))
  KeepsLine old new given now line number (Err status.DiskFault) = (now ≡ given) × LeavesEither new.disk old.lines line
  KeepsLine old new given now line number (Err (status.Long at)) = (at ≡ number) × (MOST_LINE_BYTES < length line) × (new ≡ old) × (now ≡ given)
  KeepsLine old new given now line number (Err status.Full) = (length line ≤ MOST_LINE_BYTES) × IsFull old.lines line × (new ≡ old) × (now ≡ given)
  KeepsLine old new given now line number (Err status.Memory) = (new ≡ old) × (now ≡ given)
  KeepsLine old new given now line number (Err status.Done) = ⊥
  KeepsLine old new given now line number (Err status.Usage) = ⊥
  KeepsLine old new given now line number (Err status.ReadFault) = ⊥
  KeepsLine old new given now line number (Err (status.BadJournal place)) = ⊥

  -- all of these lines that are put behind old ones are held and told
  pub record Stays (given now : Option Text) (old new : Logged D) (done : Lines) : Type 0 where
    pub tells : AppendsWhereTold given now (told (length old.lines) (length done))
    pub holds : Holds new (old.lines ++ done)

  -- how an intake ends behind these lines of the input
  abbrev pub EndsBehind : Option Text → Option Text → Option Text → Option Text → Logged D → Logged D → Lines → DeskStatus → Type 0
  EndsBehind before left given now old new done status.Done = Stays given now old new done × IfSome before (λ text. lines text ≡ done)
  EndsBehind before left given now old new done (status.Long number) = Stays given now old new done × (number ≡ length done + 1)
      × IsFollowed before done (λ line. MOST_LINE_BYTES < length line)
  EndsBehind before left given now old new done status.Full = Stays given now old new done
      × IsFollowed before done (λ line. (length line ≤ MOST_LINE_BYTES) × IsFull (old.lines ++ done) line)
  EndsBehind before left given now old new done status.ReadFault = Stays given now old new done
      × IfSome before (λ text. IfSome left (λ rest. whole_lines (taken_before text rest) ≡ done))
  EndsBehind before left given now old new done status.Memory = Stays given now old new done
  EndsBehind before left given now old new done status.WriteFault = (line : Text) × (is_refused (old.lines ++ done) line ≡ false)
      × IsFollowed before done (λ next. next ≡ line) × Holds new (old.lines ++ (done ++ line ∷ []))
      × (count : ℕ) × AppendsWhereTold given now (told (length old.lines) (length done) ++ take count (told_line (length old.lines + length done + 1)))
  EndsBehind before left given now old new done status.DiskFault = (line : Text)
      × IsFollowed before done (λ next. next ≡ line) × AppendsWhereTold given now (told (length old.lines) (length done))
      × LeavesEither new.disk (old.lines ++ done) line
  EndsBehind before left given now old new done status.Usage = ⊥
  EndsBehind before left given now old new done (status.BadJournal place) = ⊥

  module _ (moment : D → ℕ) (since : D → ℕ → Text → Type 0) where
    -- a crash at any moment leaves the old lines and the first of the input's
    abbrev pub LeavesFronts : Option Text → D → D → Lines → Type 0
    LeavesFronts before old new held = (text bytes : Text) → before ≡ Some text → content old ≡ Some bytes
        → LeavesOnly moment since old new (IsFront held (lines text))

    -- an intake that goes on: these lines are held and told, and these bytes of the input wait
    pub record GoesOnWith (before left given now : Option Text) (old new : Logged D) (waiting : Text) (done : Lines) : Type 0 where
      pub admitted : AreAdmitted old.lines done
      pub cut : IsCut before left waiting done
      pub stays : Stays given now old new done
      pub moments : LeavesFronts before old.disk new.disk old.lines
      pub told : is_some (content new.disk) ≡ is_some (content old.disk)

    -- an intake that has ended
    pub record HasTaken (before left given now : Option Text) (old new : Logged D) (ended : DeskStatus) : Type 0 where
      pub done : Lines
      pub admitted : AreAdmitted old.lines done
      pub front : IfSome before (λ text. (more : Lines) × (lines text ≡ done ++ more))
      pub ends : EndsBehind before left given now old new done ended
      pub moments : LeavesFronts before old.disk new.disk old.lines
