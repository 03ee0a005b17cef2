-- What is said of a file that is judged by itself.
use Rattle.std.specs.Prelude.{ℕ, ◌*◌, ◌==◌, ◌≡◌, ◌≢◌, Option, Some, None, IfSome, IsSomeAnd, IsTrue, Result, Ok, Err, [], ◌∷◌, ◌++◌, codes, decimal, if◌then◌else◌}
use Rattle.std.specs.FinMap.{get}
use Rattle.house_io.specs.Files.{Contents}
use Rattle.house_base.specs.declared.limits.TheConstants.{DOLLAR}
use Rattle.house_base.specs.Text.{Text}
use Rattle.house_model.specs.declared.limits.TheConstants.{MOST_BYTES}
use Rattle.house_model.specs.Report.{line_of, over}
use Rattle.audit_chain.specs.declared.fault.RowFault.{RowFault}
use Rattle.audit_chain.specs.declared.fault.RowFault.TheVariants as row
use Rattle.house_top.specs.declared.bad.Bad.{Bad}
use Rattle.house_top.specs.declared.bad.Bad.TheVariants as bad
use Rattle.house_top.specs.declared.document.Document.{Document}
use Rattle.house_top.specs.declared.document.Document.TheVariants as document
use Rattle.house_top.specs.declared.document.TheConstants.{MOST_AUDIT_BYTES}
use Rattle.house_top.specs.declared.filed.Filed.{Filed}
use Rattle.house_top.specs.declared.status.Status.{Status}
use Rattle.house_top.specs.declared.status.Status.TheVariants as status
use Rattle.house_top.specs.Opening.{loaded_within}
use Rattle.house_top.specs.Refused.{text_without_run}
use Rattle.house_top.specs.Words.{is_stored}
use Rattle.replay_check.specs.declared.migrate_audit.Migrated.{Migrated}
use Rattle.replay_check.specs.declared.migrate_audit.Migrated.TheVariants as migrated
use Rattle.replay_check.specs.declared.replay_audit.Ending.{Ending}
use Rattle.replay_check.specs.declared.replay_audit.Ending.TheVariants as ending
use Rattle.replay_check.specs.declared.replay_audit.Replayed.{Replayed}
use Rattle.replay_check.specs.declared.replay_audit.Replayed.TheVariants as replayed
use Rattle.replay_check.specs.Said.{migration_of, replay_of}
use Rattle.slip_check.specs.Form.{chance_in, fault_in, rows_of, slip_in}
use Rattle.slip_check.specs.Slip.{Slip, worth}

-- a status, and the text with which a call ends so
abbrev pub Said : Type 0
Said = Status × Text

-- what is said where a file is not judged
abbrev pub unjudged : Status → Said
unjudged s = (s, text_without_run s)

-- what is said of a slip that prints a chance: that this is the right one, or which is
abbrev pub of_slip : Slip → ℕ → Said
of_slip slip printed =
    if printed == worth slip then (status.Done, line_of (codes "slip" ∷ codes "yes" ∷ []))
    else (status.Wrong (worth slip), line_of (codes "wrong" ∷ over (worth slip) (slip.persons * DOLLAR) ∷ []))

-- what is said of bytes by where they are off the form of a slip
abbrev pub of_slip_text : Text → Option ℕ → Said
of_slip_text bytes (Some line) = unjudged (status.BadFile (bad.Slip line))
of_slip_text bytes None = of_slip (slip_in (rows_of bytes)) (chance_in (rows_of bytes))

-- the word for how the lines of an audit end
abbrev pub ending_word : Ending → Text
ending_word ending.Done = codes "done"
ending_word ending.Refused = codes "refused"
ending_word ending.Short = codes "short"

-- the lines that tell the first row that differs: as it is kept, and as it should be
abbrev pub differing_rows : ℕ → Text → Text → Text
differing_rows row kept right =
    line_of (codes "differs" ∷ decimal row ∷ []) ++ line_of (codes "kept" ∷ kept ∷ []) ++ line_of (codes "right" ∷ right ∷ [])

-- what is said of bytes whose rows are not all of the form of an audit
abbrev pub of_row_fault : RowFault → Said
of_row_fault (row.BadRow number) = unjudged (status.BadFile (bad.Row number))
of_row_fault row.Memory = unjudged status.Memory

-- what is said of an audit by what its replay shows
abbrev pub of_replay : Result Replayed RowFault → Said
of_replay (Ok (replayed.Same count end)) =
    (status.Done, line_of (codes "same" ∷ codes "lines" ∷ decimal count ∷ ending_word end ∷ []))
of_replay (Ok (replayed.Differs number kept right)) = (status.Differs number, differing_rows number kept right)
of_replay (Err fault) = of_row_fault fault

-- what is said of an audit by what becomes of it in the second version
abbrev pub of_migration : Result Migrated RowFault → Said
of_migration (Ok (migrated.Moved audit count)) =
    (status.Done, line_of (codes "migrated" ∷ codes "lines" ∷ decimal count ∷ []))
of_migration (Ok (migrated.Differs number kept right)) = (status.Differs number, differing_rows number kept right)
of_migration (Err fault) = of_row_fault fault

-- the audit of the second version
abbrev pub audit_moved : Result Migrated RowFault → Text
audit_moved (Ok (migrated.Moved audit count)) = audit
audit_moved (Ok (migrated.Differs number kept right)) = []
audit_moved (Err fault) = []

-- what is said of the bytes of a document
abbrev pub of_document : Document → Text → Said
of_document document.Slip bytes = of_slip_text bytes (fault_in bytes)
of_document document.Audit bytes = of_replay (replay_of bytes)
of_document document.OldAudit bytes = of_migration (migration_of bytes)

-- what is stored behind it, where anything is
abbrev pub file_of_document : Document → Text → Text
file_of_document document.Slip bytes = []
file_of_document document.Audit bytes = []
file_of_document document.OldAudit bytes = audit_moved (migration_of bytes)

-- a document can be refused for this
abbrev pub IsRefusal : Document → Bad → Type 0
IsRefusal document.Slip (bad.Slip line) = Unit {0}
IsRefusal document.Audit (bad.Row row) = Unit {0}
IsRefusal document.OldAudit (bad.Row row) = Unit {0}
IsRefusal d why = ⊥

-- a document is an audit
abbrev pub IsAuditFile : Document → Type 0
IsAuditFile document.Slip = ⊥
IsAuditFile document.Audit = Unit {0}
IsAuditFile document.OldAudit = Unit {0}

-- a document is judged so
abbrev pub IsVerdict : Document → Status → Type 0
IsVerdict d status.Done = Unit {0}
IsVerdict d (status.Wrong worth) = d ≡ document.Slip
IsVerdict d (status.Differs row) = IsAuditFile d
IsVerdict d (status.BadFile why) = IsRefusal d why
IsVerdict d s = ⊥

-- a call that judges a file has an answer so
abbrev pub EndsJudged : Document → Status → Type 0
EndsJudged d status.TooLong = Unit {0}
EndsJudged d s = IsVerdict d s

-- how many bytes a document has at most
abbrev pub most_of : Document → ℕ
most_of document.Slip = MOST_BYTES
most_of document.Audit = MOST_AUDIT_BYTES
most_of document.OldAudit = MOST_AUDIT_BYTES

-- what is said of loaded bytes, or why they are not judged
abbrev pub of_loaded : Document → Result Text Status → Said
of_loaded d (Ok bytes) = of_document d bytes
of_loaded d (Err s) = unjudged s

-- what is said of a file
abbrev pub judged : Document → Option Text → Said
judged d file = of_loaded d (loaded_within (most_of d) file)

-- what is stored behind what is said of loaded bytes
abbrev pub file_of_loaded : Document → Result Text Status → Text
file_of_loaded d (Ok bytes) = file_of_document d bytes
file_of_loaded d (Err s) = []

-- what is stored behind what is said of a file
abbrev pub file_judged : Document → Option Text → Text
file_judged d file = file_of_loaded d (loaded_within (most_of d) file)

-- An answer says this of the file of a name, where files tell what they hold.
pub record IsSaid (d : Document) (files : Option Contents) (name : Text) (s : Status) (text : Text) : Type 0 where
  pub ends : EndsJudged d s
  pub as_due : IfSome files (λ files. (s, text) ≡ judged d (get files name))

-- behind what is said of bytes stands the file that is to be stored, where one is and the call is done
pub record HasFileOf (d : Document) (bytes : Text) (f : Filed) : Type 0 where
  pub stored : IsTrue (is_stored d) → f.answer.status ≡ status.Done → IsSomeAnd f.file (λ file. file.items ≡ file_of_document d bytes)
  pub unless_done : f.answer.status ≢ status.Done → f.file ≡ None

-- the same of the file of a name, where files tell what they hold
pub record HasFile (d : Document) (files : Option Contents) (name : Text) (f : Filed) : Type 0 where
  pub stored : IsTrue (is_stored d) → f.answer.status ≡ status.Done → IfSome files (λ files.
      IsSomeAnd f.file (λ file. file.items ≡ file_judged d (get files name)))
  pub unless_done : f.answer.status ≢ status.Done → f.file ≡ None
