-- An answer with the file that is to be stored behind it, and what comes of it.
use Rattle.std.specs.Prelude.{◌≡◌, ◌≢◌, ◌⊎◌, ℕ, take, MatchOption, Option, None, IfSome, IsSomeAnd, Result, Ok, Err}
use Rattle.house_base.specs.Text.{Text}
use Rattle.house_io.specs.Faults.{Rose}
use Rattle.house_io.specs.Files.{Contents, KeepsOthers, told_with}
use Rattle.house_io.specs.Sink.{AppendsWhereTold}
use Rattle.house_top.specs.declared.filed.Filed.{Filed}
use Rattle.house_top.specs.declared.form.Form.{Form}
use Rattle.house_top.specs.declared.status.Status.{Status}
use Rattle.house_top.specs.declared.status.Status.TheVariants as status
use Rattle.house_top.specs.Due.{due_file}
use Rattle.house_top.specs.Given.{Given}
use Rattle.house_top.specs.Promise.{Counts}
use Rattle.input_run.specs.declared.fault.InputFault.{InputFault}
use Rattle.input_run.specs.declared.fault.InputFault.TheVariants as fault

-- what is to be stored behind an answer is what is due there, and there is nothing where the call is not done
pub record FilesWhatIsDue (asked : Option Form) (given : Option Given) (f : Filed) : Type 0 where
  pub stored : f.answer.status ≡ status.Done → IfSome given (λ given.
      IsSomeAnd f.file (λ file. file.items ≡ due_file asked given))
  pub unless_done : f.answer.status ≢ status.Done → f.file ≡ None

-- the status of such an answer, or of the fault for which there is none
abbrev pub status_of_filed : Result Filed InputFault → Status
status_of_filed (Ok filed) = filed.answer.status
status_of_filed (Err fault.Failed) = status.ReadFault
status_of_filed (Err fault.Memory) = status.Memory

-- What comes of a file that is to be stored: the call ends as it was answered, and where there is a file it is stored; or
-- it was not stored, which is counted.
abbrev pub IsStored : {F : Type 0} → (F → Option Contents) → Filed → Text → Counts → Status → F → F → Type 0
IsStored {F} shown f name files s old new =
    ((s ≡ f.answer.status) × MatchOption f.file (new ≡ old) (λ file. shown new ≡ told_with (shown old) name file.items))
    ⊎ ((s ≡ status.WriteFault) × KeepsOthers (shown old) (shown new) name × Rose files.0 files.1)

-- An answer is given whole, and then its file is stored; or a front of it is given, a fault is counted, and no file is
-- touched.
abbrev pub IsGivenAndStored : {O F : Type 0} → (O → Option Text) → (F → Option Contents) → Filed → Text → Counts → Counts → Status
    → O → O → F → F → Type 0
IsGivenAndStored {O} {F} told shown f name writes files s old new before after =
    (AppendsWhereTold (told old) (told new) f.answer.text.items × IsStored shown f name files s before after)
    ⊎ ((s ≡ status.WriteFault) × (after ≡ before) × Rose writes.0 writes.1
    × ((count : ℕ) × AppendsWhereTold (told old) (told new) (take count f.answer.text.items)))
