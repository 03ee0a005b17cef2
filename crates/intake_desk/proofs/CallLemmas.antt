-- A call, from the start of its journal.
use Rattle.std.proofs.Common.{◌≡◌, ◌⊎◌, inl, inr, ℕ, ◌≤◌, ◌<◌, Bool, true, false, cond, nat_le, [], ◌∷◌, ◌++◌, length, refl, sym, ◌∙◌, ap, subst, arith, Option, Some, None, IfSome, Decides}
use Rattle.std.proofs.lemmas.Bool.Decides.{nat_tests}
use Rattle.house_base.specs.Text.{Text}
use Rattle.house_io.specs.Sink.{SameWhereTold}
use Rattle.house_io.proofs.Told.{AppendsWhereTold-refl}
use Rattle.house_model.specs.Text.{Lines}
use Rattle.intake_log.specs.Journal.{StandsFor}
use Rattle.intake_log.specs.Log.{LeavesLines}
use Rattle.intake_log.specs.Scan.{found, settled}
use Rattle.intake_log.specs.Scan.Scanned.{Ended, OffForm, Over}
use Rattle.intake_log.specs.Start.{IsEarlierOrShort}
use Rattle.intake_log.specs.declared.fault.StartFault.{StartFault}
use Rattle.intake_log.specs.declared.fault.StartFault.TheVariants as fault
use Rattle.intake_log.proofs.FoundLemmas.{stands-found}
use Rattle.intake_log.proofs.JournalLemmas.{held, if_some}
use Rattle.intake_desk.specs.Due.{GivesWhole, HasLines, IsDue, due_status, lines_to_put, status_of, status_on}
use Rattle.intake_desk.specs.Intake.{told}
use Rattle.intake_desk.specs.Progress.{IsFront}
use Rattle.intake_desk.specs.declared.words.Asked.{Asked}
use Rattle.intake_desk.specs.declared.status.DeskStatus.{DeskStatus}
use Rattle.intake_desk.specs.declared.status.DeskStatus.TheVariants as status
use Rattle.intake_desk.proofs.DueLemmas.{told-fewer, whole-within}
use Rattle.intake_desk.proofs.MomentLemmas.{is-told}

-- what is asked for, and what is found, is one
pub same-asked : (words : Option Asked) (a b : Asked) → words ≡ Some a → words ≡ Some b → a ≡ b
same-asked words a b x y = let e : Some a ≡ Some b = sym x ∙ y in cc

same-lines : (bytes : Text) (a b : Lines) → found bytes ≡ Ended a → found bytes ≡ Ended b → a ≡ b
same-lines bytes a b x y = let e : Ended a ≡ Ended b = sym x ∙ y in cc

pub lines-found : (file : Option Text) (bytes : Text) (lines old : Lines) → IfSome file (λ b. found b ≡ Ended lines) → file ≡ Some bytes → found bytes ≡ Ended old → lines ≡ old
lines-found file bytes lines old ends reads journal = same-lines bytes lines old (held file _ bytes reads ends) journal

-- a file of at most one byte has no lines
short-found : (bytes : Text) → length bytes ≤ 1 → found bytes ≡ Ended []
short-found bytes short = stands-found bytes [] (inl (short, refl)) (record { count = omega arith; size = omega arith })

-- an image that a start may leave
pub start-front : (bytes : Text) (old input : Lines) (images : Text → Type 0) → found bytes ≡ Ended old → (image : Text) → IsEarlierOrShort bytes images image → images image ⊎ IsFront old input image
start-front bytes old input images journal image (inl earlier) = inl earlier
start-front bytes old input images journal image (inr short) =
    inr (0, subst (λ l. StandsFor image (l ++ [])) (same-lines bytes [] old (short-found bytes short.0) journal) (inl (short.1, refl)))

-- the file of a disk stands for what a crash leaves
pub has-lines : {D : Type 0} (content : D → Option Text) (images : D → Text → Type 0) (disk : D) (lines : Lines) → IfSome (content disk) (images disk) → LeavesLines content images disk lines → HasLines content images disk lines
has-lines content images disk lines stays leaves = record {
  stands = if_some (content disk) _ (λ bytes e. leaves (is-told (content disk) bytes e) bytes (held (content disk) (images disk) bytes e stays));
  durable = leaves;
}

-- a journal that is not of the form stays as it is
pub settled-long : (bytes : Text) → ((old : Lines) → found bytes ≡ Ended old → ⊥) → settled bytes ≡ bytes
settled-long bytes none = go (nat_le (length bytes) 1) refl
  where
    le-one : Decides (nat_le (length bytes) 1) (length bytes ≤ 1)
    le-one = grind (arith, nat_tests)

    go : (b : Bool) → nat_le (length bytes) 1 ≡ b → settled bytes ≡ bytes
    go true e = absurd (none [] (short-found bytes (le-one.0 e)))
    go false e = ap (λ b. cond b (0 ∷ []) bytes) e

pub same-given : (given : Option Text) → SameWhereTold given given
same-given None = tt
same-given (Some past) = refl

-- no line was given
pub none-given : (given : Option Text) (old count : ℕ) → 0 < count → GivesWhole given given (told old count) → ⊥
none-given given old count some whole =
    let few : count ≤ 0 = told-fewer old count 0 (whole-within given given (told old count) [] whole (AppendsWhereTold-refl given)) in
    omega (arith, some, few)

any-due : (due : Option DeskStatus) → IfSome due (λ d. Unit {0})
any-due None = tt
any-due (Some d) = tt

module _ (asked : Asked) (file left : Option Text) (cause : StartFault) where
  pub due-stopped : ((place : ℕ) → cause ≡ fault.BadJournal place → IfSome file (λ b. found b ≡ OffForm place)) → (cause ≡ fault.Full → IfSome file (λ b. found b ≡ Over))
      → IfSome (due_status (Some asked) file left) (λ due. IsDue due (status_of cause))
  due-stopped bad full = go file cause bad full
    where
      go : (file : Option Text) (cause : StartFault) → ((place : ℕ) → cause ≡ fault.BadJournal place → IfSome file (λ b. found b ≡ OffForm place)) → (cause ≡ fault.Full → IfSome file (λ b. found b ≡ Over))
          → IfSome (due_status (Some asked) file left) (λ due. IsDue due (status_of cause))
      go None cause bad full = tt
      go (Some bytes) fault.Failed bad full = any-due (status_on (found bytes) (lines_to_put asked left))
      go (Some bytes) fault.Memory bad full = any-due (status_on (found bytes) (lines_to_put asked left))
      go (Some bytes) (fault.BadJournal place) bad full =
          subst (λ s. IfSome (status_on s (lines_to_put asked left)) (λ due. IsDue due (status.BadJournal place))) (sym (bad place refl)) refl
      go (Some bytes) fault.Full bad full =
          subst (λ s. IfSome (status_on s (lines_to_put asked left)) (λ due. IsDue due status.Full)) (sym (full refl)) refl

  pub complete-stopped : (cause ≡ fault.Failed → ⊥) → IfSome (due_status (Some asked) file left) (λ due. IsDue due (status_of cause))
      → IfSome (due_status (Some asked) file left) (λ due. (status_of cause ≡ due) ⊎ (status_of cause ≡ status.Memory))
  complete-stopped sound due = go (due_status (Some asked) file left) cause sound due
    where
      go : (due : Option DeskStatus) (cause : StartFault) → (cause ≡ fault.Failed → ⊥) → IfSome due (λ due. IsDue due (status_of cause))
          → IfSome due (λ due. (status_of cause ≡ due) ⊎ (status_of cause ≡ status.Memory))
      go None cause sound due = tt
      go (Some d) fault.Failed sound due = absurd (sound refl)
      go (Some d) fault.Memory sound due = inr refl
      go (Some d) (fault.BadJournal place) sound due = inl due
      go (Some d) fault.Full sound due = inl due
