-- What is said of a file is what is found of it.
use Rattle.std.proofs.Common.{◌≡◌, ◌≢◌, ◌⊎◌, ℕ, ◌+◌, true, false, cond, List, [], ◌∷◌, ◌++◌, length, Option, Some, None, Result, Ok, Err, refl, sym, ap, ◌∙◌, subst, inl, inr, arith}
use Rattle.std.specs.Str.{bytes_eq}
use Rattle.house_base.proofs.AmongLemmas.{bytes_eq-other, bytes_eq-same}
use Rattle.audit_chain.specs.Chain.{audit_bytes}
use Rattle.audit_chain.specs.File.{lines_held, rows, version_held}
use Rattle.audit_chain.specs.declared.fault.RowFault.{RowFault}
use Rattle.audit_chain.specs.declared.fault.RowFault.TheVariants as fault
use Rattle.end_text.specs.End.{ended_as}
use Rattle.end_text.specs.declared.end.RunEnd.{RunEnd}
use Rattle.end_text.proofs.TextLemmas.{end_text-found}
use Rattle.house_base.specs.Text.{Text}
use Rattle.house_base.specs.declared.answer.Took.{Took}
use Rattle.house_model.specs.declared.goal.Goal.TheVariants as goal
use Rattle.house_model.specs.LineMarks.{marks}
use Rattle.house_model.specs.Runs.{end_of}
use Rattle.house_model.specs.Text.{Lines}
use Rattle.replay_check.specs.declared.differ.Difference.{Difference}
use Rattle.replay_check.specs.declared.migrate_audit.Migrated.{Migrated}
use Rattle.replay_check.specs.declared.replay_audit.Ending.{Ending}
use Rattle.replay_check.specs.declared.replay_audit.Replayed.{Replayed}
use Rattle.replay_check.specs.Check.{IsChecked}
use Rattle.replay_check.specs.Migrate.{IsMovedTo}
use Rattle.replay_check.specs.declared.migrate_audit.Migrated.TheVariants as migrated
use Rattle.replay_check.specs.Replay.{ending_as, replayed_of}
use Rattle.replay_check.specs.Rows.{IsFirstDifference}
use Rattle.replay_check.specs.Said.{audit_of, difference_from, first_difference, migrated_of, migration_of, replay_of, said_of}

-- The first row that differs.

no_difference : (number : ℕ) (rows : List Text) → first_difference number rows rows ≡ None
unfolding first_difference
no_difference number [] = refl
no_difference number (row ∷ more) =
    ap (λ same. cond same (first_difference (number + 1) more more) (Some (record { number = number; kept = row; right = row }))) (bytes_eq-same row row refl)
    ∙ no_difference (number + 1) more

difference_behind : (number : ℕ) (before : List Text) (kept right : Text) (more others : List Text) → (kept ≡ right → ⊥) →
    first_difference number (before ++ kept ∷ more) (before ++ right ∷ others) ≡ Some (record { number = number + length before; kept = kept; right = right })
unfolding first_difference
difference_behind number [] kept right more others differ =
    ap (λ same. cond same (first_difference (number + 1) more others) (Some (record { number = number; kept = kept; right = right }))) (bytes_eq-other kept right differ)
    ∙ ap (λ n. Some (record { number = n; kept = kept; right = right })) (let same : number ≡ number + 0 = omega arith in same)
difference_behind number (row ∷ before) kept right more others differ =
    ap (λ same. cond same (first_difference (number + 1) (before ++ kept ∷ more) (before ++ right ∷ others)) (Some (record { number = number; kept = row; right = row }))) (bytes_eq-same row row refl)
    ∙ difference_behind (number + 1) before kept right more others differ
    ∙ ap (λ n. Some (record { number = n; kept = kept; right = right })) (let same : (number + 1) + length before ≡ number + length (row ∷ before) = omega arith in same)

difference_found : (kept right : List Text) (d : Difference) → IsFirstDifference kept right d.number d.kept d.right → first_difference 1 kept right ≡ Some d
difference_found kept right d is =
    ap (λ ks. first_difference 1 ks right) is.in_kept
    ∙ ap (first_difference 1 (is.before ++ d.kept ∷ is.kept_behind)) is.in_right
    ∙ difference_behind 1 is.before d.kept d.right is.kept_behind is.right_behind is.differ
    ∙ ap (λ n. Some (record { number = n; kept = d.kept; right = d.right })) (let same : 1 + length is.before ≡ d.number = omega (arith, is.number_is) in same)

-- What is compared.

module _ (bytes : Text) (lines : Lines) (made : List Took) (end : RunEnd) (text : Text) where
  audit_is : (version : ℕ) (found : Option Difference) → IsChecked bytes lines made end text found → audit_bytes version lines made text ≡ audit_of version lines
  audit_is version found checked =
      ap (λ ms. audit_bytes version lines ms text) checked.run.marked
      ∙ ap (audit_bytes version lines (marks lines)) (end_text-found lines text checked.run.says)

  found_is : (found : Option Difference) (checked : IsChecked bytes lines made end text found) → difference_from bytes checked.version lines ≡ found
  found_is None checked =
      let right = checked.verdict ∙ audit_is checked.version None checked in
      ap (λ t. first_difference 1 (rows bytes) (rows t)) (sym right) ∙ no_difference 1 (rows bytes)
  found_is (Some d) checked =
      ap (λ t. first_difference 1 (rows bytes) (rows t)) (sym (audit_is checked.version (Some d) checked))
      ∙ difference_found (rows bytes) (rows (audit_bytes checked.version lines made text)) d checked.verdict

  said_is : {A : Type 0} (say : ℕ → Lines → A) (found : Option Difference) (checked : IsChecked bytes lines made end text found) → said_of say (lines_held bytes) (version_held bytes) ≡ Ok (say checked.version lines)
  said_is say found checked = ap (λ held. said_of say held (version_held bytes)) checked.held ∙ ap (said_of say (Ok lines)) checked.named

  pub replay_said : (found : Option Difference) (count : ℕ) (ending : Ending) → IsChecked bytes lines made end text found → count ≡ length lines → ending ≡ ending_as (ended_as end) →
      Ok (replayed_of found count ending) ≡ replay_of bytes
  unfolding replay_of
  replay_said found count ending checked all is =
      ap Ok (ap (λ f. replayed_of f count ending) (sym (found_is found checked)) ∙ ap (λ n. replayed_of (difference_from bytes checked.version lines) n ending) all
      ∙ ap (replayed_of (difference_from bytes checked.version lines) (length lines)) (is ∙ ap ending_as checked.run.ends))
      ∙ sym (said_is (λ version lines. replayed_of (difference_from bytes version lines) (length lines) (ending_as (end_of goal.Run lines))) found checked)

  migration_by : (found : Option Difference) (answer : Migrated) → IsChecked bytes lines made end text found → answer ≡ migrated_of found (audit_of 2 lines) (length lines) → Ok answer ≡ migration_of bytes
  unfolding migration_of
  migration_by found answer checked is =
      ap Ok (is ∙ ap (λ f. migrated_of f (audit_of 2 lines) (length lines)) (sym (found_is found checked)))
      ∙ sym (said_is (λ version lines. migrated_of (difference_from bytes version lines) (audit_of 2 lines) (length lines)) found checked)

  pub moved_said : (answer : Migrated) → IsChecked bytes lines made end text None → IsMovedTo (audit_bytes 2 lines made text) (length lines) answer → Ok answer ≡ migration_of bytes
  moved_said answer checked moved = migration_by None answer checked (moved_is answer moved)
    where
      moved_is : (answer : Migrated) → IsMovedTo (audit_bytes 2 lines made text) (length lines) answer → answer ≡ migrated.Moved (audit_of 2 lines) (length lines)
      moved_is (migrated.Moved fresh count) (is, all) = ap (λ t. migrated.Moved t count) (is ∙ audit_is 2 None checked) ∙ ap (migrated.Moved (audit_of 2 lines)) all
      moved_is (migrated.Differs number kept right) wrong = absurd wrong

  pub differs_said : (d : Difference) (answer : Migrated) → IsChecked bytes lines made end text (Some d) → answer ≡ migrated.Differs d.number d.kept d.right → Ok answer ≡ migration_of bytes
  differs_said d answer checked is = migration_by (Some d) answer checked is

-- A file whose rows are not of the form.

bad_said : {A : Type 0} (say : ℕ → Lines → A) (bytes : Text) (why : RowFault) (r : Result A RowFault) → r ≡ Err why → (why ≢ fault.Memory → lines_held bytes ≡ Err why) →
    (r ≡ Err fault.Memory) ⊎ (r ≡ said_of say (lines_held bytes) (version_held bytes))
bad_said say bytes fault.Memory r is bad = inl is
bad_said say bytes (fault.BadRow row) r is bad = inr (is ∙ sym (ap (λ held. said_of say held (version_held bytes)) (bad (λ wrong. cc))))

pub replay_bad : (bytes : Text) (why : RowFault) (r : Result Replayed RowFault) → r ≡ Err why → (why ≢ fault.Memory → lines_held bytes ≡ Err why) → (r ≡ Err fault.Memory) ⊎ (r ≡ replay_of bytes)
unfolding replay_of
replay_bad bytes why r is bad = bad_said (λ version lines. replayed_of (difference_from bytes version lines) (length lines) (ending_as (end_of goal.Run lines))) bytes why r is bad

pub migration_bad : (bytes : Text) (why : RowFault) (r : Result Migrated RowFault) → r ≡ Err why → (why ≢ fault.Memory → lines_held bytes ≡ Err why) → (r ≡ Err fault.Memory) ⊎ (r ≡ migration_of bytes)
unfolding migration_of
migration_bad bytes why r is bad = bad_said (λ version lines. migrated_of (difference_from bytes version lines) (audit_of 2 lines) (length lines)) bytes why r is bad
