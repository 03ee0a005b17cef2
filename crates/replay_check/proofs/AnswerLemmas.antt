-- What a replay and a migration say, by the comparison of a file with the audit of its lines.
use Rattle.std.proofs.Common.{◌≡◌, ◌↔◌, ℕ, List, length, Option, Some, None, ap, ◌∙◌}
use Rattle.std.specs.Result.{IsOk, is_ok}
use Rattle.audit_chain.specs.Chain.{audit_bytes}
use Rattle.audit_chain.specs.File.{lines_held}
use Rattle.end_text.specs.End.{ended_as}
use Rattle.end_text.specs.declared.end.RunEnd.{RunEnd}
use Rattle.house_base.specs.Text.{Text}
use Rattle.house_base.specs.declared.answer.Took.{Took}
use Rattle.house_model.specs.Text.{Lines}
use Rattle.replay_check.specs.declared.differ.Difference.{Difference}
use Rattle.replay_check.specs.declared.migrate_audit.Migrated.{Migrated}
use Rattle.replay_check.specs.declared.migrate_audit.Migrated.TheVariants as migrated
use Rattle.replay_check.specs.declared.replay_audit.Ending.{Ending}
use Rattle.replay_check.specs.Audit.{IsAudit}
use Rattle.replay_check.specs.Check.{IsChecked}
use Rattle.replay_check.specs.Migrate as migrate
use Rattle.replay_check.specs.Replay as replay
use Rattle.replay_check.proofs.VerdictLemmas.{other_differs, other_is_none, same_is_audit, second_audit}

pub rows_are_read : (bytes : Text) (lines : Lines) (made : List Took) (end : RunEnd) (text : Text) (found : Option Difference) → IsChecked bytes lines made end text found → IsOk (lines_held bytes)
rows_are_read bytes lines made end text found checked = ap is_ok checked.held

-- A replay.

module _ (bytes : Text) (lines : Lines) (made : List Took) (end : RunEnd) (text : Text) (count : ℕ) (ending : Ending) where
  pub same_where_audit : (found : Option Difference) → IsChecked bytes lines made end text found → replay.IsSame (replay.replayed_of found count ending) ↔ IsAudit bytes
  same_where_audit None checked = (λ _. same_is_audit bytes lines made end text checked, λ _. tt)
  same_where_audit (Some d) checked = (λ h. absurd h, λ is. absurd (other_is_none bytes lines made end text d checked is))

  pub differs_elsewhere : (found : Option Difference) → IsChecked bytes lines made end text found → replay.IsDiffers (replay.replayed_of found count ending) ↔ ¬ IsAudit bytes
  differs_elsewhere None checked = (λ h. absurd h, λ none. absurd (none (same_is_audit bytes lines made end text checked)))
  differs_elsewhere (Some d) checked = (λ _ is. other_is_none bytes lines made end text d checked is, λ _. tt)

  pub says_same : (found : Option Difference) → IsChecked bytes lines made end text found → count ≡ length lines → ending ≡ replay.ending_as (ended_as end) → replay.SaysSame bytes (replay.replayed_of found count ending)
  says_same None checked all is = (lines, checked.held, all, is ∙ ap replay.ending_as checked.run.ends)
  says_same (Some d) checked all is = tt

  pub says_first : (found : Option Difference) → IsChecked bytes lines made end text found → replay.DiffersFirst bytes (replay.replayed_of found count ending)
  says_first None checked = tt
  says_first (Some d) checked = other_differs bytes lines made end text d checked

-- A migration.

module _ (bytes : Text) (lines : Lines) (made : List Took) (end : RunEnd) (text : Text) (checked : IsChecked bytes lines made end text None) where
  pub moved_where_audit : (answer : Migrated) → migrate.IsMovedTo (audit_bytes 2 lines made text) (length lines) answer → migrate.IsMoved answer ↔ IsAudit bytes
  moved_where_audit (migrated.Moved fresh count) is = (λ _. same_is_audit bytes lines made end text checked, λ _. tt)
  moved_where_audit (migrated.Differs number kept right) is = absurd is

  pub never_differs : (answer : Migrated) → migrate.IsMovedTo (audit_bytes 2 lines made text) (length lines) answer → migrate.IsDiffers answer ↔ ¬ IsAudit bytes
  never_differs (migrated.Moved fresh count) is = (λ h. absurd h, λ none. absurd (none (same_is_audit bytes lines made end text checked)))
  never_differs (migrated.Differs number kept right) is = absurd is

  pub says_moved : (answer : Migrated) → migrate.IsMovedTo (audit_bytes 2 lines made text) (length lines) answer → migrate.SaysMoved bytes answer
  says_moved (migrated.Moved fresh count) is = (lines, checked.held, second_audit bytes lines made end text fresh None checked is.0, is.1)
  says_moved (migrated.Differs number kept right) is = absurd is

  pub tells_no_row : (answer : Migrated) → migrate.IsMovedTo (audit_bytes 2 lines made text) (length lines) answer → migrate.DiffersFirst bytes answer
  tells_no_row (migrated.Moved fresh count) is = tt
  tells_no_row (migrated.Differs number kept right) is = absurd is

module _ (bytes : Text) (lines : Lines) (made : List Took) (end : RunEnd) (text : Text) (d : Difference) (checked : IsChecked bytes lines made end text (Some d)) where
  pub not_moved : (answer : Migrated) → answer ≡ migrated.Differs d.number d.kept d.right → migrate.IsMoved answer ↔ IsAudit bytes
  not_moved answer is = rw is (λ h. absurd h, λ audit. absurd (other_is_none bytes lines made end text d checked audit))

  pub differs_where_none : (answer : Migrated) → answer ≡ migrated.Differs d.number d.kept d.right → migrate.IsDiffers answer ↔ ¬ IsAudit bytes
  differs_where_none answer is = rw is (λ _ audit. other_is_none bytes lines made end text d checked audit, λ _. tt)

  pub says_nothing_moved : (answer : Migrated) → answer ≡ migrated.Differs d.number d.kept d.right → migrate.SaysMoved bytes answer
  says_nothing_moved answer is = rw is tt

  pub tells_the_row : (answer : Migrated) → answer ≡ migrated.Differs d.number d.kept d.right → migrate.DiffersFirst bytes answer
  tells_the_row answer is = rw is (other_differs bytes lines made end text d checked)
