use Rattle.std.proofs.Common.{sym, ap, ◌∙◌, subst, length}
use Rattle.std.specs.Prelude.{IsAscii}
use Rattle.std.proofs.lemmas.Result.{err_from_is_err_and}
use Rattle.house_model.proofs.EndTextLemmas.{end_text-ascii}
use Rattle.house_model.proofs.MarkLemmas.{length-marks}
use Rattle.replay_check.proofs.RowLemmas.{is_version, never_refused}
use Rattle.replay_check.proofs.VerdictLemmas.{checked_by}
use Rattle.replay_check.proofs.check.check.Goals as goal

pub returns-in_err-lines-clause-bad : goal.returns-in_err-lines-clause-bad
returns-in_err-lines-clause-bad c =
    let exit = err_from_is_err_and c.from_residual.result c.from_residual.ensures.1 in
    rw (exit.1, exit.2) c.in_err-lines.ensures.bad

pub returns-in_err-version-clause-bad : goal.returns-in_err-version-clause-bad
returns-in_err-version-clause-bad c =
    let exit = err_from_is_err_and c.from_residual-in_err-version.result c.from_residual-in_err-version.ensures.1 in
    rw (exit.1, exit.2) (λ other. absurd (never_refused c.args.bytes.now c.in_ok-lines.lines _ c.in_ok-lines.ensures.ok (c.in_err-version.ensures.bad other)))

pub run_again-requires : goal.run_again-requires
run_again-requires c = c.in_ok-lines.ensures.lines.few

pub returns-in_err-run-clause-bad : goal.returns-in_err-run-clause-bad
returns-in_err-run-clause-bad c =
    let exit = err_from_is_err_and c.from_residual-in_err-run.result c.from_residual-in_err-run.ensures.1 in
    rw exit.1 (λ other. absurd (other exit.2))

pub audit_of-requires-clause-known : goal.audit_of-requires-clause-known
audit_of-requires-clause-known c = is_version c.args.bytes.now c.in_ok-version.version c.in_ok-version.ensures.ok

pub audit_of-requires-clause-marked : goal.audit_of-requires-clause-marked
audit_of-requires-clause-marked c =
    ap length c.deref.ensures.value ∙ ap length c.in_ok-run.ensures.marked ∙ length-marks c.in_ok-lines.lines

pub audit_of-requires-clause-few : goal.audit_of-requires-clause-few
audit_of-requires-clause-few c = c.in_ok-lines.ensures.lines.few

pub audit_of-requires-clause-ascii : goal.audit_of-requires-clause-ascii
audit_of-requires-clause-ascii c =
    subst IsAscii (sym c.deref-2.ensures.value) (end_text-ascii c.in_ok-lines.lines c.in_ok-run.run'.told.text.items c.in_ok-run.ensures.says)

pub returns-in_err-right-clause-bad : goal.returns-in_err-right-clause-bad
returns-in_err-right-clause-bad c =
    let exit = err_from_is_err_and c.from_residual-in_err-right.result c.from_residual-in_err-right.ensures.1 in
    rw exit.1 (λ other. absurd (other exit.2))

pub returns-in_err-difference-clause-bad : goal.returns-in_err-difference-clause-bad
returns-in_err-difference-clause-bad c =
    let exit = err_from_is_err_and c.from_residual-in_err-difference.result c.from_residual-in_err-difference.ensures.1 in
    rw exit.1 (λ other. absurd (other exit.2))

pub returns-clause-ok : goal.returns-clause-ok
returns-clause-ok c =
    let run = c.in_ok-run.run' in
    checked_by c.in_ok-difference.difference c.args.bytes.now c.in_ok-right.right.items c.in_ok-version.version c.in_ok-lines.lines run.marks.items run.told.end run.told.text.items
    c.in_ok-lines.ensures.ok c.in_ok-version.ensures.ok c.in_ok-lines.ensures.lines c.in_ok-run.ensures
    (rw (c.deref.ensures.value, c.deref-2.ensures.value) at c.in_ok-right.ensures) (rw c.deref-3.ensures.value at c.in_ok-difference.ensures)
