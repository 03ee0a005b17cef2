use Rattle.std.proofs.Common.{Err, ap, ◌∙◌, length, inl, inr}
use Rattle.std.proofs.lemmas.Result.{err_from_is_err_and}
use Rattle.house_model.proofs.EndTextLemmas.{end_text-ascii}
use Rattle.house_model.proofs.MarkLemmas.{length-marks}
use Rattle.replay_check.proofs.AnswerLemmas.{differs_where_none, moved_where_audit, never_differs, not_moved, rows_are_read, says_moved, says_nothing_moved, tells_no_row, tells_the_row}
use Rattle.replay_check.proofs.SaidLemmas.{differs_said, migration_bad, moved_said}
use Rattle.replay_check.proofs.migrate_audit.migrate.Goals as goal

pub returns-in_err-lines-clause-bad : goal.returns-in_err-lines-clause-bad
returns-in_err-lines-clause-bad c =
    let exit = err_from_is_err_and c.from_residual.result c.from_residual.ensures.1 in
    rw (exit.1, exit.2) c.in_err-lines.ensures.bad

pub returns-in-Some-clause-read : goal.returns-in-Some-clause-read
returns-in-Some-clause-read c =
    let k = c.in_ok-lines.field-0 in
    rows_are_read c.args.bytes.now k.lines k.run.marks.items k.run.told.end k.run.told.text.items k.difference c.in_ok-lines.ensures.ok

pub returns-in-Some-clause-moved : goal.returns-in-Some-clause-moved
returns-in-Some-clause-moved c =
    let k = c.in_ok-lines.field-0 in
    not_moved c.args.bytes.now k.lines k.run.marks.items k.run.told.end k.run.told.text.items c.in-Some.found (rw c.in-Some.is at c.in_ok-lines.ensures.ok)
    c.differs.result c.differs.ensures

pub returns-in-Some-clause-lines : goal.returns-in-Some-clause-lines
returns-in-Some-clause-lines c =
    let k = c.in_ok-lines.field-0 in
    says_nothing_moved c.args.bytes.now k.lines k.run.marks.items k.run.told.end k.run.told.text.items c.in-Some.found (rw c.in-Some.is at c.in_ok-lines.ensures.ok)
    c.differs.result c.differs.ensures

pub returns-in-Some-clause-differs : goal.returns-in-Some-clause-differs
returns-in-Some-clause-differs c =
    let k = c.in_ok-lines.field-0 in
    differs_where_none c.args.bytes.now k.lines k.run.marks.items k.run.told.end k.run.told.text.items c.in-Some.found (rw c.in-Some.is at c.in_ok-lines.ensures.ok)
    c.differs.result c.differs.ensures

pub returns-in-Some-clause-first : goal.returns-in-Some-clause-first
returns-in-Some-clause-first c =
    let k = c.in_ok-lines.field-0 in
    tells_the_row c.args.bytes.now k.lines k.run.marks.items k.run.told.end k.run.told.text.items c.in-Some.found (rw c.in-Some.is at c.in_ok-lines.ensures.ok)
    c.differs.result c.differs.ensures

pub moved-requires-clause-marked : goal.moved-requires-clause-marked
moved-requires-clause-marked c =
    let k = c.in_ok-lines.field-0 in
    ap length c.in_ok-lines.ensures.ok.run.marked ∙ length-marks k.lines

pub moved-requires-clause-few : goal.moved-requires-clause-few
moved-requires-clause-few c = c.in_ok-lines.ensures.ok.are_lines.few

pub moved-requires-clause-ascii : goal.moved-requires-clause-ascii
moved-requires-clause-ascii c =
    let k = c.in_ok-lines.field-0 in
    end_text-ascii k.lines k.run.told.text.items c.in_ok-lines.ensures.ok.run.says

pub returns-in_err-moved-in-None-clause-bad : goal.returns-in_err-moved-in-None-clause-bad
returns-in_err-moved-in-None-clause-bad c =
    let exit = err_from_is_err_and c.from_residual-in_err-moved-in-None.result c.from_residual-in_err-moved-in-None.ensures.1 in
    rw exit.1 (λ other. absurd (other exit.2))

pub returns-clause-read : goal.returns-clause-read
returns-clause-read c =
    let k = c.in_ok-lines.field-0 in
    rows_are_read c.args.bytes.now k.lines k.run.marks.items k.run.told.end k.run.told.text.items k.difference c.in_ok-lines.ensures.ok

pub returns-clause-moved : goal.returns-clause-moved
returns-clause-moved c =
    let k = c.in_ok-lines.field-0 in
    moved_where_audit c.args.bytes.now k.lines k.run.marks.items k.run.told.end k.run.told.text.items (rw c.in-None.is at c.in_ok-lines.ensures.ok)
    c.in_ok-moved-in-None.field-0 c.in_ok-moved-in-None.ensures

pub returns-clause-lines : goal.returns-clause-lines
returns-clause-lines c =
    let k = c.in_ok-lines.field-0 in
    says_moved c.args.bytes.now k.lines k.run.marks.items k.run.told.end k.run.told.text.items (rw c.in-None.is at c.in_ok-lines.ensures.ok)
    c.in_ok-moved-in-None.field-0 c.in_ok-moved-in-None.ensures

pub returns-clause-differs : goal.returns-clause-differs
returns-clause-differs c =
    let k = c.in_ok-lines.field-0 in
    never_differs c.args.bytes.now k.lines k.run.marks.items k.run.told.end k.run.told.text.items (rw c.in-None.is at c.in_ok-lines.ensures.ok)
    c.in_ok-moved-in-None.field-0 c.in_ok-moved-in-None.ensures

pub returns-clause-first : goal.returns-clause-first
returns-clause-first c =
    let k = c.in_ok-lines.field-0 in
    tells_no_row c.args.bytes.now k.lines k.run.marks.items k.run.told.end k.run.told.text.items (rw c.in-None.is at c.in_ok-lines.ensures.ok)
    c.in_ok-moved-in-None.field-0 c.in_ok-moved-in-None.ensures

pub returns-in_err-lines-clause-said : goal.returns-in_err-lines-clause-said
returns-in_err-lines-clause-said c =
    let exit = err_from_is_err_and c.from_residual.result c.from_residual.ensures.1 in
    migration_bad c.args.bytes.now _ c.from_residual.result (exit.1 ∙ ap Err exit.2) c.in_err-lines.ensures.bad

pub returns-in-Some-clause-said : goal.returns-in-Some-clause-said
returns-in-Some-clause-said c =
    let k = c.in_ok-lines.field-0 in
    inr (differs_said c.args.bytes.now k.lines k.run.marks.items k.run.told.end k.run.told.text.items c.in-Some.found c.differs.result (rw c.in-Some.is at c.in_ok-lines.ensures.ok) c.differs.ensures)

pub returns-in_err-moved-in-None-clause-said : goal.returns-in_err-moved-in-None-clause-said
returns-in_err-moved-in-None-clause-said c =
    let exit = err_from_is_err_and c.from_residual-in_err-moved-in-None.result c.from_residual-in_err-moved-in-None.ensures.1 in
    inl (exit.1 ∙ ap Err exit.2)

pub returns-clause-said : goal.returns-clause-said
returns-clause-said c =
    let k = c.in_ok-lines.field-0 in
    inr (moved_said c.args.bytes.now k.lines k.run.marks.items k.run.told.end k.run.told.text.items c.in_ok-moved-in-None.field-0 (rw c.in-None.is at c.in_ok-lines.ensures.ok)
    c.in_ok-moved-in-None.ensures)
