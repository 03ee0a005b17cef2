use Rattle.std.proofs.lemmas.Result.{err_from_is_err_and}
use Rattle.replay_check.proofs.AnswerLemmas.{differs_elsewhere, rows_are_read, same_where_audit, says_first, says_same}
use Rattle.std.proofs.Common.{Err, ap, ◌∙◌, inr}
use Rattle.replay_check.proofs.SaidLemmas.{replay_bad, replay_said}
use Rattle.replay_check.proofs.replay_audit.replay.Goals as goal

pub returns-in_err-checked-clause-bad : goal.returns-in_err-checked-clause-bad
returns-in_err-checked-clause-bad c =
    let exit = err_from_is_err_and c.from_residual.result c.from_residual.ensures.1 in
    rw (exit.1, exit.2) c.in_err-checked.ensures.bad

pub returns-clause-read : goal.returns-clause-read
returns-clause-read c =
    let k = c.in_ok-checked.checked in
    rows_are_read c.args.bytes.now k.lines k.run.marks.items k.run.told.end k.run.told.text.items k.difference c.in_ok-checked.ensures.ok

pub returns-clause-same : goal.returns-clause-same
returns-clause-same c =
    let k = c.in_ok-checked.checked in
    rw c.answer_of.ensures
    (same_where_audit c.args.bytes.now k.lines k.run.marks.items k.run.told.end k.run.told.text.items c.count-count.result c.ending_of-ending.result k.difference c.in_ok-checked.ensures.ok)

pub returns-clause-lines : goal.returns-clause-lines
returns-clause-lines c =
    let k = c.in_ok-checked.checked in
    rw c.answer_of.ensures
    (says_same c.args.bytes.now k.lines k.run.marks.items k.run.told.end k.run.told.text.items c.count-count.result c.ending_of-ending.result k.difference c.in_ok-checked.ensures.ok
    c.count-count.ensures c.ending_of-ending.ensures)

pub returns-clause-differs : goal.returns-clause-differs
returns-clause-differs c =
    let k = c.in_ok-checked.checked in
    rw c.answer_of.ensures
    (differs_elsewhere c.args.bytes.now k.lines k.run.marks.items k.run.told.end k.run.told.text.items c.count-count.result c.ending_of-ending.result k.difference c.in_ok-checked.ensures.ok)

pub returns-clause-first : goal.returns-clause-first
returns-clause-first c =
    let k = c.in_ok-checked.checked in
    rw c.answer_of.ensures
    (says_first c.args.bytes.now k.lines k.run.marks.items k.run.told.end k.run.told.text.items c.count-count.result c.ending_of-ending.result k.difference c.in_ok-checked.ensures.ok)

pub returns-in_err-checked-clause-said : goal.returns-in_err-checked-clause-said
returns-in_err-checked-clause-said c =
    let exit = err_from_is_err_and c.from_residual.result c.from_residual.ensures.1 in
    replay_bad c.args.bytes.now _ c.from_residual.result (exit.1 ∙ ap Err exit.2) c.in_err-checked.ensures.bad

pub returns-clause-said : goal.returns-clause-said
returns-clause-said c =
    let k = c.in_ok-checked.checked in
    rw c.answer_of.ensures
    (inr (replay_said c.args.bytes.now k.lines k.run.marks.items k.run.told.end k.run.told.text.items k.difference c.count-count.result c.ending_of-ending.result c.in_ok-checked.ensures.ok
    c.count-count.ensures c.ending_of-ending.ensures))
