use Rattle.std.proofs.Common.{◌++◌, ap, ◌∙◌}
use Rattle.house_model.specs.Report.{outcome_text}
use Rattle.reserve_list.proofs.FileLemmas.{reserve-bad, reserve-ok}
use Rattle.reserve_list.proofs.file.text_of.Goals as goal

pub returns-in-Err-leave-clause-bad : goal.returns-in-Err-leave-clause-bad
returns-in-Err-leave-clause-bad c = λ line reason e.
    reserve-bad c.args.outcome.now c.in-Ok.board c.args.bytes.now line reason c.in-Ok.ensures (c.leave.ensures.bad line reason (cc))

pub returns-in-Ok-write_board-clause-ok : goal.returns-in-Ok-write_board-clause-ok
returns-in-Ok-write_board-clause-ok c =
    reserve-ok c.args.outcome.now c.in-Ok.board c.leave.new.board c.args.bytes.now c.write_report.new.out.items c.leave.new.out.items c.write_board.new.out.items
    c.in-Ok.ensures c.in-Ok-leave.ensures.fault c.in-Ok-leave.ensures.board
    (c.in-Ok-write_report.ensures.ok ∙ ap (λ t. t ++ outcome_text c.args.outcome.now) c.new-text.ensures.items)
    c.in-Ok-leave.ensures.text c.in-Ok-write_board.ensures.ok
