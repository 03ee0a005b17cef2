use Rattle.std.proofs.Common.{ap, ◌∙◌, ◌++◌, Err, inr}
use Rattle.reserve_list.proofs.NameLemmas.{board-withdrawn, name_fault-known, name_fault-none, name_fault-unknown, words-withdrawn}
use Rattle.reserve_list.proofs.line.take_name.Goals as goal

pub returns-in-Ok-push_move-clause-fault : goal.returns-in-Ok-push_move-clause-fault
returns-in-Ok-push_move-clause-fault c = name_fault-none c.args.board.now c.args.name c.withdraw.new.self c.in-Ok.moved c.in-Ok.ensures.ok

pub returns-in-Ok-push_move-clause-board : goal.returns-in-Ok-push_move-clause-board
returns-in-Ok-push_move-clause-board c = board-withdrawn c.args.board.now c.args.name c.withdraw.new.self c.in-Ok.moved c.in-Ok.ensures.ok

pub returns-in-Ok-push_move-clause-text : goal.returns-in-Ok-push_move-clause-text
returns-in-Ok-push_move-clause-text c =
    c.in-Ok-push_move.ensures.ok ∙ ap (λ t. c.args.out.now.items ++ t) (words-withdrawn c.args.board.now c.args.name c.withdraw.new.self c.in-Ok.moved c.in-Ok.ensures.ok)

pub returns-in-Err-Unknown-clause-bad : goal.returns-in-Err-Unknown-clause-bad
returns-in-Err-Unknown-clause-bad c = λ reason e.
    let h = name_fault-unknown c.args.board.now c.args.name (c.withdraw.ensures.unknown.0 (c.in-Err-Unknown.is ∙ ap Err c.in-Err-Unknown.field-0-is)) in
    cc

pub returns-in-Err-Gone-clause-bad : goal.returns-in-Err-Gone-clause-bad
returns-in-Err-Gone-clause-bad c = λ reason e.
    let h = name_fault-known c.args.board.now c.args.name (c.withdraw.ensures.gone.0 (c.in-Err-Gone.is ∙ ap Err c.in-Err-Gone.field-0-is)) in
    cc

pub returns-in-Err-clause-left : goal.returns-in-Err-clause-left
returns-in-Err-clause-left c =
    inr (name_fault-none c.args.board.now c.args.name c.withdraw.new.self c.in-Ok.moved c.in-Ok.ensures.ok, board-withdrawn c.args.board.now c.args.name c.withdraw.new.self c.in-Ok.moved c.in-Ok.ensures.ok)
