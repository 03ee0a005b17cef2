use Rattle.std.proofs.Common.{◌++◌, ap, ◌∙◌, sym}
use Rattle.std.proofs.lemmas.List.{append-nil}
use Rattle.reserve_list.proofs.FileLemmas.{board-blank, board-of_line, fault-blank, fault-formed, fault-ill_formed, fault-of_line, left-of_line, moves-blank, text-of_line}
use Rattle.reserve_list.proofs.line.take_line.Goals as goal

pub returns-in-Nothing-clause-fault : goal.returns-in-Nothing-clause-fault
returns-in-Nothing-clause-fault c = fault-blank c.args.board.now c.args.line.now c.in-Nothing.ensures

pub returns-in-Nothing-clause-board : goal.returns-in-Nothing-clause-board
returns-in-Nothing-clause-board c = sym (board-blank c.args.board.now c.args.line.now c.in-Nothing.ensures)

pub returns-in-Nothing-clause-text : goal.returns-in-Nothing-clause-text
returns-in-Nothing-clause-text c =
    sym (ap (λ t. c.args.out.now.items ++ t) (moves-blank c.args.board.now c.args.line.now c.in-Nothing.ensures) ∙ append-nil c.args.out.now.items)

pub returns-in-Withdraw-clause-fault : goal.returns-in-Withdraw-clause-fault
returns-in-Withdraw-clause-fault c =
    let said = c.in-Withdraw.ensures in
    fault-of_line c.take_name.result c.args.board.now c.args.line.now c.in-Withdraw.name said.0 said.1 said.2 c.take_name.ensures.fault

pub returns-in-Withdraw-clause-board : goal.returns-in-Withdraw-clause-board
returns-in-Withdraw-clause-board c =
    let said = c.in-Withdraw.ensures in
    board-of_line c.take_name.result c.args.board.now c.args.line.now c.in-Withdraw.name said.0 said.1 said.2 c.take_name.new.board c.take_name.ensures.board

pub returns-in-Withdraw-clause-text : goal.returns-in-Withdraw-clause-text
returns-in-Withdraw-clause-text c =
    let said = c.in-Withdraw.ensures in
    text-of_line c.take_name.result c.args.board.now c.args.line.now c.in-Withdraw.name said.0 said.1 said.2 c.args.out.now.items c.take_name.new.out.items c.take_name.ensures.text

pub returns-in-Withdraw-clause-bad : goal.returns-in-Withdraw-clause-bad
returns-in-Withdraw-clause-bad c = λ reason e.
    let said = c.in-Withdraw.ensures in
    sym (fault-formed c.args.board.now c.args.line.now c.in-Withdraw.name said.0 said.1 said.2) ∙ c.take_name.ensures.bad reason e

pub returns-in-Bad-clause-bad : goal.returns-in-Bad-clause-bad
returns-in-Bad-clause-bad c = λ reason e.
    let said = c.in-Bad.ensures in
    let h = fault-ill_formed c.args.board.now c.args.line.now c.in-Bad.reason said.0 said.1 in
    cc

pub returns-in-Withdraw-clause-left : goal.returns-in-Withdraw-clause-left
returns-in-Withdraw-clause-left c =
    let said = c.in-Withdraw.ensures in
    left-of_line c.take_name.result c.args.board.now c.args.line.now c.in-Withdraw.name said.0 said.1 said.2 c.take_name.new.board c.take_name.ensures.left
