use Rattle.std.proofs.Common.{arith}
use Rattle.reserve_list.proofs.FileLemmas.{extends-twice, taken-bad, taken-board, taken-fault, taken-left, taken-more, taken-none, taken-text}
use Rattle.reserve_list.proofs.file.take_lines.Goals as goal

pub loop-line-init : goal.loop-line-init
loop-line-init c = taken-none c.args.board.now c.args.bytes.now c.args.out.now.items c.count-applicants.ensures.board

pub overflow_add-number : goal.overflow_add-number
overflow_add-number c = omega (arith, c.loop-line.invariant.few, c.in-Some.ensures.shorter)

pub loop-line-preserved : goal.loop-line-preserved
loop-line-preserved c =
    taken-more c.args.board.now c.args.bytes.now c.loop-line.rest.now c.in-Some.behind.now c.in-Some.line.now c.args.out.now.items c.loop-line.out.items c.take_line.new.out.items c.loop-line.number c.loop-line.board c.take_line.new.board
    c.count-applicants.ensures.board c.loop-line.invariant c.in-Some.ensures.found c.in-Some.ensures.shorter c.in-Ok.ensures.fault c.in-Ok.ensures.board c.in-Ok.ensures.text

pub returns-in-Err-Bad-clause-bad : goal.returns-in-Err-Bad-clause-bad
returns-in-Err-Bad-clause-bad c = λ line reason e.
    let h = taken-bad c.args.board.now c.args.bytes.now c.loop-line.rest.now c.in-Some.behind.now c.in-Some.line.now c.args.out.now.items c.loop-line.out.items c.loop-line.number c.loop-line.board c.in-Err-Bad.reason
    c.loop-line.invariant c.in-Some.ensures.found (c.take_line.ensures.bad c.in-Err-Bad.reason (cc)) in
    cc

pub returns-in-Err-Bad-clause-err : goal.returns-in-Err-Bad-clause-err
returns-in-Err-Bad-clause-err c = extends-twice c.args.out.now.items c.loop-line.out.items c.take_line.new.out.items c.loop-line.invariant.grows c.in-Err-Bad.ensures.extends

pub returns-in-Err-Memory-clause-err : goal.returns-in-Err-Memory-clause-err
returns-in-Err-Memory-clause-err c = extends-twice c.args.out.now.items c.loop-line.out.items c.take_line.new.out.items c.loop-line.invariant.grows c.in-Err-Memory.ensures.extends

pub returns-clause-fault : goal.returns-clause-fault
returns-clause-fault c = taken-fault c.args.board.now c.args.bytes.now c.loop-line.rest.now c.args.out.now.items c.loop-line.out.items c.loop-line.number c.loop-line.board c.loop-line.invariant c.in_default.ensures.none

pub returns-clause-board : goal.returns-clause-board
returns-clause-board c = taken-board c.args.board.now c.args.bytes.now c.loop-line.rest.now c.args.out.now.items c.loop-line.out.items c.loop-line.number c.loop-line.board c.loop-line.invariant c.in_default.ensures.none

pub returns-clause-text : goal.returns-clause-text
returns-clause-text c = taken-text c.args.board.now c.args.bytes.now c.loop-line.rest.now c.args.out.now.items c.loop-line.out.items c.loop-line.number c.loop-line.board c.loop-line.invariant c.in_default.ensures.none

pub returns-in-Err-Bad-clause-left : goal.returns-in-Err-Bad-clause-left
returns-in-Err-Bad-clause-left c =
    taken-left c.args.board.now c.args.bytes.now c.loop-line.rest.now c.in-Some.behind.now c.in-Some.line.now c.args.out.now.items c.loop-line.out.items c.loop-line.number c.loop-line.board c.take_line.new.board
    c.count-applicants.ensures.board c.loop-line.invariant c.in-Some.ensures.found c.in-Err-Bad.ensures.left

pub returns-in-Err-Memory-clause-left : goal.returns-in-Err-Memory-clause-left
returns-in-Err-Memory-clause-left c =
    taken-left c.args.board.now c.args.bytes.now c.loop-line.rest.now c.in-Some.behind.now c.in-Some.line.now c.args.out.now.items c.loop-line.out.items c.loop-line.number c.loop-line.board c.take_line.new.board
    c.count-applicants.ensures.board c.loop-line.invariant c.in-Some.ensures.found c.in-Err-Memory.ensures.left
